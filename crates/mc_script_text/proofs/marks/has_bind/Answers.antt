use Rattle.std.proofs.Common.{List, ℕ, Bor, sym, ◌∙◌}
use Rattle.mc_script_text.specs.Reading.{binds}
use Rattle.mc_script_text.proofs.Lists.{any_over_map}
use Rattle.mc_script_text.proofs.marks.has_bind.Goals as goal

pub returns : goal.returns
returns c =
    c.any_binds.ensures ∙ sym (any_over_map binds (λ (w : Bor (List ℕ)). w.now) c.args.words.now)
