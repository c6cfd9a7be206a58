use Rattle.std.proofs.{Common.ℕ, Common.List, Common.Bor, Common.sym, lemmas.List.take_rest, lemmas.List.drop-map}
use Rattle.mc_script_text.proofs.read_entry.words_after.Goals as goal

pub returns-then-count-words : goal.returns-then-count-words
returns-then-count-words c =
    rw (take_rest c.args.words.now c.args.count) (sym (drop-map (λ (w : Bor (List ℕ)). w.now) c.args.count c.args.words.now))
