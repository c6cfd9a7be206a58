use Rattle.std.proofs.Common.{not, ap, rules, ◌∙◌}
use Rattle.std.proofs.lemmas.Fn.{filter_same}
use Rattle.mc_model.specs.Contents.{contents_of}
use Rattle.std.specs.Str.{bytes_eq}
use Rattle.mc_model.proofs.Entries.{kept_entries}
use Rattle.mc_model.proofs.cache.remove_key.Goals as goal

pub returns-clause-removes : goal.returns-clause-removes
returns-clause-removes c =
    ap contents_of (filter_same _ (λ e. not (bytes_eq e.0 c.args.key.now)) _ (λ x b f' k. search rules) _ _ c.retain.ensures.filtered)
    ∙ kept_entries c.args.key.now c.args.entries.now.items
