use Rattle.std.proofs.Common.{ap, ◌∙◌, ◌≡◌}
use Rattle.std.specs.FinMap.{remove}
use Rattle.mc_model.specs.Contents.{contents_of}
use Rattle.mc_model.proofs.Entries.{pushed_entry}
use Rattle.mc_model.proofs.cache.Cache.put.Goals as goal

pub returns-clause-ok : goal.returns-clause-ok
returns-clause-ok c =
    let kept : contents_of c.remove_key.new.entries.items ≡ remove c.args.self.now c.args.key =
    c.remove_key.ensures.removes
    ∙ ap (λ es. remove (contents_of es) c.as_slice.result.now) c.reserve.ensures.items
    ∙ ap (λ m. remove m c.as_slice.result.now) c.self.view_is
    ∙ ap (remove c.args.self.now) c.as_slice.ensures in
    ap contents_of c.push_reserved.ensures.items ∙ pushed_entry c.args.self.now c.remove_key.new.entries.items c.args.key c.args.item kept
