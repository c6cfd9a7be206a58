use Rattle.std.proofs.Common.{◌∙◌, sym}
use Rattle.mc_record.proofs.Starts.{last_start}
use Rattle.mc_record.proofs.key_record.restart.Goals as goal

pub returns : goal.returns
returns c =
    last_start c.args.timeline.now c.split_at.result.0.now c.split_at.result.1.now _ _ _ c.started_with.result
    (sym c.notes-notes.ensures.notes ∙ c.split_at.ensures.by_index.0) c.in_ok-client.ensures.notes c.in_ok-client.ensures.starts
    c.started_with.ensures
