use Rattle.std.proofs.Common.{ap, ap₂, cond, ◌∙◌, ◌+◌, ◌++◌, ◌&&◌, is_some}
use Rattle.std.specs.List.{flat_map}
use Rattle.mc_command.specs.Replies.{capped}
use Rattle.mc_command.specs.Statistics.{Recorded, has_a_first, has_both, has_overlap, is_before, requests_of}
use Rattle.mc_command.proofs.MoreAnswers.{more_requests, one_more_counted, one_more_run}
use Rattle.mc_command.proofs.statistics.Statistics.add.Goals as goal

pub returns : goal.returns
returns c runs are =
    let run : Recorded = record { notes = c.args.notes.now; history = c.args.history.now } in
    let old = c.args.self.now in
    let a = c.first_reply-a.ensures in
    let b = c.first_reply-b.ensures in
    let overlap = ap (λ x. capped (old.overlapped + cond x 1 0)) c.overlaps.ensures in
    let both = ap (λ x. capped (old.answered + cond x 1 0)) (c.are_both.ensures ∙ ap₂ (λ one other. is_some one && is_some other) a b) in
    let first = ap (λ x. capped (old.a_first + cond x 1 0)) (c.is_before.ensures ∙ ap₂ is_before a b) in
    let requests = flat_map requests_of runs in
    let of_p = c.add_all.ensures requests are.replies in
    let of_a = c.add_all-2.ensures (requests ++ c.sent.result.now) of_p in
    let of_b = c.add_all-3.ensures ((requests ++ c.sent.result.now) ++ c.sent-2.result.now) of_a in
    record {
      runs_counted = c.more-self.ensures ∙ one_more_run runs run old.runs are.runs_counted;
      overlapped = c.more-self-2.ensures ∙ (overlap ∙ one_more_counted has_overlap runs run old.overlapped are.overlapped);
      answered = c.more-self-3.ensures ∙ (both ∙ one_more_counted has_both runs run old.answered are.answered);
      a_first = c.more-self-4.ensures ∙ (first ∙ one_more_counted has_a_first runs run old.a_first are.a_first);
      replies = rw (more_requests runs run _ _ _ c.sent.ensures.sent c.sent-2.ensures.sent c.sent-3.ensures.sent) of_b;
    }
