use Rattle.std.proofs.Common.{◌∷◌, [], ◌++◌, take, append_assoc, append-nil, sym}
use Rattle.mc_command.proofs.MoreNotes.{taken_more}
use Rattle.mc_command.proofs.replies.Replies.add_all.Goals as goal

pub requests-init : goal.requests-init
requests-init c earlier counts = rw (append-nil earlier) counts

pub requests-preserved : goal.requests-preserved
requests-preserved c earlier counts =
    let before = take c.requests.sent-index c.args.section.now in
    let sent = c.sent-item.result in
    let more = taken_more c.args.section.now c.requests.sent-index sent c.requests-test.true c.sent-item.is in
    let added = c.add.ensures (earlier ++ before) (c.requests.invariant earlier counts) in
    rw (more, sym (append_assoc earlier before (sent ∷ []))) added
