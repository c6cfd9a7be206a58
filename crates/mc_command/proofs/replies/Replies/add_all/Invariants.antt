use Rattle.std.proofs.Common.{List, ◌++◌, take}
use Rattle.mc_model.specs.declared.sent.Sent.{Sent}
use Rattle.mc_command.specs.Replies.{CountsRequests}
use Rattle.mc_command.proofs.replies.Replies.add_all.Given as goal

abbrev pub invariant-requests : goal.invariant-requests
invariant-requests l = (earlier : List Sent) → CountsRequests earlier l.fn.self → CountsRequests (earlier ++ take l.sent-index l.section) l.self
