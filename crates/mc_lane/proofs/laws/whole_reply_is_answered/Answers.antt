use Rattle.mc_reader.proofs.Unique.{one_reply}
use Rattle.mc_lane.proofs.WholeReplies.{whole_reply_is_answered as law}
use Rattle.mc_lane.proofs.laws.whole_reply_is_answered.Goals as goal

pub returns : goal.returns
returns c = law one_reply
