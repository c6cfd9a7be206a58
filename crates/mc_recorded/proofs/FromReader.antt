-- What is taken from mc_reader.
use Rattle.mc_reader.specs.Laws.{OneReply}
use Rattle.mc_reader.proofs.Unique as reader

pub one_reply : OneReply
one_reply = reader.one_reply
