use Rattle.mc_recorded.proofs.Fronts.{whole_reply, no_whole_reply}
use Rattle.mc_recorded.proofs.front.read_front.Goals as goal

pub returns-in-Ok-Done : goal.returns-in-Ok-Done
returns-in-Ok-Done c =
    whole_reply c.args.request.now.verb c.args.request.now.key c.as_slice.result.now c.new.result c.args.bytes.now c.feed.new.self.fed
    c.in-Ok-Done.field-0 c.in-Ok-Done.reply c.in-Ok-Done.used c.as_slice.ensures c.new.ensures.new c.in-Ok-Done.field-0-is
    c.in-Ok-Done.ensures.answer

pub returns-in-Ok-More : goal.returns-in-Ok-More
returns-in-Ok-More c =
    no_whole_reply c.args.request.now.verb c.args.request.now.key c.as_slice.result.now c.new.result c.args.bytes.now c.feed.new.self.fed
    c.in-Ok-More.field-0 c.as_slice.ensures c.new.ensures.new c.in-Ok-More.field-0-is c.in-Ok-More.ensures.answer
