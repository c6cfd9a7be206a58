use Rattle.std.proofs.Common.{rules, ◌≢◌, ◌∙◌}
use Rattle.mc_server.specs.declared.served.Why.TheVariants.{WriteFailed}
use Rattle.mc_server.proofs.Ending.{finish_early, finish_late}
use Rattle.mc_server.proofs.conversation.Conversation.finish.Goals as goal

pub returns-in-Err-clause-finishes : goal.returns-in-Err-clause-finishes
returns-in-Err-clause-finishes g c =
    let other : c.args.why ≢ WriteFailed = search rules in
    finish_early c.args.self.now.held.items (g.S.Stream.state c.args.stream.now) (g.S.Stream.state c.flush.new.stream) c.args.why c.in-Err.failed
    other c.in-Err.ensures.written

pub returns-in-Err-write_all-clause-finishes : goal.returns-in-Err-write_all-clause-finishes
returns-in-Err-write_all-clause-finishes g c =
    let other : c.args.why ≢ WriteFailed = search rules in
    finish_late c.args.self.now.held.items c.as_bytes.result.now (g.S.Stream.state c.args.stream.now) (g.S.Stream.state c.flush.new.stream)
    (g.S.Stream.state c.write_all.new.stream) c.args.why c.in-Err-write_all.failed other (c.as_bytes.ensures.value ∙ c.last_line.ensures)
    c.in_default.ensures.written c.in-Err-write_all.ensures
