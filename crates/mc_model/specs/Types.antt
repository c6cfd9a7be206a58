-- The types that the definitions speak of.
pub use Rattle.mc_protocol.specs.declared.{actor.Actor.Actor, reply.Class.Class, reply.Reply.Reply, request.Fields.Fields}
pub use Rattle.mc_protocol.specs.declared.limits.TheConstants.{KEYS_LIMIT, REPLY_BODY_LIMIT, REQUESTS_LIMIT}
pub use Rattle.mc_protocol.specs.{declared.request.Request.Request, declared.request.Verb.Verb, Lines.Word}
pub use Rattle.mc_model.specs.declared.{act.Choice.Choice, cache.Item.Item, note.Note.Note, numeral.Numeral.Numeral}
pub use Rattle.mc_model.specs.declared.{rules.HistoryKind.HistoryKind, sent.Sent.Sent}
pub use Rattle.mc_model.specs.declared.numeral.Numeral.TheVariants.{NoNumber, Is, MayBe}
