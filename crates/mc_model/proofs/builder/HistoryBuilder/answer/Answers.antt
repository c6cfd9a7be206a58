use Rattle.mc_protocol.specs.declared.actor.Actor.TheVariants as actor
use Rattle.mc_model.specs.Sections.{Sections}
use Rattle.mc_model.proofs.Answering.{kept}
use Rattle.mc_model.proofs.builder.HistoryBuilder.answer.Goals as goal

pub invariant_of-self : goal.invariant_of-self
invariant_of-self c =
    let s : Sections = record { p = c.self.inside.p.items; a = c.self.inside.a.items; b = c.self.inside.b.items } in
    let called = c.answer_last in
    kept called.result s actor.P called.new.section.items c.args.reply c.self.inside.keys c.self.invariant called.ensures.ok called.ensures.fits
    called.ensures.err

pub returns-in-P-clause-keeps : goal.returns-in-P-clause-keeps
returns-in-P-clause-keeps c = (invariant_of-self c).0

pub invariant_of-self-in-A : goal.invariant_of-self-in-A
invariant_of-self-in-A c =
    let s : Sections = record { p = c.self.inside.p.items; a = c.self.inside.a.items; b = c.self.inside.b.items } in
    let called = c.answer_last-in-A in
    kept called.result s actor.A called.new.section.items c.args.reply c.self.inside.keys c.self.invariant called.ensures.ok called.ensures.fits
    called.ensures.err

pub returns-in-A-clause-keeps : goal.returns-in-A-clause-keeps
returns-in-A-clause-keeps c = (invariant_of-self-in-A c).0

pub invariant_of-self-in-B : goal.invariant_of-self-in-B
invariant_of-self-in-B c =
    let s : Sections = record { p = c.self.inside.p.items; a = c.self.inside.a.items; b = c.self.inside.b.items } in
    let called = c.answer_last-in-B in
    kept called.result s actor.B called.new.section.items c.args.reply c.self.inside.keys c.self.invariant called.ensures.ok called.ensures.fits
    called.ensures.err

pub returns-in-B-clause-keeps : goal.returns-in-B-clause-keeps
returns-in-B-clause-keeps c = (invariant_of-self-in-B c).0
