use Rattle.std.proofs.Common.{◌≡◌, Some, refl}
use Rattle.mc_model.specs.Next.{last_of}
use Rattle.mc_model.proofs.Answering.{last_is, set_last}
use Rattle.mc_model.proofs.builder.answer_last.Goals as goal

-- the last request, to which `last_mut` refers
last : (c : goal.Joined-sent) → last_of c.args.section.now.items ≡ Some c.in-Some.sent.now
last c = last_is c.args.section.now.items c.args.section.now.len c.in-Some.sent.now c.args.section.now.ok.0 c.in-Some.ensures.item.3.0 c.in-Some.ensures.value

pub returns-clause-ok : goal.returns-clause-ok
returns-clause-ok c = set_last c.args.section.now.items c.args.section.now.len c.in-Some.sent.now c.args.reply c.args.section.now.ok.0 (last c)

pub returns-clause-fits : goal.returns-clause-fits
returns-clause-fits c =
    rw (last c, ← c.is_some.ensures, ← c.fits.ensures, c.if-is_some.false, c.if-not-fits.false) refl
