use Rattle.std.proofs.Common.{slice_get, ap, sym, subst, ◌∙◌}
use Rattle.mc_code.specs.Code.{instructions_in}
use Rattle.mc_code.proofs.LookUps.{some_is}
use Rattle.mc_machine.specs.Moves as moves
use Rattle.mc_machine.proofs.Moving.{sends_there, sends_alone, taken, takes_reply}
use Rattle.mc_machine.proofs.machine.Machine.take.Goals as goal

pub returns-clause-taken : goal.returns-clause-taken
returns-clause-taken c =
    let at = ap (slice_get (instructions_in c.args.code.now c.args.self.now.actor)) (sym c.from.ensures) ∙ c.in-Send.ensures.instruction in
    subst (λ n. moves.IsTaken c.args.code.now c.args.self.now c.args.reply.now (taken c.args.self.now n c.number_shown-self.result))
    (sym c.place_after-self.ensures)
    (takes_reply c.args.code.now c.args.self.now c.args.reply.now c.in-Send.template c.in-Send.next c.number_shown-self.result
    c.requires.sound c.requires.fits at c.number_shown-self.ensures)

pub unreachable-requires : goal.unreachable-requires
unreachable-requires c =
    let stands = c.requires.stands in
    let fits = c.requires.fits in
    let sends = sends_there c.args.code.now c.args.self.now stands.0 stands.1 stands.2 fits.0 stands.3 fits.1 in
    let at = ap (slice_get (instructions_in c.args.code.now c.args.self.now.actor)) (sym c.from.ensures) ∙ c.instruction.ensures.instruction in
    sends_alone c.instruction.result fits.0.template sends.0 (some_is _ _ (sym at ∙ sends.1)) c.in-Bind.is
