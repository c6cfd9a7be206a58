use Rattle.std.proofs.Common.{◌≡◌, true, slice_get, subst, ◌∙◌}
use Rattle.mc_code.specs.Code.{instructions_in}
use Rattle.mc_machine.specs.Machine as spec
use Rattle.mc_machine.specs.Moves as moves
use Rattle.mc_machine.proofs.Moving.{taken_goes, taken_answers, answered_stands}
use Rattle.mc_machine.proofs.machine.Machine.answer.Goals as goal

pub settle-requires-clause-goes : goal.settle-requires-clause-goes
settle-requires-clause-goes c =
    rw c.code-code.ensures.code (taken_goes c.args.checked.now.code c.args.self.now c.take.new.self c.args.reply.now c.requires.stands c.requires.fits
    (subst (λ code. moves.IsTaken code c.args.self.now c.args.reply.now c.take.new.self) c.code-code.ensures.code c.take.ensures.taken))

pub returns-clause-stands : goal.returns-clause-stands
returns-clause-stands c =
    let stands = c.requires.stands in
    let fits = c.requires.fits in
    let is = c.code-code.ensures.code in
    let takes = subst (λ code. moves.IsTaken code c.args.self.now c.args.reply.now c.take.new.self) is c.take.ensures.taken in
    let follows = subst (λ code. moves.Follows code c.take.new.self c.settle.new.self) is c.settle.ensures.follows in
    let waits = subst (λ code. spec.waits_at (slice_get (instructions_in code c.settle.new.self.actor) c.settle.new.self.place) ≡ true) is
    c.settle.ensures.waits in
    answered_stands c.args.checked.now.code c.args.self.now c.settle.new.self c.args.reply.now stands fits
    (taken_answers c.args.checked.now.code c.args.self.now c.take.new.self c.settle.new.self c.args.reply.now takes follows waits
    (c.settle.ensures.outstanding ∙ c.take.ensures.idle))

pub returns-clause-answered : goal.returns-clause-answered
returns-clause-answered c =
    let is = c.code-code.ensures.code in
    let takes = subst (λ code. moves.IsTaken code c.args.self.now c.args.reply.now c.take.new.self) is c.take.ensures.taken in
    let follows = subst (λ code. moves.Follows code c.take.new.self c.settle.new.self) is c.settle.ensures.follows in
    let waits = subst (λ code. spec.waits_at (slice_get (instructions_in code c.settle.new.self.actor) c.settle.new.self.place) ≡ true) is
    c.settle.ensures.waits in
    taken_answers c.args.checked.now.code c.args.self.now c.take.new.self c.settle.new.self c.args.reply.now takes follows waits
    (c.settle.ensures.outstanding ∙ c.take.ensures.idle)
