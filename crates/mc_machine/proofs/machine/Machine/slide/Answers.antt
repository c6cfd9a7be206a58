use Rattle.std.proofs.Common.{rules, ◌≡◌, ◌+◌, ◌<◌, ◌≤◌, length, slice_get, refl, ap, sym, subst, ◌∙◌, arith}
use Rattle.mc_code.specs.declared.instr.Instr.TheVariants as instr
use Rattle.mc_code.specs.{Code.instructions_in, declared.limits.TheConstants.INSTRUCTIONS_LIMIT}
use Rattle.mc_machine.specs.{declared.machine.Machine.Machine, Moves.Follows}
use Rattle.mc_machine.proofs.Moving.{goes_inside, goes_declared, goes_short, bind_ahead, follows_bind, follows_goto}
use Rattle.mc_machine.proofs.machine.Machine.slide.Goals as goal

pub instruction-requires : goal.instruction-requires
instruction-requires c =
    subst (λ n. n < length (instructions_in c.args.code.now c.args.self.now.actor)) (sym c.from.ensures)
    (goes_inside c.args.code.now c.args.self.now c.requires.sound c.requires.goes)

pub bind-requires : goal.bind-requires
bind-requires c =
    let at = ap (slice_get (instructions_in c.args.code.now c.args.self.now.actor)) (sym c.from.ensures) ∙ c.in-Bind.ensures.instruction in
    goes_declared c.args.code.now c.args.self.now c.in-Bind.variable c.requires.sound c.in-Bind.ensures.kept at

pub overflow_add-self : goal.overflow_add-self
overflow_add-self c =
    let at = ap (slice_get (instructions_in c.args.code.now c.args.self.now.actor)) (sym c.from.ensures) ∙ c.in-Bind.ensures.instruction in
    let ahead = (bind_ahead c.args.code.now c.args.self.now c.in-Bind.variable c.requires.sound c.in-Bind.ensures.kept at).1 in
    let same = ap (λ (m : Machine). m.place) c.bind.ensures in
    omega (arith, ahead, same)

pub returns-in-Bind-clause-follows : goal.returns-in-Bind-clause-follows
returns-in-Bind-clause-follows c =
    let at = ap (slice_get (instructions_in c.args.code.now c.args.self.now.actor)) (sym c.from.ensures) ∙ c.in-Bind.ensures.instruction in
    let size : length c.args.self.now.numbers ≡ 16 = search rules in
    let few = c.in-Bind.ensures.kept.vars in
    let long : c.args.code.now.vars ≤ length c.args.self.now.numbers = omega (arith, size, few) in
    subst (λ (n : Machine). Follows c.args.code.now c.args.self.now (record n { place = n.place + 1 })) (sym c.bind.ensures)
    (follows_bind c.args.code.now c.args.self.now c.in-Bind.variable c.requires.sound at long)

pub returns-in-Bind-clause-moves : goal.returns-in-Bind-clause-moves
returns-in-Bind-clause-moves c e =
    let at = ap (slice_get (instructions_in c.args.code.now c.args.self.now.actor)) (sym c.from.ensures) ∙ c.in-Bind.ensures.instruction in
    subst (λ (n : Machine). (c.args.self.now.place < n.place + 1) × (n.place + 1 < INSTRUCTIONS_LIMIT)) (sym c.bind.ensures)
    (bind_ahead c.args.code.now c.args.self.now c.in-Bind.variable c.requires.sound c.in-Bind.ensures.kept at)

pub returns-in-Goto-clause-follows : goal.returns-in-Goto-clause-follows
returns-in-Goto-clause-follows c =
    let at = ap (slice_get (instructions_in c.args.code.now c.args.self.now.actor)) (sym c.from.ensures) ∙ c.in-Goto.ensures.instruction in
    follows_goto c.args.code.now c.args.self.now c.in-Goto.place at

pub returns-in-Goto-clause-moves : goal.returns-in-Goto-clause-moves
returns-in-Goto-clause-moves c e =
    let at = ap (slice_get (instructions_in c.args.code.now c.args.self.now.actor)) (sym c.from.ensures) ∙ c.in-Goto.ensures.instruction in
    goes_short c.args.code.now c.args.self.now (instr.Goto c.in-Goto.place) c.in-Goto.place c.requires.sound c.in-Goto.ensures.kept at refl
