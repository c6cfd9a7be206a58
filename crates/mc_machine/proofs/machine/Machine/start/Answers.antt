use Rattle.std.proofs.Common.{◌≡◌, true, None, [], slice_get, subst}
use Rattle.mc_code.specs.{Code.instructions_in, States.initial_state}
use Rattle.mc_machine.specs.declared.machine.Machine.{Machine}
use Rattle.mc_machine.specs.Machine as spec
use Rattle.mc_machine.specs.Moves as moves
use Rattle.mc_machine.proofs.{Moving.stands_after, Standing.starts_goes, Standing.starts_on_way}
use Rattle.mc_machine.proofs.machine.Machine.start.Goals as goal

pub settle-requires-clause-goes : goal.settle-requires-clause-goes
settle-requires-clause-goes c =
    rw c.code.ensures.code (starts_goes c.args.checked.now.code c.args.actor c.args.numbers c.first_numbers.result c.requires.begins c.first_numbers.ensures)

pub returns-clause-stands : goal.returns-clause-stands
returns-clause-stands c variables starts =
    let n = c.settle.new.self in
    let is = c.code.ensures.code in
    let begins : Machine = record { actor = c.args.actor; place = 0; numbers = c.first_numbers.result; shown = 0; outstanding = None } in
    let follows = subst (λ code. moves.Follows code begins n) is c.settle.ensures.follows in
    let waits = subst (λ code. spec.waits_at (slice_get (instructions_in code n.actor) n.place) ≡ true) is c.settle.ensures.waits in
    let way = starts_on_way c.args.checked.now.code c.args.actor c.args.numbers c.first_numbers.result variables starts
    (c.first_numbers.ensures c.args.checked.now.code variables starts) in
    let after = follows variables [] (initial_state variables) way in
    (after.0, stands_after c.args.checked.now.code n variables [] after.0 after.1 waits c.settle.ensures.outstanding)
