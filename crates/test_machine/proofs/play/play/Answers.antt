use Rattle.std.proofs.Common.{◌≡◌, ◌≢◌, ◌⊎◌, inl, inr, [], refl, sym, ◌∙◌}
use Rattle.mc_protocol.specs.declared.actor.Actor.{Actor}
use Rattle.mc_protocol.specs.declared.actor.Actor.TheVariants as actor
use Rattle.mc_code.specs.{Code.Code, Standing.no_variables}
use Rattle.mc_machine.proofs.Standing.{ends_start_branches}
use Rattle.test_machine.proofs.play.play.Goals as goal

is_branch : (branch : Actor) → (branch ≡ actor.A) ⊎ (branch ≡ actor.B) → branch ≢ actor.P
is_branch branch (inl a) e = let clash : actor.P ≡ actor.A = sym e ∙ a in absurd (cc)
is_branch branch (inr b) e = let clash : actor.P ≡ actor.B = sym e ∙ b in absurd (cc)

pub follow-requires-clause-stands : goal.follow-requires-clause-stands
follow-requires-clause-stands c =
    let empty = no_variables c.args.checked.now.code in
    let starts = c.start-p.ensures.stands empty refl in
    (empty, [], starts.0, starts.1)

pub start-machine-requires : goal.start-machine-requires
start-machine-requires c =
    let code : Code = c.args.checked.now.code in
    let stands = c.follow.ensures.stands in
    let comes = (c.at_halt.ensures stands.0 stands.1 stands.2 stands.3).0 c.if-not-at_halt.false in
    let is = c.follow.ensures.actor ∙ c.start-p.ensures.actor in
    let starts = ends_start_branches code c.follow.new.machine c.args.branch stands.0 stands.1 stands.2 stands.3 is comes (is_branch c.args.branch c.in-A.is) in
    record { begins = (stands.2.variables, rw c.numbers.ensures starts.0) }

pub follow-requires-2-clause-stands : goal.follow-requires-2-clause-stands
follow-requires-2-clause-stands c =
    let code : Code = c.args.checked.now.code in
    let stands = c.follow.ensures.stands in
    let comes = (c.at_halt.ensures stands.0 stands.1 stands.2 stands.3).0 c.if-not-at_halt.false in
    let is = c.follow.ensures.actor ∙ c.start-p.ensures.actor in
    let starts = ends_start_branches code c.follow.new.machine c.args.branch stands.0 stands.1 stands.2 stands.3 is comes (is_branch c.args.branch c.in-A.is) in
    let branch = c.start-machine.ensures.stands stands.2.variables (rw c.numbers.ensures starts.0) in
    (stands.2.variables, [], branch.0, branch.1)
