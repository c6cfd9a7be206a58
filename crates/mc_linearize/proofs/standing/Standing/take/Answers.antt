use Rattle.std.proofs.Common.{◌≡◌, ◌<◌, ◌+◌, ◌∙◌, length, get_or, set, sym, ap, subst, arith}
use Rattle.std.proofs.lemmas.List.{get_or_read}
use Rattle.mc_timeline.specs.{Operations.Operation, Queues.Queues, Queues.NoNextCameBefore}
use Rattle.mc_linearize.specs.Standing.{left_by, HasBegan, NoneBegan, MayAct, ActsNext}
use Rattle.mc_linearize.proofs.Settling.{none_acts, none_after, acts_next}
use Rattle.mc_linearize.proofs.standing.Standing.take.Goals as goal

pub returns-in_default : goal.returns-in_default
returns-in_default c =
    let queues = c.self.inside.queues.items in
    let counts = c.self.inside.counts.items in
    let place = c.self.inside.place in
    let none : NoneBegan queues counts place c.args.client =
    subst (λ q. NoneBegan q counts place c.args.client) c.as_slice.ensures.value
    (subst (λ k. NoneBegan c.as_slice.result.now k place c.args.client) c.as_slice-2.ensures.value c.in_default.ensures) in
    subst (λ l. (x : Operation) (after_it : Queues) → MayAct c.args.client l x after_it → ⊥) c.self.view_is
    (none_acts c.self.inside.notes.now queues counts place c.args.client c.self.invariant none)

pub overflow_add-index_mut : goal.overflow_add-index_mut
overflow_add-index_mut c =
    let queues = c.self.inside.queues.items in
    let counts = c.self.inside.counts.items in
    let client = c.args.client in
    let place = c.self.inside.place in
    let has : HasBegan queues counts place client c.in-Some.operation.now =
    subst (λ q. HasBegan q counts place client c.in-Some.operation.now) c.as_slice.ensures.value
    (subst (λ k. HasBegan c.as_slice.result.now k place client c.in-Some.operation.now) c.as_slice-2.ensures.value c.in-Some.ensures) in
    let there = has.client_there in
    let same = c.self.invariant.counted in
    let less : client < length counts = omega arith in
    let count : c.index_mut.result.now ≡ get_or counts client 0 = get_or_read counts client c.index_mut.result.now less c.index_mut.ensures.value 0 in
    let fits = has.counted in
    omega arith

pub settled-self-inside-requires-clause-none : goal.settled-self-inside-requires-clause-none
settled-self-inside-requires-clause-none c =
    let queues = c.self.inside.queues.items in
    let counts = c.self.inside.counts.items in
    let client = c.args.client in
    let place = c.self.inside.place in
    let has : HasBegan queues counts place client c.in-Some.operation.now =
    subst (λ q. HasBegan q counts place client c.in-Some.operation.now) c.as_slice.ensures.value
    (subst (λ k. HasBegan c.as_slice.result.now k place client c.in-Some.operation.now) c.as_slice-2.ensures.value c.in-Some.ensures) in
    let there = has.client_there in
    let same = c.self.invariant.counted in
    let less : client < length counts = omega arith in
    let count : c.index_mut.result.now ≡ get_or counts client 0 = get_or_read counts client c.index_mut.result.now less c.index_mut.ensures.value 0 in
    let after_it : c.as_slice-4.result.now ≡ set counts client (get_or counts client 0 + 1) =
    c.as_slice-4.ensures.value ∙ ap (λ k. set counts client (k + 1)) count in
    subst (λ q. NoNextCameBefore place (left_by q c.as_slice-4.result.now)) (sym c.as_slice-3.ensures.value)
    (subst (λ k. NoNextCameBefore place (left_by queues k)) (sym after_it)
    (none_after c.self.inside.notes.now queues counts place client c.in-Some.operation.now c.self.invariant has.client_there has.next))

pub returns : goal.returns
returns c =
    let queues = c.self.inside.queues.items in
    let counts = c.self.inside.counts.items in
    let client = c.args.client in
    let place = c.self.inside.place in
    let has : HasBegan queues counts place client c.in-Some.operation.now =
    subst (λ q. HasBegan q counts place client c.in-Some.operation.now) c.as_slice.ensures.value
    (subst (λ k. HasBegan c.as_slice.result.now k place client c.in-Some.operation.now) c.as_slice-2.ensures.value c.in-Some.ensures) in
    let there = has.client_there in
    let same = c.self.invariant.counted in
    let less : client < length counts = omega arith in
    let count : c.index_mut.result.now ≡ get_or counts client 0 = get_or_read counts client c.index_mut.result.now less c.index_mut.ensures.value 0 in
    subst (λ l. ActsNext client l c.copy-operation.result (left_by queues (set counts client (c.index_mut.result.now + 1)))) c.self.view_is
    (subst (λ k. ActsNext client (left_by queues counts) c.copy-operation.result (left_by queues (set counts client (k + 1)))) (sym count)
    (subst (λ (x : Operation). ActsNext client (left_by queues counts) x (left_by queues (set counts client (get_or counts client 0 + 1))))
    (sym c.copy-operation.ensures)
    (acts_next c.self.inside.notes.now queues counts place client c.in-Some.operation.now c.self.invariant has.client_there has.next has.began)))
