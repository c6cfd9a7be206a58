use Rattle.std.proofs.Common.{◌≡◌, ◌≢◌, ℕ, ◌<◌, true, Some, List, length, get_or, take, map-id, sym, ap, ◌∙◌}
use Rattle.std.proofs.lemmas.{Option.slice_get-get_or, Iterator.Adapters.YieldsList-from_vec}
use Rattle.std.proofs.lemmas.Iterator.Consumers.{YieldsList-turn, YieldsList-so_far}
use Rattle.mc_model.specs.declared.rules.HistoryKind.TheVariants.{OutOfMemory}
use Rattle.mc_model.specs.{Types.Actor, Types.Sent, Types.HistoryKind, Sections.Sections, History.is_history, History.fault_at, Next.with_section, Next.FailsAt}
use Rattle.mc_model.proofs.history.push_all.Goals as goal

-- the requests that were added, and the faulty one after them
fails : (s : Sections) (who : Actor) (requests added : List Sent) (sent : Sent) (kind : HistoryKind) (place : ℕ) → place ≡ length added
    → added ≡ take (length added) requests → (length added < length requests) × (sent ≡ get_or requests (length added) sent)
    → is_history (with_section s who added) ≡ true → fault_at (with_section s who added) who sent ≡ Some kind → FailsAt s who requests kind place
fails s who requests added sent kind place at front turn h fault = record {
  history = rw (at, ← front) h;
  sent = sent;
  request = rw at (slice_get-get_or requests (length added) sent turn.0 ∙ ap Some (sym turn.1));
  fault = rw (at, ← front) fault;
}

pub returns-in-Err-clause-fault : goal.returns-in-Err-clause-fault
returns-in-Err-clause-fault c = λ other.
    let road = YieldsList-from_vec c.args.section.items (cc) (cc) in
    let turn = YieldsList-turn road c.requests.yielded c.requests.sent-iterator c.requests.yielded_by c.next.result c.next.new.self c.in-Some.sent c.in-Some.is
    c.next.ensures.steps in
    let front = YieldsList-so_far road c.requests.yielded c.requests.sent-iterator c.requests.yielded_by in
    let h : is_history (with_section c.args.builder.now c.args.actor c.requests.yielded) ≡ true =
    rw (← c.requests.invariant.sections, ← c.in-Err.ensures.err) c.push.ensures.keeps in
    let kind : c.in-Err.kind ≢ OutOfMemory = rw c.fault_at.ensures.kind at other in
    let fault : fault_at (with_section c.args.builder.now c.args.actor c.requests.yielded) c.args.actor c.in-Some.sent ≡ Some c.in-Err.kind =
    rw (← c.requests.invariant.sections) (c.in-Err.ensures.fault kind) in
    let located = c.fault_at.ensures.place kind in
    let there = fails c.args.builder.now c.args.actor c.args.section.items c.requests.yielded c.in-Some.sent c.in-Err.kind c.requests.place
    c.requests.invariant.place (sym (map-id c.requests.yielded) ∙ front) turn h fault in
    (located.0, rw (c.fault_at.ensures.kind, located.1) there)
