use Rattle.std.proofs.Common.{◌≡◌, ◌≢◌, ℕ, ◌<◌, true, Some, List, length, get_or, take, map-id, sym, ap, ◌∙◌}
use Rattle.std.proofs.lemmas.{Option.slice_get-get_or, Iterator.Adapters.YieldsList-from_vec}
use Rattle.std.proofs.lemmas.Iterator.Consumers.{YieldsList-turn, YieldsList-so_far}
use Rattle.mc_model.specs.Notes.{Noted, is_record, fault_of, IsFirstFaultOfNotes}
use Rattle.mc_model.specs.{Types.Actor, Types.Note, Types.HistoryKind, declared.rules.HistoryKind.TheVariants.OutOfMemory}
use Rattle.mc_model.proofs.NoteFaults.{no_record}
use Rattle.mc_model.proofs.history.History.noted.Goals as goal

-- the notes that were added, and the faulty one after them
fails : (notes added : List Noted) (who : Actor) (next : Note) (kind : HistoryKind) (place : ℕ) → place ≡ length added → added ≡ take (length added) notes
    → (length added < length notes) × ((who, next) ≡ get_or notes (length added) (who, next)) → is_record added ≡ true → fault_of added (who, next) ≡ Some kind
    → IsFirstFaultOfNotes notes kind who place
fails notes added who next kind place at front turn h fault = record {
  history = rw (at, ← front) h;
  note = next;
  noted = rw at (slice_get-get_or notes (length added) (who, next) turn.0 ∙ ap Some (sym turn.1));
  fault = rw (at, ← front) fault;
}

pub returns-in-Err-clause-fault : goal.returns-in-Err-clause-fault
returns-in-Err-clause-fault c = λ other.
    let road = YieldsList-from_vec c.args.notes.items (cc) (cc) in
    let turn = YieldsList-turn road c.noting.yielded c.noting.actor-iterator c.noting.yielded_by c.next.result c.next.new.self
    (c.in-Some.actor, c.in-Some.note) c.in-Some.is c.next.ensures.steps in
    let front = YieldsList-so_far road c.noting.yielded c.noting.actor-iterator c.noting.yielded_by in
    let kind : c.in-Err.kind ≢ OutOfMemory = rw c.fault_at.ensures.kind at other in
    let h : is_record c.noting.yielded ≡ true = rw (← c.noting.invariant.notes, ← c.in-Err.ensures.err) c.push.ensures.keeps in
    let fault : fault_of c.noting.yielded (c.in-Some.actor, c.in-Some.note) ≡ Some c.in-Err.kind =
    rw (← c.noting.invariant.notes) (c.in-Err.ensures.fault kind) in
    let located = c.fault_at.ensures.place kind in
    rw (c.fault_at.ensures.kind, located.0, located.1)
    (fails c.args.notes.items c.noting.yielded c.in-Some.actor c.in-Some.note c.in-Err.kind c.noting.place c.noting.invariant.place
    (sym (map-id c.noting.yielded) ∙ front) turn h fault)

pub returns-in-Err-clause-none : goal.returns-in-Err-clause-none
returns-in-Err-clause-none c = λ other. no_record c.args.notes.items c.fault_at.result.0 c.fault_at.result.1 c.fault_at.result.2
    (returns-in-Err-clause-fault c other)
