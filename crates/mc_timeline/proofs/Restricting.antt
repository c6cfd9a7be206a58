-- The operations that the restricted notes tell are those on the key, where each note keeps its place.
use Rattle.std.proofs.Common.{◌≡◌, ℕ, Bool, true, false, cond, not, eqb, eqb-true, eq-eqb, Some}
use Rattle.std.proofs.Common.{List, [], ◌∷◌, refl, ap, sym, ◌∙◌}
use Rattle.std.proofs.lemmas.Bool.{and_parts}
use Rattle.std.specs.Str.{bytes_eq}
use Rattle.mc_model.specs.declared.note.Note.TheVariants as note
use Rattle.mc_timeline.specs.Timelines.{ClientNote, Placed, Waiting, with_waiting, are_in_order, answer_to, operations_in}
use Rattle.mc_timeline.specs.{Operations.on_key, Timelines.is_on_key, Timelines.waiting_after, Timelines.restricted_after}

abbrev pub notes_of : List Placed → List ClientNote
notes_of [] = []
notes_of (n ∷ notes) = n.1 ∷ notes_of notes

abbrev pub kept_after : Waiting → List ℕ → List Placed → List Placed
kept_after waits key [] = []
kept_after waits key (n ∷ notes) =
    let others = kept_after (waiting_after waits key n.1) key notes in
    cond (is_on_key waits key n.1) (n ∷ others) others

pub notes_kept : (waits : Waiting) (key : List ℕ) (notes : List Placed) → notes_of (kept_after waits key notes) ≡ restricted_after waits key (notes_of notes)
notes_kept waits key [] = refl
notes_kept waits key (n ∷ notes) = by (is_on_key waits key n.1) (notes_kept (waiting_after waits key n.1) key notes)
  where
    by : (b : Bool) → notes_of (kept_after (waiting_after waits key n.1) key notes) ≡ restricted_after (waiting_after waits key n.1) key (notes_of notes)
        → notes_of (cond b (n ∷ kept_after (waiting_after waits key n.1) key notes) (kept_after (waiting_after waits key n.1) key notes))
        ≡ cond b (n.1 ∷ restricted_after (waiting_after waits key n.1) key (notes_of notes))
        (restricted_after (waiting_after waits key n.1) key (notes_of notes))
    by true rest = ap (λ l. n.1 ∷ l) rest
    by false rest = rest

-- who waits, and whose last request is on the key, gets the same reply
same_answer : (asks waits : Waiting) (key : List ℕ) (client : ℕ) (notes : List Placed) → asks client ≡ true → waits client ≡ true
    → are_in_order asks (notes_of notes) ≡ true → answer_to client (kept_after waits key notes) ≡ answer_to client notes
same_answer asks waits key client [] is on ordered = refl
same_answer asks waits key client ((place, (who, note.Begin request)) ∷ notes) is on ordered =
    let parts = and_parts (not (asks who)) (are_in_order (with_waiting asks who true) (notes_of notes)) ordered in
    by (eqb client who) refl (bytes_eq request.key key) parts.0
    (λ asks' waits' is' on' o. same_answer asks' waits' key client notes is' on' o) parts.1
  where
    by : (same : Bool) → eqb client who ≡ same → (b : Bool) → not (asks who) ≡ true
        → ((asks' waits' : Waiting) → asks' client ≡ true → waits' client ≡ true → are_in_order asks' (notes_of notes) ≡ true
        → answer_to client (kept_after waits' key notes) ≡ answer_to client notes)
        → are_in_order (with_waiting asks who true) (notes_of notes) ≡ true
        → answer_to client (cond b ((place, (who, note.Begin request)) ∷ kept_after (with_waiting waits who (bytes_eq request.key key)) key notes)
        (kept_after (with_waiting waits who (bytes_eq request.key key)) key notes)) ≡ answer_to client notes
    by true e b shut later o =
        let opened : asks who ≡ true = ap asks (sym (eqb-true client who e)) ∙ is in
        let never : not (asks who) ≡ false = ap not opened in
        absurd (cc)
    by false e b shut later o =
        let step = later (with_waiting asks who true) (with_waiting waits who (bytes_eq request.key key)) (rw e is) (rw e on) o in
        each b step
      where
        each : (b : Bool) → answer_to client (kept_after (with_waiting waits who (bytes_eq request.key key)) key notes) ≡ answer_to client notes
            → answer_to client (cond b ((place, (who, note.Begin request)) ∷ kept_after (with_waiting waits who (bytes_eq request.key key)) key notes)
            (kept_after (with_waiting waits who (bytes_eq request.key key)) key notes)) ≡ answer_to client notes
        each true h = h
        each false h = h
same_answer asks waits key client ((place, (who, note.Reply reply)) ∷ notes) is on ordered =
    let parts = and_parts (asks who) (are_in_order (with_waiting asks who false) (notes_of notes)) ordered in
    by (eqb who client) refl (waits who) refl parts.1 (λ asks' is' o. same_answer asks' waits key client notes is' on o)
  where
    by : (same : Bool) → eqb who client ≡ same → (b : Bool) → waits who ≡ b → are_in_order (with_waiting asks who false) (notes_of notes) ≡ true
        → ((asks' : Waiting) → asks' client ≡ true → are_in_order asks' (notes_of notes) ≡ true
        → answer_to client (kept_after waits key notes) ≡ answer_to client notes)
        → answer_to client (cond b ((place, (who, note.Reply reply)) ∷ kept_after waits key notes) (kept_after waits key notes))
        ≡ cond same (Some (record { time = place; reply = reply })) (answer_to client notes)
    by true e true w o later = rw e refl
    by true e false w o later =
        let opened : waits who ≡ true = ap waits (eqb-true who client e) ∙ on in
        absurd (cc)
    by false e true w o later = rw e (later (with_waiting asks who false) (rw (apart (eqb client who) refl) is) o)
      where
        apart : (b : Bool) → eqb client who ≡ b → b ≡ false
        apart false f = refl
        apart true f = let back = eq-eqb who client (sym (eqb-true client who f)) in absurd (cc)
    by false e false w o later = later (with_waiting asks who false) (rw (apart (eqb client who) refl) is) o
      where
        apart : (b : Bool) → eqb client who ≡ b → b ≡ false
        apart false f = refl
        apart true f = let back = eq-eqb who client (sym (eqb-true client who f)) in absurd (cc)

pub same_operations : (asks waits : Waiting) (key : List ℕ) (notes : List Placed) → are_in_order asks (notes_of notes) ≡ true
    → operations_in (kept_after waits key notes) ≡ on_key key (operations_in notes)
same_operations asks waits key [] ordered = refl
same_operations asks waits key ((place, (who, note.Begin request)) ∷ notes) ordered =
    let parts = and_parts (not (asks who)) (are_in_order (with_waiting asks who true) (notes_of notes)) ordered in
    by (bytes_eq request.key key) refl parts.1
    (same_operations (with_waiting asks who true) (with_waiting waits who (bytes_eq request.key key)) key notes parts.1)
  where
    here : eqb who who ≡ true
    here = eq-eqb who who refl

    by : (b : Bool) → bytes_eq request.key key ≡ b → are_in_order (with_waiting asks who true) (notes_of notes) ≡ true
        → operations_in (kept_after (with_waiting waits who (bytes_eq request.key key)) key notes) ≡ on_key key (operations_in notes)
        → operations_in (cond b ((place, (who, note.Begin request)) ∷ kept_after (with_waiting waits who (bytes_eq request.key key)) key notes)
        (kept_after (with_waiting waits who (bytes_eq request.key key)) key notes))
        ≡ cond b (record { client = who; request = request; began = place; answer = answer_to who notes } ∷ on_key key (operations_in notes))
        (on_key key (operations_in notes))
    by true e o rest =
        let answer = same_answer (with_waiting asks who true) (with_waiting waits who (bytes_eq request.key key)) key who notes (rw here refl)
        (rw (here, e) refl) o in
        rw (answer, rest) refl
    by false e o rest = rest
same_operations asks waits key ((place, (who, note.Reply reply)) ∷ notes) ordered =
    let parts = and_parts (asks who) (are_in_order (with_waiting asks who false) (notes_of notes)) ordered in
    by (waits who) (same_operations (with_waiting asks who false) waits key notes parts.1)
  where
    by : (b : Bool) → operations_in (kept_after waits key notes) ≡ on_key key (operations_in notes)
        → operations_in (cond b ((place, (who, note.Reply reply)) ∷ kept_after waits key notes) (kept_after waits key notes)) ≡ on_key key (operations_in notes)
    by true rest = rest
    by false rest = rest
