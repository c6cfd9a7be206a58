-- The operations that the notes tell that stay are those that stay, where each note keeps its place.
use Rattle.std.proofs.Common.{◌≡◌, ℕ, suc, Bool, true, false, cond, not, eqb, eqb-true, eq-eqb, Some}
use Rattle.std.proofs.Common.{List, [], ◌∷◌, filter, refl, ap, sym, ◌∙◌}
use Rattle.std.proofs.lemmas.Bool.{and_parts}
use Rattle.mc_model.specs.declared.note.Note.TheVariants as note
use Rattle.mc_timeline.specs.Operations.{Operation}
use Rattle.mc_timeline.specs.Timelines.{ClientNote, Placed, Waiting, with_waiting, are_in_order, answer_to, operations_in, placed}
use Rattle.mc_timeline.proofs.Restricting.{notes_of}
use Rattle.mc_shrink.specs.Parts.{note_stays, staying_after, part_after}

-- the notes that stay, with their places
abbrev pub placed_part : Waiting → (ℕ → Bool) → List Placed → List Placed
placed_part waits stays [] = []
placed_part waits stays (n ∷ notes) =
    let others = placed_part (staying_after waits (stays n.0) n.1) stays notes in
    cond (note_stays waits (stays n.0) n.1) (n ∷ others) others

pub notes_staying : (waits : Waiting) (stays : ℕ → Bool) (place : ℕ) (notes : List ClientNote)
    → notes_of (placed_part waits stays (placed place notes)) ≡ part_after waits stays place notes
notes_staying waits stays place [] = refl
notes_staying waits stays place (n ∷ notes) =
    by (note_stays waits (stays place) n) (notes_staying (staying_after waits (stays place) n) stays (suc place) notes)
  where
    by : (b : Bool)
        → notes_of (placed_part (staying_after waits (stays place) n) stays (placed (suc place) notes))
        ≡ part_after (staying_after waits (stays place) n) stays (suc place) notes
        → notes_of (cond b ((place, n) ∷ placed_part (staying_after waits (stays place) n) stays (placed (suc place) notes))
        (placed_part (staying_after waits (stays place) n) stays (placed (suc place) notes)))
        ≡ cond b (n ∷ part_after (staying_after waits (stays place) n) stays (suc place) notes)
        (part_after (staying_after waits (stays place) n) stays (suc place) notes)
    by true rest = ap (λ l. n ∷ l) rest
    by false rest = rest

-- who waits, and whose last request stays, gets the same reply
same_answer : (asks waits : Waiting) (stays : ℕ → Bool) (client : ℕ) (notes : List Placed) → asks client ≡ true → waits client ≡ true
    → are_in_order asks (notes_of notes) ≡ true → answer_to client (placed_part waits stays notes) ≡ answer_to client notes
same_answer asks waits stays client [] is on ordered = refl
same_answer asks waits stays client ((place, (who, note.Begin request)) ∷ notes) is on ordered =
    let parts = and_parts (not (asks who)) (are_in_order (with_waiting asks who true) (notes_of notes)) ordered in
    by (eqb client who) refl (stays place) parts.0
    (λ asks' waits' is' on' o. same_answer asks' waits' stays client notes is' on' o) parts.1
  where
    by : (same : Bool) → eqb client who ≡ same → (b : Bool) → not (asks who) ≡ true
        → ((asks' waits' : Waiting) → asks' client ≡ true → waits' client ≡ true → are_in_order asks' (notes_of notes) ≡ true
        → answer_to client (placed_part waits' stays notes) ≡ answer_to client notes)
        → are_in_order (with_waiting asks who true) (notes_of notes) ≡ true
        → answer_to client (cond b ((place, (who, note.Begin request)) ∷ placed_part (with_waiting waits who (stays place)) stays notes)
        (placed_part (with_waiting waits who (stays place)) stays notes)) ≡ answer_to client notes
    by true e b shut later o =
        let opened : asks who ≡ true = ap asks (sym (eqb-true client who e)) ∙ is in
        let never : not (asks who) ≡ false = ap not opened in
        absurd (cc)
    by false e b shut later o =
        let step = later (with_waiting asks who true) (with_waiting waits who (stays place)) (rw e is) (rw e on) o in
        each b step
      where
        each : (b : Bool) → answer_to client (placed_part (with_waiting waits who (stays place)) stays notes) ≡ answer_to client notes
            → answer_to client (cond b ((place, (who, note.Begin request)) ∷ placed_part (with_waiting waits who (stays place)) stays notes)
            (placed_part (with_waiting waits who (stays place)) stays notes)) ≡ answer_to client notes
        each true h = h
        each false h = h
same_answer asks waits stays client ((place, (who, note.Reply reply)) ∷ notes) is on ordered =
    let parts = and_parts (asks who) (are_in_order (with_waiting asks who false) (notes_of notes)) ordered in
    by (eqb who client) refl (waits who) refl parts.1 (λ asks' is' o. same_answer asks' waits stays client notes is' on o)
  where
    by : (same : Bool) → eqb who client ≡ same → (b : Bool) → waits who ≡ b → are_in_order (with_waiting asks who false) (notes_of notes) ≡ true
        → ((asks' : Waiting) → asks' client ≡ true → are_in_order asks' (notes_of notes) ≡ true
        → answer_to client (placed_part waits stays notes) ≡ answer_to client notes)
        → answer_to client (cond b ((place, (who, note.Reply reply)) ∷ placed_part waits stays notes) (placed_part waits stays notes))
        ≡ cond same (Some (record { time = place; reply = reply })) (answer_to client notes)
    by true e true w o later = rw e refl
    by true e false w o later =
        let opened : waits who ≡ true = ap waits (eqb-true who client e) ∙ on in
        absurd (cc)
    by false e true w o later = rw e (later (with_waiting asks who false) (rw (apart (eqb client who) refl) is) o)
      where
        apart : (b : Bool) → eqb client who ≡ b → b ≡ false
        apart false f = refl
        apart true f = let back = eq-eqb who client (sym (eqb-true client who f)) in absurd (cc)
    by false e false w o later = later (with_waiting asks who false) (rw (apart (eqb client who) refl) is) o
      where
        apart : (b : Bool) → eqb client who ≡ b → b ≡ false
        apart false f = refl
        apart true f = let back = eq-eqb who client (sym (eqb-true client who f)) in absurd (cc)

abbrev pub staying : (ℕ → Bool) → List Operation → List Operation
staying stays operations = filter (λ x. stays x.began) operations

pub same_operations : (asks waits : Waiting) (stays : ℕ → Bool) (notes : List Placed) → are_in_order asks (notes_of notes) ≡ true
    → operations_in (placed_part waits stays notes) ≡ staying stays (operations_in notes)
same_operations asks waits stays [] ordered = refl
same_operations asks waits stays ((place, (who, note.Begin request)) ∷ notes) ordered =
    let parts = and_parts (not (asks who)) (are_in_order (with_waiting asks who true) (notes_of notes)) ordered in
    by (stays place) refl parts.1
    (same_operations (with_waiting asks who true) (with_waiting waits who (stays place)) stays notes parts.1)
  where
    here : eqb who who ≡ true
    here = eq-eqb who who refl

    by : (b : Bool) → stays place ≡ b → are_in_order (with_waiting asks who true) (notes_of notes) ≡ true
        → operations_in (placed_part (with_waiting waits who (stays place)) stays notes) ≡ staying stays (operations_in notes)
        → operations_in (cond b ((place, (who, note.Begin request)) ∷ placed_part (with_waiting waits who (stays place)) stays notes)
        (placed_part (with_waiting waits who (stays place)) stays notes))
        ≡ cond b (record { client = who; request = request; began = place; answer = answer_to who notes } ∷ staying stays (operations_in notes))
        (staying stays (operations_in notes))
    by true e o rest =
        let answer = same_answer (with_waiting asks who true) (with_waiting waits who (stays place)) stays who notes (rw here refl)
        (rw (here, e) refl) o in
        rw (answer, rest) refl
    by false e o rest = rest
same_operations asks waits stays ((place, (who, note.Reply reply)) ∷ notes) ordered =
    let parts = and_parts (asks who) (are_in_order (with_waiting asks who false) (notes_of notes)) ordered in
    by (waits who) (same_operations (with_waiting asks who false) waits stays notes parts.1)
  where
    by : (b : Bool) → operations_in (placed_part waits stays notes) ≡ staying stays (operations_in notes)
        → operations_in (cond b ((place, (who, note.Reply reply)) ∷ placed_part waits stays notes) (placed_part waits stays notes))
        ≡ staying stays (operations_in notes)
    by true rest = rest
    by false rest = rest
