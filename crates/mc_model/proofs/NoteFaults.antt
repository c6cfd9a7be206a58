-- The fault of a note that comes next, by the tests of the sections before it.
use Rattle.std.proofs.Common.{◌≡◌, ◌≢◌, inl, inr, ℕ, Bool, true, false, not, ◌&&◌, ◌||◌, if◌then◌else◌, Some, None}
use Rattle.std.proofs.Common.{Result, Ok, Err, is_err, OnOk, IfOk, IfErr, List, [], ◌∷◌, ◌++◌, ◌+◌, take, drop, append-nil}
use Rattle.std.proofs.Common.{append_assoc, take-append-drop, subst, refl, sym, ap, ap₂, ◌∙◌, arith}
use Rattle.std.proofs.lemmas.Bool.{cases_Bool, and_parts, and_from, false_from_ne_true, not-true}
use Rattle.mc_protocol.specs.Legal.{is_fit}
use Rattle.mc_model.specs.History.{all_have_words, is_within_limits, is_in_turn, is_cleared, numbers_are_seen, are_answered_rightly}
use Rattle.mc_model.specs.History.{are_answered, is_none_sent, is_history, first_broken, fault_at, comes_late}
use Rattle.mc_model.specs.Next.{may_come, last_of, reply_fault, after_note, note_fault}
use Rattle.mc_model.specs.Notes.{Noted, requests_in, replies_in, sections_in, is_waiting, is_out_of_order}
use Rattle.mc_model.specs.Notes.{are_in_order, is_record, fault_of, IsFirstFaultOfNotes}
use Rattle.mc_model.specs.{Types.Actor, Types.Request, Types.Reply, Types.Sent, Types.HistoryKind, Sections.Sections, Sections.section_of, Sections.with_sent}
use Rattle.mc_protocol.specs.declared.actor.Actor.TheVariants as actor
use Rattle.mc_model.specs.declared.note.Note.TheVariants as note
use Rattle.mc_model.specs.declared.rules.HistoryKind.TheVariants as kind
use Rattle.mc_model.proofs.Answering.{ends, last_of-push, answered_push, awaited_in_time, waits, fault_with_reply, unanswered_history}
use Rattle.mc_model.proofs.Noting.{IsBalanced, section_in, balanced_along, waiting_last, waits_for_one, sections-begin}
use Rattle.mc_model.proofs.{Faults.rules_of, Faults.none_failed, Faults.nothing_sent, Turns.turn_added, Seen.and_once, Seen.and_assoc, Prefixes.history_before}
use Rattle.mc_model.proofs.{Prefixes.next_of, Noting.sections-reply, Noting.sections-no_reply, Noting.no_more_requests}

-- ---- notes that make a history

pub record_parts : (notes : List Noted) → is_record notes ≡ true → (are_in_order [] notes ≡ true) × (is_history (sections_in notes) ≡ true)
unfolding is_record
record_parts notes r = and_parts (are_in_order [] notes) (is_history (sections_in notes)) r

pub record_of : (notes : List Noted) → are_in_order [] notes ≡ true → is_history (sections_in notes) ≡ true → is_record notes ≡ true
unfolding is_record
record_of notes in_order h = and_from (are_in_order [] notes) (is_history (sections_in notes)) in_order h

pub balanced_in_order : (notes : List Noted) (who : Actor) → are_in_order [] notes ≡ true → IsBalanced notes who
balanced_in_order notes who in_order = balanced_along who [] notes (omega arith, omega arith) in_order

pub balanced : (notes : List Noted) (who : Actor) → is_record notes ≡ true → IsBalanced notes who
balanced notes who r = balanced_in_order notes who (record_parts notes r).0

-- ---- a request

-- the order counts with what the sections' own order says
first_broken-order : (x y : Bool) (s : Sections) → (x || not (is_in_turn s)) ≡ (y || not (is_in_turn s)) → first_broken x s ≡ first_broken y s
first_broken-order x y s e = rw e refl

or_moved : (x late turn may : Bool) → (late || turn) ≡ not may → (x || not may) ≡ not may → ((x || late) || turn) ≡ (late || turn)
or_moved x late turn may e f = grind arith

prefix_waits : (y p : Bool) → ((not p || not p) || not (y && p)) ≡ not (y && p)
prefix_waits y p = grind arith

branch_waits : (p own : Bool) → ((not own || not p) || not (p && own)) ≡ not (p && own)
branch_waits p own = grind arith

none_may_come : (s : Sections) (who : Actor) → ((is_waiting s who || is_waiting s actor.P) || not (may_come s who)) ≡ not (may_come s who)
none_may_come s actor.P = prefix_waits (is_none_sent s.a && is_none_sent s.b) (are_answered s.p)
none_may_come s actor.A = branch_waits (are_answered s.p) (are_answered s.a)
none_may_come s actor.B = branch_waits (are_answered s.p) (are_answered s.b)

begin_fault : (notes : List Noted) (who : Actor) (request : Request) → is_record notes ≡ true
    → fault_of notes (who, note.Begin request) ≡ note_fault (sections_in notes) (who, note.Begin request)
unfolding fault_of fault_at
begin_fault notes who request r =
    let s = sections_in notes in
    let open_one : Sent = record { request = request; reply = None } in
    let turn = (rules_of s (record_parts notes r).1).turn in
    let order = or_moved (is_waiting s who || is_waiting s actor.P) (comes_late s who) (not (is_in_turn (with_sent s who open_one))) (may_come s who)
    (turn_added s who open_one ∙ rw turn refl) (none_may_come s who) in
    ap (first_broken (is_out_of_order s (who, note.Begin request))) (sections-begin notes who request (balanced notes who r))
    ∙ first_broken-order (is_out_of_order s (who, note.Begin request)) (comes_late s who) (with_sent s who open_one) order

-- ---- a reply

order_broken : (s : Sections) → is_history s ≡ true → first_broken true s ≡ Some kind.Order
order_broken s h = let r = rules_of s h in rw (r.words, r.few, r.few_keys) refl

-- where all were answered, a reply is one too many
no_wait : (s : Sections) (who : Actor) (reply : Reply) → are_answered (section_of s who) ≡ true
    → reply_fault (last_of (section_of s who)) reply ≡ Some kind.Order
no_wait s who reply all =
    elim (ends (section_of s who)) [
      | inl e ↦ ap (λ l. reply_fault (last_of l) reply) e
      | inr (front, sent, e) ↦
          let some = answered_push front sent (sym (ap are_answered e) ∙ all) in
          ap (λ l. reply_fault (last_of l) reply) e ∙ ap (λ o. reply_fault o reply) (last_of-push front sent)
          ∙ ap (λ b. if b then Some kind.Order else (if is_fit sent.request reply then None else Some kind.WrongReply)) some
    ]

in_order_of : (s : Sections) (who : Actor) (reply : Reply) → are_answered (section_of s who) ≡ false → comes_late s who ≡ false
    → is_out_of_order s (who, note.Reply reply) ≡ false
in_order_of s who reply some late = ap₂ (λ a l. not (not a) || l) some late

waiting_fault : (notes : List Noted) (who : Actor) (reply : Reply) → is_record notes ≡ true → are_answered (section_of (sections_in notes) who) ≡ false
    → fault_of notes (who, note.Reply reply) ≡ note_fault (sections_in notes) (who, note.Reply reply)
unfolding fault_of fault_at
waiting_fault notes who reply r some =
    let s = sections_in notes in
    let h = (record_parts notes r).1 in
    let late = awaited_in_time s who h some in
    let one = waits_for_one notes who (balanced notes who r) some in
    let (front, request, e) = waiting_last (requests_in who notes) (replies_in who notes) one in
    let open_one : Sent = record { request = request; reply = None } in
    let at : section_of s who ≡ front ++ open_one ∷ [] = section_in who notes ∙ e in
    let w = waits s who front request reply late at in
    let in_order : is_out_of_order s (who, note.Reply reply) ≡ comes_late w.earlier who = in_order_of s who reply some late ∙ sym w.late in
    let whole : is_history (with_sent w.earlier who open_one) ≡ true = sym (ap is_history w.is) ∙ h in
    let last : reply_fault (last_of (section_of s who)) reply ≡ (if is_fit request reply then None else Some kind.WrongReply) =
    ap (λ l. reply_fault (last_of l) reply) at ∙ ap (λ o. reply_fault o reply) (last_of-push front open_one) in
    ap₂ first_broken in_order (sections-reply notes who reply one ∙ w.with_reply)
    ∙ fault_with_reply w.earlier who request reply w.late whole ∙ sym last

idle_fault : (notes : List Noted) (who : Actor) (reply : Reply) → is_record notes ≡ true → are_answered (section_of (sections_in notes) who) ≡ true
    → fault_of notes (who, note.Reply reply) ≡ note_fault (sections_in notes) (who, note.Reply reply)
unfolding fault_of
idle_fault notes who reply r all =
    let s = sections_in notes in
    let out : is_out_of_order s (who, note.Reply reply) ≡ true = rw all refl in
    ap₂ first_broken out (sections-no_reply notes who reply (no_more_requests who notes (sym (ap are_answered (section_in who notes)) ∙ all)))
    ∙ order_broken s (record_parts notes r).1 ∙ sym (no_wait s who reply all)

-- what is wrong with a note is what the sections before it say
pub fault_by_sections : (notes : List Noted) (noted : Noted) → is_record notes ≡ true → fault_of notes noted ≡ note_fault (sections_in notes) noted
fault_by_sections notes (who, note.Begin request) r = begin_fault notes who request r
fault_by_sections notes (who, note.Reply reply) r =
    elim (cases_Bool (are_answered (section_of (sections_in notes) who))) [
      | inl all ↦ idle_fault notes who reply r all
      | inr some ↦ waiting_fault notes who reply r some
    ]

-- the sections with a note that has no fault
pub sections_noted : (notes : List Noted) (next : Noted) → is_record notes ≡ true → note_fault (sections_in notes) next ≡ None
    → sections_in (notes ++ next ∷ []) ≡ after_note (sections_in notes) next
sections_noted notes (who, note.Begin request) r none = sections-begin notes who request (balanced notes who r)
sections_noted notes (who, note.Reply reply) r none =
    elim (cases_Bool (are_answered (section_of (sections_in notes) who))) [
      | inl all ↦ let wrong = no_wait (sections_in notes) who reply all in cc
      | inr some ↦ sections-reply notes who reply (waits_for_one notes who (balanced notes who r) some)
    ]

-- ---- one more note

-- one more note is in order where the others are and it is
pub order-push : (earlier notes : List Noted) (next : Noted)
    → are_in_order earlier (notes ++ next ∷ []) ≡ (are_in_order earlier notes && not (is_out_of_order (sections_in (earlier ++ notes)) next))
order-push earlier [] next = and_once (not (is_out_of_order (sections_in earlier) next))
    ∙ ap (λ l. not (is_out_of_order (sections_in l) next)) (sym (append-nil earlier))
order-push earlier (x ∷ notes) next =
    ap (λ b. not (is_out_of_order (sections_in earlier) x) && b)
    (order-push (earlier ++ x ∷ []) notes next
    ∙ ap (λ l. are_in_order (earlier ++ x ∷ []) notes && not (is_out_of_order (sections_in l) next)) (append_assoc earlier (x ∷ []) notes))
    ∙ and_assoc (not (is_out_of_order (sections_in earlier) x)) (are_in_order (earlier ++ x ∷ []) notes)
    (not (is_out_of_order (sections_in (earlier ++ x ∷ notes)) next))

-- notes make a history with a note that has no fault
pub record_push : (notes : List Noted) (next : Noted) → is_record notes ≡ true → fault_of notes next ≡ None → is_record (notes ++ next ∷ []) ≡ true
unfolding fault_of is_history
record_push notes next r none =
    let t = sections_in (notes ++ next ∷ []) in
    let both = none_failed (all_have_words t) (is_within_limits t) (is_out_of_order (sections_in notes) next) (is_in_turn t) (is_cleared t)
    (numbers_are_seen t) (are_answered_rightly t) none in
    record_of (notes ++ next ∷ [])
    (order-push [] notes next ∙ and_from (are_in_order [] notes) (not (is_out_of_order (sections_in notes) next)) (record_parts notes r).0 (ap not both.0))
    both.1

-- after a note was added to the sections, or refused
pub added_note : {X : Type 0} (result : Result X HistoryKind) (notes after : List Noted) (next : Noted) (before sections : Sections) → is_err result ≡ false
    → is_record notes ≡ true → before ≡ sections_in notes → after ≡ notes ++ next ∷ []
    → OnOk result (sections ≡ after_note before next) → IfOk result (λ _. note_fault before next ≡ None)
    → (is_record after ≡ true) × (sections ≡ sections_in after) × IfOk result (λ _. fault_of notes next ≡ None)
added_note (Ok x) notes after next before sections ok r is more is_noted none =
    let no_fault : note_fault (sections_in notes) next ≡ None = sym (ap (λ s. note_fault s next) is) ∙ none in
    let free : fault_of notes next ≡ None = fault_by_sections notes next r ∙ no_fault in (
      ap is_record more ∙ record_push notes next r free,
      is_noted ∙ ap (λ s. after_note s next) is ∙ sym (sections_noted notes next r no_fault) ∙ sym (ap sections_in more),
      free,
    )
added_note (Err kind) notes after next before sections ok r is more is_noted none = cc

pub refused_note : {X : Type 0} (result : Result X HistoryKind) (notes : List Noted) (next : Noted) (before : Sections)
    → is_record notes ≡ true → before ≡ sections_in notes
    → IfErr result (λ k. k ≢ kind.OutOfMemory → note_fault before next ≡ Some k)
    → IfErr result (λ k. k ≢ kind.OutOfMemory → fault_of notes next ≡ Some k)
refused_note (Ok x) notes next before r is fault = fault
refused_note (Err k) notes next before r is fault = λ other. fault_by_sections notes next r ∙ sym (ap (λ s. note_fault s next) is) ∙ fault other

-- no notes make a history
pub nothing_noted : is_record [] ≡ true
nothing_noted = record_of [] refl nothing_sent

-- ---- notes before others

in_order_before : (notes : List Noted) (next : Noted) → is_record (notes ++ next ∷ []) ≡ true
    → (are_in_order [] notes ≡ true) × (is_out_of_order (sections_in notes) next ≡ false)
in_order_before notes next r =
    let both = and_parts (are_in_order [] notes) (not (is_out_of_order (sections_in notes) next))
    (sym (order-push [] notes next) ∙ (record_parts (notes ++ next ∷ []) r).0) in
    (both.0, not-true (is_out_of_order (sections_in notes) next) both.1)

history_before_note : (notes : List Noted) (next : Noted) → are_in_order [] notes ≡ true → is_out_of_order (sections_in notes) next ≡ false
    → is_history (sections_in (notes ++ next ∷ [])) ≡ true → is_history (sections_in notes) ≡ true
history_before_note notes (who, note.Begin request) in_order free h =
    let s = sections_in notes in
    let late : comes_late s who ≡ false = last (is_waiting s who || is_waiting s actor.P) (comes_late s who) free in
    history_before s who (record { request = request; reply = None }) late
    (sym (ap is_history (sections-begin notes who request (balanced_in_order notes who in_order))) ∙ h)
  where
    last : (x y : Bool) → (x || y) ≡ false → y ≡ false
    last x y e = grind arith
history_before_note notes (who, note.Reply reply) in_order free h =
    let s = sections_in notes in
    let parts = waiting (are_answered (section_of s who)) (comes_late s who) free in
    let one = waits_for_one notes who (balanced_in_order notes who in_order) parts.0 in
    let (front, request, e) = waiting_last (requests_in who notes) (replies_in who notes) one in
    let w = waits s who front request reply parts.1 (section_in who notes ∙ e) in
    ap is_history w.is
    ∙ unanswered_history w.earlier who request reply w.late (sym (ap is_history (sections-reply notes who reply one ∙ w.with_reply)) ∙ h)
  where
    waiting : (a late : Bool) → (not (not a) || late) ≡ false → (a ≡ false) × (late ≡ false)
    waiting a late e = grind arith

-- notes that make a history do so without the last
pub record_front : (notes : List Noted) (next : Noted) → is_record (notes ++ next ∷ []) ≡ true → is_record notes ≡ true
record_front notes next r =
    let both = in_order_before notes next r in
    record_of notes both.0 (history_before_note notes next both.0 both.1 (record_parts (notes ++ next ∷ []) r).1)

pub record_shorter : (xs ys : List Noted) → is_record (xs ++ ys) ≡ true → is_record xs ≡ true
record_shorter xs [] r = subst (λ l. is_record l ≡ true) (append-nil xs) r
record_shorter xs (y ∷ ys) r = record_front xs y (record_shorter (xs ++ y ∷ []) ys (subst (λ l. is_record l ≡ true) (sym (append_assoc xs (y ∷ []) ys)) r))

-- a note that goes on to a history has no fault
pub no_fault_within : (notes : List Noted) (next : Noted) → is_record (notes ++ next ∷ []) ≡ true → fault_of notes next ≡ None
unfolding fault_of
no_fault_within notes next r =
    let rules = rules_of (sections_in (notes ++ next ∷ [])) (record_parts (notes ++ next ∷ []) r).1 in
    rw ((in_order_before notes next r).1, rules.words, rules.few, rules.few_keys, rules.turn, rules.cleared, rules.numbers, rules.replies) refl

-- notes with a fault make no history
pub no_record : (notes : List Noted) (kind : HistoryKind) (who : Actor) (place : ℕ) → IsFirstFaultOfNotes notes kind who place → is_record notes ≡ false
no_record notes k who place f =
    false_from_ne_true (is_record notes)
    (λ r.
    let next : take (place + 1) notes ≡ take place notes ++ (who, f.note) ∷ [] =
    next_of notes place (who, f.note) f.noted in
    let front = record_shorter (take (place + 1) notes) (drop (place + 1) notes)
    (subst (λ l. is_record l ≡ true) (sym (take-append-drop (place + 1) notes)) r) in
    let none = no_fault_within (take place notes) (who, f.note) (sym (ap is_record next) ∙ front) in
    let both : None ≡ Some k = sym none ∙ f.fault in
    cc)
