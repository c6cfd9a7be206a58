-- How many replies a section had before a time, and which of its operations were answered then.
use Rattle.std.proofs.Common.{◌≡◌, ◌+◌, ◌≤◌, ◌<◌, ◌⊎◌, ◌↔◌, inl, inr, ℕ, suc, Bool, true, false, cond, not, ◌&&◌, Some}
use Rattle.std.proofs.Common.{List, [], ◌∷◌, ◌++◌, length, refl, ap, subst, sym, ◌∙◌, arith, if◌then◌else◌}
use Rattle.std.proofs.lemmas.Bool.{cases_lt}
use Rattle.std.specs.Prelude.{nat_lt}
use Rattle.mc_protocol.specs.declared.actor.Actor.{Actor}
use Rattle.mc_protocol.proofs.FirstItems.{head_is}
use Rattle.mc_model.specs.declared.note.Note.TheVariants as note
use Rattle.mc_model.specs.Notes.{Noted, is_same_section, requests_in, replies_in}
use Rattle.mc_timeline.specs.Operations.{Operation, CameBefore}
use Rattle.mc_timeline_of.proofs.ClientQueues.{operation_at, same_actor, first_reply, queue, takes_turns}

-- ---- replies before a time

abbrev one_before : Bool → ℕ → ℕ → ℕ
one_before own place time = cond own (cond (nat_lt place time) 1 0) 0

-- how many replies the section had before this time, if the first of these notes has this place
abbrev pub replied_before : Actor → ℕ → ℕ → List Noted → ℕ
replied_before section time place [] = 0
replied_before section time place ((who, note.Begin request) ∷ notes) = replied_before section time (suc place) notes
replied_before section time place ((who, note.Reply reply) ∷ notes) =
    one_before (is_same_section section who) place time + replied_before section time (suc place) notes

one_is : (own : Bool) (place time : ℕ) → (place < time) → one_before own place time ≡ cond own 1 0
one_is true place time less = rw (lt_true place time less) refl
  where
    lt_true : (a b : ℕ) → a < b → nat_lt a b ≡ true
    lt_true a b l = grind (arith)
one_is false place time less = refl

none_is : (own : Bool) (place time : ℕ) → (time ≤ place) → one_before own place time ≡ 0
none_is true place time le = rw (lt_false place time le) refl
  where
    lt_false : (a b : ℕ) → b ≤ a → nat_lt a b ≡ false
    lt_false a b l = grind (arith)
none_is false place time le = refl

none_before : (section : Actor) (time place : ℕ) (notes : List Noted) → time ≤ place → replied_before section time place notes ≡ 0
none_before section time place [] le = refl
none_before section time place ((who, note.Begin request) ∷ notes) le = none_before section time (suc place) notes (omega arith)
none_before section time place ((who, note.Reply reply) ∷ notes) le =
    let one = none_is (is_same_section section who) place time le in
    let rest = none_before section time (suc place) notes (omega arith) in
    omega arith

-- ---- the operations answered before a time

-- the operation after so many others was answered before the time exactly if there were more replies than that
abbrev pub AnsweredBy : ℕ → ℕ → ℕ → List Operation → Type 0
AnsweredBy time count replies [] = Unit {0}
AnsweredBy time count replies (x ∷ xs) = (CameBefore x.answer time ↔ count < replies) × AnsweredBy time (suc count) replies xs

one_more : (time count replies : ℕ) (xs : List Operation) → AnsweredBy time count replies xs → AnsweredBy time (suc count) (suc replies) xs
one_more time count replies [] h = tt
one_more time count replies (x ∷ xs) h =
    (((λ b. let l = h.0.0 b in omega arith), (λ l. h.0.1 (omega arith))), one_more time (suc count) replies xs h.1)

none_so_far : (time count : ℕ) (xs : List Operation) → AnsweredBy time count 0 xs → AnsweredBy time (suc count) 0 xs
none_so_far time count [] h = tt
none_so_far time count (x ∷ xs) h =
    (((λ b. let l = h.0.0 b in absurd (omega arith)), (λ l. absurd (omega arith))), none_so_far time (suc count) xs h.1)

first_before : (section : Actor) (time place : ℕ) (notes : List Noted)
    → CameBefore (first_reply section place notes) time ↔ 0 < replied_before section time place notes
first_before section time place [] = ((λ b. absurd b), (λ l. absurd (omega arith)))
first_before section time place ((who, note.Begin request) ∷ notes) = first_before section time (suc place) notes
first_before section time place ((who, note.Reply reply) ∷ notes) =
    by (is_same_section section who) (cases_lt place time) (first_before section time (suc place) notes)
  where
    by : (b : Bool) → (place < time) ⊎ (time ≤ place)
        → CameBefore (first_reply section (suc place) notes) time ↔ 0 < replied_before section time (suc place) notes
        → CameBefore (cond b (Some (record { time = place; reply = reply })) (first_reply section (suc place) notes)) time
        ↔ 0 < (one_before b place time + replied_before section time (suc place) notes)
    by true (inl less) rest = let one = one_is true place time less in ((λ b. omega arith), (λ l. less))
    by true (inr le) rest =
        let one = none_is true place time le in
        let none = none_before section time (suc place) notes (omega arith) in
        ((λ b. absurd (omega arith)), (λ l. absurd (omega arith)))
    by false either rest = ((λ b. let l = rest.0 b in omega arith), (λ l. rest.1 (omega arith)))

abbrev one_if : Bool → ℕ
one_if b = cond b 1 0

-- of a section that waits, the first reply is to one that began before
answered_by : (section : Actor) (time place : ℕ) (waits : Bool) (notes : List Noted) → takes_turns section waits notes ≡ true
    → AnsweredBy time (one_if waits) (replied_before section time place notes) (queue section place notes)
answered_by section time place waits [] turns = tt
answered_by section time place waits ((who, note.Begin request) ∷ notes) turns =
    by (is_same_section section who) waits turns (answered_by section time (suc place) true notes) (answered_by section time (suc place) waits notes)
  where
    by : (b w : Bool) → cond b (not w && takes_turns section true notes) (takes_turns section w notes) ≡ true
        → (takes_turns section true notes ≡ true → AnsweredBy time 1 (replied_before section time (suc place) notes) (queue section (suc place) notes))
        → (takes_turns section w notes ≡ true → AnsweredBy time (one_if w) (replied_before section time (suc place) notes) (queue section (suc place) notes))
        → AnsweredBy time (one_if w) (replied_before section time (suc place) notes)
        (cond b
        (operation_at section place request notes ∷ queue section (suc place) notes)
        (queue section (suc place) notes))
    by true true t own other = absurd (cc)
    by true false t own other = (first_before section time (suc place) notes, own t)
    by false w t own other = other t
answered_by section time place waits ((who, note.Reply reply) ∷ notes) turns =
    by (is_same_section section who) waits turns (answered_by section time (suc place) false notes) (answered_by section time (suc place) waits notes)
  where
    more : (place < time) ⊎ (time ≤ place)
        → AnsweredBy time 0 (replied_before section time (suc place) notes) (queue section (suc place) notes)
        → AnsweredBy time 1 (one_before true place time + replied_before section time (suc place) notes) (queue section (suc place) notes)
    more (inl less) h =
        let one = one_is true place time less in
        let all : one_before true place time + replied_before section time (suc place) notes ≡ suc (replied_before section time (suc place) notes) =
        omega arith in
        subst (λ k. AnsweredBy time 1 k (queue section (suc place) notes)) (sym all)
        (one_more time 0 (replied_before section time (suc place) notes) (queue section (suc place) notes) h)
    more (inr le) h =
        let one = none_is true place time le in
        let rest = none_before section time (suc place) notes (omega arith) in
        let all : one_before true place time + replied_before section time (suc place) notes ≡ 0 = omega arith in
        subst (λ k. AnsweredBy time 1 k (queue section (suc place) notes)) (sym all)
        (none_so_far time 0 (queue section (suc place) notes) (subst (λ k. AnsweredBy time 0 k (queue section (suc place) notes)) rest h))

    by : (b w : Bool) → cond b (w && takes_turns section false notes) (takes_turns section w notes) ≡ true
        → (takes_turns section false notes ≡ true → AnsweredBy time 0 (replied_before section time (suc place) notes) (queue section (suc place) notes))
        → (takes_turns section w notes ≡ true → AnsweredBy time (one_if w) (replied_before section time (suc place) notes) (queue section (suc place) notes))
        → AnsweredBy time (one_if w) (one_before b place time + replied_before section time (suc place) notes) (queue section (suc place) notes)
    by true true t own other = more (cases_lt place time) (own t)
    by true false t own other = absurd (cc)
    by false w t own other =
        let same : 0 + replied_before section time (suc place) notes ≡ replied_before section time (suc place) notes = omega arith in
        subst (λ k. AnsweredBy time (one_if w) k (queue section (suc place) notes)) (sym same) (other t)

at_place : (time count replies : ℕ) (front : List Operation) (x : Operation) (back : List Operation) → AnsweredBy time count replies (front ++ x ∷ back)
    → CameBefore x.answer time ↔ (count + length front) < replies
at_place time count replies [] x back h = ((λ b. let l = h.0.0 b in omega arith), (λ l. h.0.1 (omega arith)))
at_place time count replies (y ∷ front) x back h =
    let rest = at_place time (suc count) replies front x back h.1 in
    ((λ b. let l = rest.0 b in omega arith), (λ l. rest.1 (omega arith)))

-- the section's operation after these was answered before the time exactly if there were more replies than these
pub answered_when : (section : Actor) (time : ℕ) (notes : List Noted) (front : List Operation) (x : Operation) (back : List Operation)
    → takes_turns section false notes ≡ true → queue section 0 notes ≡ front ++ x ∷ back
    → CameBefore x.answer time ↔ length front < replied_before section time 0 notes
answered_when section time notes front x back turns whole =
    let all = at_place time 0 (replied_before section time 0 notes) front x back
    (subst (AnsweredBy time 0 (replied_before section time 0 notes)) whole (answered_by section time 0 false notes turns)) in
    ((λ b. let l = all.0 b in omega arith), (λ l. all.1 (omega arith)))

-- there are no more replies than operations
few_from : (section : Actor) (time place : ℕ) (waits : Bool) (notes : List Noted) → takes_turns section waits notes ≡ true
    → replied_before section time place notes ≤ one_if waits + length (queue section place notes)
few_from section time place waits [] turns = omega arith
few_from section time place waits ((who, note.Begin request) ∷ notes) turns =
    by (is_same_section section who) waits turns (few_from section time (suc place) true notes) (few_from section time (suc place) waits notes)
  where
    by : (b w : Bool) → cond b (not w && takes_turns section true notes) (takes_turns section w notes) ≡ true
        → (takes_turns section true notes ≡ true → replied_before section time (suc place) notes ≤ 1 + length (queue section (suc place) notes))
        → (takes_turns section w notes ≡ true → replied_before section time (suc place) notes ≤ one_if w + length (queue section (suc place) notes))
        → replied_before section time (suc place) notes
        ≤ one_if w
        + length
        (cond b
        (operation_at section place request notes ∷ queue section (suc place) notes)
        (queue section (suc place) notes))
    by true true t own other = absurd (cc)
    by true false t own other = let l = own t in omega arith
    by false w t own other = other t
few_from section time place waits ((who, note.Reply reply) ∷ notes) turns =
    by (is_same_section section who) waits turns (few_from section time (suc place) false notes) (few_from section time (suc place) waits notes)
  where
    at_most : (b : Bool) → one_before b place time ≤ cond b 1 0
    at_most true = small (nat_lt place time)
      where
        small : (c : Bool) → cond {A = ℕ} c 1 0 ≤ 1
        small true = omega arith
        small false = omega arith
    at_most false = omega arith

    by : (b w : Bool) → cond b (w && takes_turns section false notes) (takes_turns section w notes) ≡ true
        → (takes_turns section false notes ≡ true → replied_before section time (suc place) notes ≤ 0 + length (queue section (suc place) notes))
        → (takes_turns section w notes ≡ true → replied_before section time (suc place) notes ≤ one_if w + length (queue section (suc place) notes))
        → one_before b place time + replied_before section time (suc place) notes ≤ one_if w + length (queue section (suc place) notes)
    by true true t own other = let l = own t in let one = at_most true in omega arith
    by true false t own other = absurd (cc)
    by false w t own other = let l = other t in omega arith

pub few_replies : (section : Actor) (time : ℕ) (notes : List Noted) → takes_turns section false notes ≡ true
    → replied_before section time 0 notes ≤ length (queue section 0 notes)
few_replies section time notes turns = let l = few_from section time 0 false notes turns in omega arith

-- ---- what stands before an operation

-- the notes before the operation began, and those after
pub record BeganAfter (section : Actor) (place : ℕ) (notes : List Noted) (front : List Operation) (x : Operation) : Type 0 where
  pub earlier : List Noted
  pub later : List Noted
  pub whole : notes ≡ earlier ++ (section, note.Begin x.request) ∷ later
  pub began : x.began ≡ place + length earlier
  pub count : length front ≡ length (requests_in section earlier)

pub began_after : (section : Actor) (place : ℕ) (notes : List Noted) (front : List Operation) (x : Operation) (back : List Operation)
    → is_same_section section section ≡ true → queue section place notes ≡ front ++ x ∷ back → BeganAfter section place notes front x
began_after section place [] [] x back same e = absurd (cc)
began_after section place [] (y ∷ front) x back same e = absurd (cc)
began_after section place ((who, note.Begin request) ∷ notes) front x back same e =
    by (is_same_section section who) refl front e (λ front h. began_after section (suc place) notes front x back same h)
  where
    own : is_same_section section who ≡ true → who ≡ section
    own h = same_actor section who h

    by : (b : Bool) → is_same_section section who ≡ b → (front : List Operation)
        → cond b
        (operation_at section place request notes ∷ queue section (suc place) notes)
        (queue section (suc place) notes)
        ≡ front ++ x ∷ back
        → ((front : List Operation) → queue section (suc place) notes ≡ front ++ x ∷ back → BeganAfter section (suc place) notes front x)
        → BeganAfter section place ((who, note.Begin request) ∷ notes) front x
    by true is [] h rest =
        let first : operation_at section place request notes ≡ x = head_is _ _ _ _ h in
        let began : place ≡ x.began = ap (λ (y : Operation). y.began) first in
        record {
          earlier = [];
          later = notes;
          whole =
              ap (λ w. (w, note.Begin request) ∷ notes) (own is)
              ∙ ap (λ r. (section, note.Begin r) ∷ notes) (ap (λ (y : Operation). y.request) first);
          began = omega arith;
          count = refl;
        }
    by true is (y ∷ front) h rest =
        let others : queue section (suc place) notes ≡ front ++ x ∷ back = cc in
        let r = rest front others in
        let began = r.began in
        let count = r.count in
        record {
          earlier = (who, note.Begin request) ∷ r.earlier;
          later = r.later;
          whole = ap (λ l. (who, note.Begin request) ∷ l) r.whole;
          began = omega arith;
          count = rw is (omega arith);
        }
    by false is front h rest =
        let r = rest front h in
        let began = r.began in
        record {
          earlier = (who, note.Begin request) ∷ r.earlier;
          later = r.later;
          whole = ap (λ l. (who, note.Begin request) ∷ l) r.whole;
          began = omega arith;
          count = rw is r.count;
        }
began_after section place ((who, note.Reply reply) ∷ notes) front x back same e =
    let r = began_after section (suc place) notes front x back same e in
    let began = r.began in
    record {
      earlier = (who, note.Reply reply) ∷ r.earlier;
      later = r.later;
      whole = ap (λ l. (who, note.Reply reply) ∷ l) r.whole;
      began = omega arith;
      count = r.count;
    }

-- the replies before a place are those of the notes before it
pub replied_until : (section : Actor) (place : ℕ) (earlier later : List Noted)
    → replied_before section (place + length earlier) place (earlier ++ later) ≡ length (replies_in section earlier)
replied_until section place [] later = none_before section (place + 0) place later (omega arith)
replied_until section place ((who, note.Begin request) ∷ earlier) later =
    let at : place + suc (length earlier) ≡ suc place + length earlier = omega arith in
    ap (λ t. replied_before section t (suc place) (earlier ++ later)) at ∙ replied_until section (suc place) earlier later
replied_until section place ((who, note.Reply reply) ∷ earlier) later =
    let at : place + suc (length earlier) ≡ suc place + length earlier = omega arith in
    let rest = ap (λ t. replied_before section t (suc place) (earlier ++ later)) at ∙ replied_until section (suc place) earlier later in
    let one = one_is (is_same_section section who) place (place + suc (length earlier)) (omega arith) in
    by (is_same_section section who) one rest
  where
    by : (b : Bool) → one_before b place (place + suc (length earlier)) ≡ cond b 1 0
        → replied_before section (place + suc (length earlier)) (suc place) (earlier ++ later) ≡ length (replies_in section earlier)
        → one_before b place (place + suc (length earlier)) + replied_before section (place + suc (length earlier)) (suc place) (earlier ++ later)
        ≡ length ((if b then reply ∷ [] else []) ++ replies_in section earlier)
    by true one rest = omega arith
    by false one rest = omega arith
