-- What stands before a request of a history is a history.
use Rattle.std.proofs.Common.{◌≡◌, ℕ, ◌+◌, Bool, true, false, not, ◌&&◌, ◌||◌, Some, None, List, [], ◌∷◌, ◌++◌, take, drop, slice_get}
use Rattle.std.proofs.Common.{append_assoc, append-nil, take-append-drop, refl, sym, ap, subst, ◌∙◌, arith}
use Rattle.std.proofs.lemmas.Option.{slice_get_within, get_or_from_slice_get}
use Rattle.std.proofs.{lemmas.Bool.and_parts, lemmas.Bool.false_from_ne_true, lemmas.List.take_more}
use Rattle.mc_model.specs.Sections.{Sections, with_sent, before, section_of}
use Rattle.mc_model.specs.History.{has_words, all_have_words, has_few_requests, has_few_keys, is_in_turn, is_cleared, numbers_are_seen}
use Rattle.mc_model.specs.History.{is_answered_rightly, are_answered_rightly, is_history, comes_late, IsFirstFault}
use Rattle.mc_model.specs.{Types.Actor, Types.Sent, Types.HistoryKind, Next.may_come, Next.with_section}
use Rattle.mc_protocol.specs.declared.actor.Actor.TheVariants as actor
use Rattle.mc_model.proofs.{Added.every_added, Turns.turn_added, Cleared.cleared_added, Seen.numbers_added}
use Rattle.mc_model.proofs.{Limits.requests_added, Limits.keys_added, Faults.rules_of, Faults.history_of, Faults.no_fault_of}

first : (x y : Bool) (z : Bool) → z ≡ (x && y) → z ≡ true → x ≡ true
first x y z e all = (and_parts x y (sym e ∙ all)).0

turn_before : (late next turn may : Bool) → (late || not next) ≡ not (turn && may) → late ≡ false → next ≡ true → turn ≡ true
turn_before late next turn may e f g = grind arith

-- what stands before the last request of a history is a history
pub history_before : (s : Sections) (who : Actor) (sent : Sent) → comes_late s who ≡ false → is_history (with_sent s who sent) ≡ true → is_history s ≡ true
history_before s who sent late h =
    let r = rules_of (with_sent s who sent) h in
    history_of s (record {
      words = first (all_have_words s) _ _ (every_added (λ x. has_words x.request) s who sent) r.words;
      few = first (has_few_requests s) _ _ (requests_added s who sent) r.few;
      few_keys = first (has_few_keys s) _ _ (keys_added s who sent) r.few_keys;
      turn = turn_before _ _ (is_in_turn s) (may_come s who) (turn_added s who sent) late r.turn;
      cleared = first (is_cleared s) _ _ (cleared_added s who sent late) r.cleared;
      numbers = first (numbers_are_seen s) _ _ (numbers_added s who sent late) r.numbers;
      replies = first (are_answered_rightly s) _ _ (every_added is_answered_rightly s who sent) r.replies;
    })

-- one more request at the end of a section
pub added_last : (s : Sections) (who : Actor) (xs : List Sent) (x : Sent) → with_section s who (xs ++ x ∷ []) ≡ with_sent (with_section s who xs) who x
added_last s actor.P xs x = refl
added_last s actor.A xs x = refl
added_last s actor.B xs x = refl

-- a section in its own place
pub same_section : (s : Sections) (who : Actor) → with_section s who (section_of s who) ≡ s
same_section s actor.P = refl
same_section s actor.A = refl
same_section s actor.B = refl

-- whether a request is late doesn't lie at its own section
pub late_with : (s : Sections) (who : Actor) (xs : List Sent) → comes_late (with_section s who xs) who ≡ comes_late s who
late_with s actor.P xs = refl
late_with s actor.A xs = refl
late_with s actor.B xs = refl

-- a section may lose its last requests
shorter : (s : Sections) (who : Actor) (xs ys : List Sent) → comes_late s who ≡ false → is_history (with_section s who (xs ++ ys)) ≡ true
    → is_history (with_section s who xs) ≡ true
shorter s who xs [] late h = subst (λ all. is_history (with_section s who all) ≡ true) (append-nil xs) h
shorter s who xs (y ∷ ys) late h =
    let moved : is_history (with_section s who ((xs ++ y ∷ []) ++ ys)) ≡ true =
    subst (λ all. is_history (with_section s who all) ≡ true) (sym (append_assoc xs (y ∷ []) ys)) h in
    let one = shorter s who (xs ++ y ∷ []) ys late moved in
    history_before (with_section s who xs) who y (late_with s who xs ∙ late) (sym (ap is_history (added_last s who xs y)) ∙ one)

-- the first requests of a section
first_of_section : (s : Sections) (who : Actor) (n : ℕ) (xs : List Sent) → comes_late s who ≡ false → is_history (with_section s who xs) ≡ true
    → is_history (with_section s who (take n xs)) ≡ true
first_of_section s who n xs late h =
    shorter s who (take n xs) (drop n xs) late (subst (λ all. is_history (with_section s who all) ≡ true) (sym (take-append-drop n xs)) h)

-- what stands before a request of a history is a history
pub history_before_place : (s : Sections) (who : Actor) (n : ℕ) → is_history s ≡ true → is_history (before s who n) ≡ true
history_before_place s actor.B n h = first_of_section s actor.B n s.b refl h
history_before_place s actor.A n h =
    let without_b = record s { b = [] } in
    first_of_section without_b actor.A n s.a refl (shorter s actor.B [] s.b refl h)
history_before_place s actor.P n h =
    let without_b = record s { b = [] } in
    let alone : Sections = record { p = s.p; a = []; b = [] } in
    first_of_section alone actor.P n s.p refl (shorter without_b actor.A [] s.a refl (shorter s actor.B [] s.b refl h))

-- an element at a place comes after those before it
pub next_of : {X : Type 0} → (xs : List X) (n : ℕ) (x : X) → slice_get xs n ≡ Some x → take (n + 1) xs ≡ take n xs ++ x ∷ []
next_of xs n x at = take_more xs n x (slice_get_within xs n x at) ∙ ap (λ y. take n xs ++ y ∷ []) (get_or_from_slice_get xs n x x at)

-- the request at a place, after those before it
before_next : (s : Sections) (who : Actor) (n : ℕ) (sent : Sent) → slice_get (section_of s who) n ≡ Some sent
    → before s who (n + 1) ≡ with_sent (before s who n) who sent
before_next s actor.P n sent at = rw (next_of s.p n sent at) refl
before_next s actor.A n sent at = rw (next_of s.a n sent at) refl
before_next s actor.B n sent at = rw (next_of s.b n sent at) refl

not_late_before : (s : Sections) (who : Actor) (n : ℕ) → comes_late (before s who n) who ≡ false
not_late_before s actor.P n = refl
not_late_before s actor.A n = refl
not_late_before s actor.B n = refl

-- sections with a faulty request are no history
pub no_history : (s : Sections) (kind : HistoryKind) (who : Actor) (place : ℕ) → IsFirstFault s kind who place → is_history s ≡ false
no_history s kind who place f =
    false_from_ne_true (is_history s)
    (λ h.
    let next : is_history (with_sent (before s who place) who f.sent) ≡ true =
    sym (ap is_history (before_next s who place f.sent f.request)) ∙ history_before_place s who (place + 1) h in
    let none = no_fault_of (before s who place) who f.sent (not_late_before s who place) next in
    let both : None ≡ Some kind = sym none ∙ f.fault in
    cc)
