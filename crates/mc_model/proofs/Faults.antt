-- The fault of a request that comes next, by the tests of that request alone.
use Rattle.std.proofs.Common.{◌≡◌, ◌+◌, ◌≤◌, Bool, true, false, cond, not, ◌&&◌, ◌||◌, if◌then◌else◌, Option, Some, None, refl, ap, ◌∙◌, arith}
use Rattle.std.proofs.lemmas.Bool.{leb-true}
use Rattle.std.specs.{Ordering.nat_cmp, Cmp.Lexicographic.slice_cmp}
use Rattle.std.specs.FinSet as set
use Rattle.mc_model.specs.History.{has_words, all_have_words, has_few_requests, has_few_keys, is_within_limits, is_in_turn, is_cleared, numbers_are_seen}
use Rattle.mc_model.specs.History.{is_answered_rightly, are_answered_rightly, is_history, fault_at, comes_late, key_count}
use Rattle.mc_model.specs.Next.{is_full, may_come, clears, number_is_seen, keys_with}
use Rattle.mc_model.specs.{Types.Actor, Types.KEYS_LIMIT, Types.Sent, Types.HistoryKind, Sections.Sections, Sections.no_sections, Sections.with_sent}
use Rattle.mc_model.specs.declared.rules.HistoryKind.TheVariants as kind
use Rattle.mc_model.proofs.{Added.every_added, Turns.turn_added, Keys.key_count_added, Seen.numbers_added}
use Rattle.mc_model.proofs.{Limits.requests_added, Limits.keys_added, Cleared.cleared_added, Cleared.keys_in_prefix}

-- the rules of a history, one by one
pub record Rules (s : Sections) : Type 0 where
  pub words : all_have_words s ≡ true
  pub few : has_few_requests s ≡ true
  pub few_keys : has_few_keys s ≡ true
  pub turn : is_in_turn s ≡ true
  pub cleared : is_cleared s ≡ true
  pub numbers : numbers_are_seen s ≡ true
  pub replies : are_answered_rightly s ≡ true

seven : (a b c d e f g : Bool) → (a && (b && c) && d && e && f && g) ≡ true
    → (a ≡ true) × (b ≡ true) × (c ≡ true) × (d ≡ true) × (e ≡ true) × (f ≡ true) × (g ≡ true)
seven a b c d e f g h = grind arith

-- a history keeps each rule
pub rules_of : (s : Sections) → is_history s ≡ true → Rules s
unfolding is_history
rules_of s h =
    let p = seven (all_have_words s) (has_few_requests s) (has_few_keys s) (is_in_turn s) (is_cleared s) (numbers_are_seen s) (are_answered_rightly s) h in
    record { words = p.0; few = p.1; few_keys = p.2; turn = p.3; cleared = p.4; numbers = p.5; replies = p.6 }

-- what keeps each rule is a history
pub history_of : (s : Sections) → Rules s → is_history s ≡ true
unfolding is_history
history_of s r = rw (r.words, r.few, r.few_keys, r.turn, r.cleared, r.numbers, r.replies) refl

-- the first test that fails
abbrev pub first_failed : Bool → Bool → Bool → Bool → Bool → Bool → Option HistoryKind
first_failed words full turn cleared seen rightly =
    if not words then Some kind.Line
    else (if full then Some kind.TooMany
    else (if not turn then Some kind.Order
    else (if not cleared then Some kind.NotCleared
    else (if not seen then Some kind.UnseenNumber
    else (if not rightly then Some kind.WrongReply
    else None)))))

neither : (x y : Bool) → (not x && not y) ≡ not (x || y)
neither x y = grind arith

-- the tests of a request that comes late, or whose turn it is not, end there
in_turn : (words full late turn may cleared clears seen shown rightly fits : Bool) → (late || not turn) ≡ not may
    → (late ≡ false → cleared ≡ clears) → (late ≡ false → seen ≡ shown) → rightly ≡ fits
    → (if not words then Some kind.Line
    else (if not (not full) then Some kind.TooMany
    else (if late || not turn then Some kind.Order
    else (if not cleared then Some kind.NotCleared else (if not seen then Some kind.UnseenNumber else (if not rightly then Some kind.WrongReply else None))))))
    ≡ first_failed words full may clears shown fits
in_turn words full late turn may cleared clears seen shown rightly fits by c n r = grind arith

-- what is wrong with the request that comes next is the first test that it fails
pub fault_by_tests : (s : Sections) (who : Actor) (sent : Sent) → is_history s ≡ true
    → fault_at s who sent ≡ first_failed (has_words sent.request) (is_full s who sent) (may_come s who) (clears s who sent) (number_is_seen s who sent)
    (is_answered_rightly sent)
unfolding fault_at
fault_by_tests s who sent h =
    let r = rules_of s h in
    let t = with_sent s who sent in
    let words : all_have_words t ≡ has_words sent.request = every_added (λ x. has_words x.request) s who sent ∙ rw r.words refl in
    let limits : is_within_limits t ≡ not (is_full s who sent) =
    rw (requests_added s who sent, keys_added s who sent, r.few, r.few_keys, keys_in_prefix s sent.request.key r.cleared) (neither _ _) in
    rw (words, limits) (in_turn (has_words sent.request) (is_full s who sent) (comes_late s who) (is_in_turn t) (may_come s who) (is_cleared t)
    (clears s who sent) (numbers_are_seen t) (number_is_seen s who sent) (are_answered_rightly t) (is_answered_rightly sent)
    (turn_added s who sent ∙ rw r.turn refl) (λ late. cleared_added s who sent late ∙ rw r.cleared refl)
    (λ late. numbers_added s who sent late ∙ rw r.numbers refl) (every_added is_answered_rightly s who sent ∙ rw r.replies refl))

-- all rules are kept where none is broken
pub none_failed : (words limits late turn cleared seen replies : Bool)
    → (if not words then Some kind.Line
    else (if not limits then Some kind.TooMany
    else (if late || not turn then Some kind.Order
    else (if not cleared then Some kind.NotCleared else (if not seen then Some kind.UnseenNumber else (if not replies then Some kind.WrongReply else None))))))
    ≡ None → (late ≡ false) × ((words && limits && turn && cleared && seen && replies) ≡ true)
none_failed words limits late turn cleared seen replies e = grind arith

-- where nothing is wrong with the request that comes next, it is not late, and the sections with it are a history
pub no_fault : (s : Sections) (who : Actor) (sent : Sent) → fault_at s who sent ≡ None → (comes_late s who ≡ false) × (is_history (with_sent s who sent) ≡ true)
unfolding fault_at is_history
no_fault s who sent none =
    let t = with_sent s who sent in
    none_failed (all_have_words t) (is_within_limits t) (comes_late s who) (is_in_turn t) (is_cleared t) (numbers_are_seen t) (are_answered_rightly t) none

-- where the request is not late and the sections with it are a history, nothing is wrong with it
pub no_fault_of : (s : Sections) (who : Actor) (sent : Sent) → comes_late s who ≡ false → is_history (with_sent s who sent) ≡ true → fault_at s who sent ≡ None
unfolding fault_at
no_fault_of s who sent late h =
    let r = rules_of (with_sent s who sent) h in
    rw (late, r.words, r.few, r.few_keys, r.turn, r.cleared, r.numbers, r.replies) refl

-- how many keys a history has with one more request
pub keys_counted : (s : Sections) (who : Actor) (sent : Sent) → is_history s ≡ true → key_count (with_sent s who sent) ≡ keys_with s sent
keys_counted s who sent h = key_count_added s who sent
    ∙ ap (λ b. cond b (key_count s) (key_count s + 1)) (keys_in_prefix s sent.request.key (rules_of s h).cleared)

-- a history has at most as many keys as it may
pub few_keys_in : (s : Sections) → is_history s ≡ true → key_count s ≤ KEYS_LIMIT
few_keys_in s h = leb-true (key_count s) KEYS_LIMIT (rules_of s h).few_keys

-- no requests have no keys
pub no_keys : key_count no_sections ≡ 0
no_keys = set.len-empty (slice_cmp nat_cmp)

-- no requests are a history
pub nothing_sent : is_history no_sections ≡ true
unfolding is_history
nothing_sent = rw no_keys refl
