-- A call that begins sends a request without a fault: its section's turn, its key, its budget and the number that it names.
use Rattle.std.proofs.Common.{◌≡◌, ◌⊎◌, inl, inr, ℕ, ◌<◌, ◌≤◌, nat_le, true, false, not, ◌&&◌, ◌||◌, None, List, [], ◌∷◌, ◌++◌, length, map}
use Rattle.std.proofs.Common.{slice_index_or, refl, ap, ap₂, sym, subst, ◌∙◌, arith}
use Rattle.std.proofs.lemmas.Bool.{cases_lt, and_parts, leb-true, lt-leb, or_from, or_left, or_right, and_from, and_left, and_right, not_from_true}
use Rattle.std.proofs.lemmas.List.{append-nil, length-map}
use Rattle.std.specs.Option.{option_to_list}
use Rattle.mc_protocol.specs.declared.limits.TheConstants.{KEYS_LIMIT, REQUESTS_LIMIT}
use Rattle.mc_protocol.specs.{declared.actor.Actor.Actor, declared.reply.Reply.Reply}
use Rattle.mc_protocol.specs.declared.actor.Actor.TheVariants as actor
use Rattle.mc_code.specs.Calls.{IsCalling, exchange_of, template_of}
use Rattle.mc_code.specs.{Code.Code, Code.IsCode, Standing.ComesTo, States.Tagged, States.ended, declared.instr.Call.Call}
use Rattle.mc_model.specs.History.{has_words, has_key, is_delete, are_answered, is_none_sent, is_history, fault_at, is_seen, key_count}
use Rattle.mc_model.specs.{Notes.is_same_section, Sections.Sections, Sections.section_of, declared.sent.Sent.Sent}
use Rattle.mc_model.specs.Next as next
use Rattle.mc_model.proofs.Faults.{fault_by_tests}
use Rattle.mc_sound.specs.Faults.{IsSound}
use Rattle.mc_core.specs.{Histories.sent_of, Histories.unanswered, Histories.sent_in, Histories.sections_of, Logs.Log, Logs.new_log, Logs.request_of}
use Rattle.mc_core.specs.{Logs.IsRightLog, Worlds.World, Worlds.log_of, Worlds.exchanges_of, Worlds.BeginsIn, Worlds.IsBegun, Worlds.IsDone}
use Rattle.mc_core.proofs.Clearing.{front_clears, done_cleared, calls_in_front, stands_in_front}
use Rattle.mc_core.proofs.NextRequest.{request_words, key_there, few_keys, call_made, next_seen}
use Rattle.mc_core.proofs.StepLemmas.{IsRightIn, IsRight, begun_is_right, still_new}

-- ---- sections

pub section_is : (c : Code) (w : World) (who : Actor) → section_of (sections_of c w) who ≡ sent_in c (log_of w who)
section_is c w actor.P = refl
section_is c w _ = refl

all_answered : (c : Code) (pairs : List (Call × Reply)) → are_answered (map (sent_of c) pairs ++ []) ≡ true
all_answered c [] = refl
all_answered c ((made, reply) ∷ pairs) = all_answered c pairs

-- a section with no call that waits has a reply to each request
idle_answered : (c : Code) (log : Log) → log.waiting ≡ None → are_answered (sent_in c log) ≡ true
idle_answered c log idle = rw idle (all_answered c log.answered)

none_sent : (c : Code) (log : Log) → log ≡ new_log → is_none_sent (sent_in c log) ≡ true
none_sent c log new = ap (λ log. is_none_sent (sent_in c log)) new

-- ---- what an accepted begin finds

-- P has the key of the call, or the call is the one of P that deletes it, where few keys are there
abbrev pub HasItsKey : Code → World → Actor → Call → Type 0
HasItsKey c w who made =
    (has_key (request_of c made).key (sent_in c w.logs.p) ≡ true)
    ⊎ ((who ≡ actor.P) × (is_delete (template_of c made).verb ≡ true) × (key_count (sections_of c w) < KEYS_LIMIT))

-- P is idle, and the section too; and P hasn't begun a call after a branch did
pub record MayBegin (c : Code) (w : World) (who : Actor) : Type 0 where
  pub turn : next.may_come (sections_of c w) who ≡ true
  pub key : (made : Call) (variables : List Tagged) → BeginsIn c w who variables → IsCalling c who variables (exchanges_of c w who) made
      → IsSound c → IsCode c → HasItsKey c w who made

few_declared : (c : Code) → IsCode c → length c.keys ≤ KEYS_LIMIT
few_declared c kept = leb-true _ _ (and_parts _ _ (and_parts _ _ kept.keys).0).0

-- the keys of P's calls, once it has deleted all
cleared_key : (c : Code) (log : Log) (variables : List Tagged) (j : ℕ) → IsSound c → IsRightLog c actor.P variables log
    → length c.keys ≤ length log.answered → j < length c.keys → has_key (slice_index_or c.keys j []) (sent_in c log) ≡ true
cleared_key c log variables j sound right all declared =
    key_there c 0 j log.answered (map (unanswered c) (option_to_list log.waiting)) (front_clears c variables log.answered sound right.makes)
    (omega arith) (omega (arith, all, declared)) declared

pub idle_length : (c : Code) (log : Log) → log.waiting ≡ None → length (sent_in c log) ≡ length log.answered
idle_length c log idle = rw idle (ap length (append-nil (map (sent_of c) log.answered)) ∙ length-map log.answered (sent_of c))

p_begins : (c : Code) (w : World) → IsRight c w → (IsDone c w actor.P → ⊥) → w.logs.p.waiting ≡ None → MayBegin c w actor.P
p_begins c w right goes_on idle = record { turn = turn; key = key }
  where
    new_a : w.logs.a ≡ new_log
    new_a = still_new c w actor.A (right actor.A) goes_on

    new_b : w.logs.b ≡ new_log
    new_b = still_new c w actor.B (right actor.B) goes_on

    turn : next.may_come (sections_of c w) actor.P ≡ true
    turn = rw (none_sent c w.logs.a new_a, none_sent c w.logs.b new_b, idle_answered c w.logs.p idle) refl

    sents : List Sent
    sents = sent_in c w.logs.p

    count : key_count (sections_of c w) ≤ length w.logs.p.answered
    count =
        let whole : sents ++ sent_in c w.logs.a ++ sent_in c w.logs.b ≡ sents =
        ap₂ (λ x y. sents ++ x ++ y) (ap (sent_in c) new_a) (ap (sent_in c) new_b) ∙ append-nil (sents ++ []) ∙ append-nil sents in
        let few = few_keys (sents ++ sent_in c w.logs.a ++ sent_in c w.logs.b) in
        let same = ap length whole ∙ idle_length c w.logs.p idle in
        omega (arith, few, same)

    key : (made : Call) (variables : List Tagged) → BeginsIn c w actor.P variables
        → IsCalling c actor.P variables (exchanges_of c w actor.P) made → IsSound c → IsCode c → HasItsKey c w actor.P made
    key made variables begins calling sound kept = by_order (cases_lt (length w.logs.p.answered) (length c.keys))
      where
        in_p : IsRightIn c w actor.P
        in_p = begun_is_right c w actor.P (right actor.P) tt

        log_right : IsRightLog c actor.P variables w.logs.p
        log_right = subst (λ vs. IsRightLog c actor.P vs w.logs.p) (in_p.begins ∙ sym begins) in_p.right

        mapped : length (exchanges_of c w actor.P) ≡ length w.logs.p.answered
        mapped = length-map w.logs.p.answered (exchange_of c)

        by_order : (length w.logs.p.answered < length c.keys) ⊎ (length c.keys ≤ length w.logs.p.answered)
            → HasItsKey c w actor.P made
        by_order (inl inside) =
            let front = calls_in_front c variables (exchanges_of c w actor.P) made sound
            (stands_in_front c variables w.logs.p.answered sound log_right.makes) (omega (arith, inside, mapped)) calling in
            let most = few_declared c kept in
            inr (refl, ap is_delete front.clearing.verb, omega (arith, count, inside, most))
        by_order (inr all) =
            let declared = (call_made c actor.P variables (exchanges_of c w actor.P) made kept calling).0.key in
            inl (cleared_key c w.logs.p variables (template_of c made).key sound log_right all declared)

-- what a branch finds once P is done
branch_key : (c : Code) (w : World) (who : Actor) → IsRight c w → IsDone c w actor.P → (made : Call) (variables : List Tagged)
    → IsCalling c who variables (exchanges_of c w who) made → IsSound c → IsCode c
    → has_key (request_of c made).key (sent_in c w.logs.p) ≡ true
branch_key c w who right done made variables calling sound kept =
    let in_p = begun_is_right c w actor.P (right actor.P) tt in
    let over = done.2 in
    let same : over.0 ≡ in_p.variables = over.2 ∙ sym in_p.begins in
    let comes = subst (λ vs. ComesTo c actor.P vs (exchanges_of c w actor.P) over.1 ended) same over.3 in
    let all = done_cleared c in_p.variables w.logs.p.answered over.1 sound in_p.right.makes comes in
    let declared = (call_made c who variables (exchanges_of c w who) made kept calling).0.key in
    cleared_key c w.logs.p in_p.variables (template_of c made).key sound in_p.right all declared

pub may_begin : (c : Code) (w : World) (who : Actor) → IsRight c w → IsBegun c w who → (IsDone c w who → ⊥) → (log_of w who).waiting ≡ None
    → MayBegin c w who
may_begin c w actor.P right begun goes_on idle = p_begins c w right goes_on idle
may_begin c w who right begun goes_on idle = record {
  turn = rw (idle_answered c w.logs.p begun.1, idle_answered c (log_of w who) idle) refl;
  key = λ made variables begins calling sound kept. inl (branch_key c w who right begun made variables calling sound kept);
}

-- ---- a request without a fault

not_full : (s : Sections) (who : Actor) (sent : Sent) → length (section_of s who) < REQUESTS_LIMIT
    → (has_key sent.request.key s.p ≡ true) ⊎ (key_count s < KEYS_LIMIT) → next.is_full s who sent ≡ false
not_full s who sent few keys = or_from (nat_le REQUESTS_LIMIT (length (section_of s who))) _ (lt-leb _ _ few) (by_keys keys)
  where
    by_keys : (has_key sent.request.key s.p ≡ true) ⊎ (key_count s < KEYS_LIMIT)
        → (nat_le KEYS_LIMIT (key_count s) && not (has_key sent.request.key s.p)) ≡ false
    by_keys (inl there) = and_right (nat_le KEYS_LIMIT (key_count s)) _ (not_from_true _ there)
    by_keys (inr few) = and_left (nat_le KEYS_LIMIT (key_count s)) _ (lt-leb _ _ few)

pub begin_faultless : (c : Code) (w : World) (who : Actor) (made : Call) (variables : List Tagged) → IsSound c → IsCode c
    → is_history (sections_of c w) ≡ true → MayBegin c w who → length (sent_in c (log_of w who)) < REQUESTS_LIMIT
    → BeginsIn c w who variables → IsCalling c who variables (exchanges_of c w who) made
    → fault_at (sections_of c w) who (unanswered c made) ≡ None
begin_faultless c w who made variables sound kept history may few begins calling =
    let by_key = cleared (may.key made variables begins calling sound kept) in
    fault_by_tests s who sent history ∙ rw (words, not_full s who sent own_few by_key.0, may.turn, by_key.1, seen) refl
  where
    s : Sections
    s = sections_of c w

    sent : Sent
    sent = unanswered c made

    words : has_words sent.request ≡ true
    words = request_words c who variables (exchanges_of c w who) made kept calling

    own_few : length (section_of s who) < REQUESTS_LIMIT
    own_few = subst (λ l. length l < REQUESTS_LIMIT) (sym (section_is c w who)) few

    cleared : HasItsKey c w who made
        → ((has_key sent.request.key s.p ≡ true) ⊎ (key_count s < KEYS_LIMIT)) × (next.clears s who sent ≡ true)
    cleared (inl there) = (inl there, or_left (has_key sent.request.key s.p) _ there)
    cleared (inr (prefix, deletes, few)) =
        let may_delete = and_from (is_same_section actor.P who) (is_delete sent.request.verb) (ap (is_same_section actor.P) prefix) deletes in
        (inr few, or_right (has_key sent.request.key s.p) _ may_delete)

    seen : next.number_is_seen s who sent ≡ true
    seen =
        ap (λ l. is_seen s.p sent || is_seen l sent) (section_is c w who)
        ∙ next_seen c who w.logs.p (log_of w who) variables made kept begins calling
