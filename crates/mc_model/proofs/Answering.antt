-- A history in which the last request of a section gets its reply.
use Rattle.std.proofs.Common.{◌≡◌, ◌⊎◌, inl, inr, ℕ, ◌-◌, ◌<◌, Bool, true, false, not, ◌&&◌, ◌||◌, if◌then◌else◌}
use Rattle.std.proofs.Common.{Option, Some, None, is_some, Result, Ok, Err, OnOk, IfOk, OnErr, List, [], ◌∷◌, ◌++◌}
use Rattle.std.proofs.Common.{length, slice_get, slice_index_or, arith, refl, sym, ap, ◌∙◌, length-append}
use Rattle.std.proofs.{Math.ListN.set, Math.Seq.set-append_seam, lemmas.Bool.false_from_ne_true, lemmas.List.Folds.list_all-append, lemmas.List.get_or_at}
use Rattle.std.proofs.{lemmas.List.length_push, lemmas.List.map-append, lemmas.Option.slice_get-get_or, lemmas.Option.same_Some}
use Rattle.std.specs.{Option.option_or, Ordering.nat_cmp, Cmp.Lexicographic.slice_cmp}
use Rattle.std.specs.FinSet as set
use Rattle.mc_protocol.specs.Legal.{is_fit}
use Rattle.mc_model.specs.History.{are_answered, is_open_at_the_end, has_words, has_no_branch, keys_of, key_count, is_history, fault_at, comes_late}
use Rattle.mc_model.specs.Next.{is_full, may_come, clears, number_is_seen, with_section, last_of, reply_fault, with_last_reply, after_reply}
use Rattle.mc_model.specs.{Types.Actor, Types.Request, Types.Reply, Types.Sent, Types.HistoryKind, Sections.Sections, Sections.section_of, Sections.with_sent}
use Rattle.mc_protocol.specs.declared.actor.Actor.TheVariants as actor
use Rattle.mc_model.specs.declared.rules.HistoryKind.TheVariants as kind
use Rattle.mc_model.proofs.Faults.{first_failed, fault_by_tests, no_fault, no_fault_of, rules_of}
use Rattle.mc_model.proofs.Prefixes.{history_before, added_last, late_with, same_section}

-- ---- the last request

-- a list is empty, or has a last element
pub ends : (xs : List Sent) → (xs ≡ []) ⊎ ((front : List Sent) × (sent : Sent) × (xs ≡ front ++ sent ∷ []))
ends [] = inl refl
ends (x ∷ xs) =
    elim (ends xs) [
      | inl e ↦ inr ([], x, ap (λ l. x ∷ l) e)
      | inr (front, sent, e) ↦ inr (x ∷ front, sent, ap (λ l. x ∷ l) e)
    ]

pub last_of-push : (front : List Sent) (sent : Sent) → last_of (front ++ sent ∷ []) ≡ Some sent
last_of-push front sent =
    let there : length (front ++ sent ∷ []) - 1 ≡ length front = ap (λ n. n - 1) (length_push front sent) ∙ omega arith in
    ap (λ n. slice_get (front ++ sent ∷ []) n) there
    ∙ slice_get-get_or (front ++ sent ∷ []) (length front) sent (simp length-append (omega arith))
    ∙ ap Some (get_or_at front sent [] sent (length front) refl)

pub with_last_reply-push : (front : List Sent) (sent : Sent) (reply : Reply)
    → with_last_reply (front ++ sent ∷ []) reply ≡ front ++ record sent { reply = Some reply } ∷ []
with_last_reply-push [] sent reply = refl
with_last_reply-push (x ∷ []) sent reply = refl
with_last_reply-push (x ∷ y ∷ front) sent reply = ap (λ l. x ∷ l) (with_last_reply-push (y ∷ front) sent reply)

-- the last element of a list that has one
pub last_is : (xs : List Sent) (n : ℕ) (sent : Sent) → n ≡ length xs → 0 < length xs → sent ≡ slice_index_or xs (n - 1) sent → last_of xs ≡ Some sent
last_is xs n sent len some is =
    ap (λ m. slice_get xs (m - 1)) (sym len) ∙ slice_get-get_or xs (n - 1) sent (omega (arith, len, some)) ∙ ap Some (sym is)

-- to write the last request with the reply is to give it the reply
pub set_last : (xs : List Sent) (n : ℕ) (sent : Sent) (reply : Reply) → n ≡ length xs → last_of xs ≡ Some sent
    → set xs (n - 1) (record { request = sent.request; reply = Some reply }) ≡ with_last_reply xs reply
set_last xs n sent reply len is =
    elim (ends xs) [
      | inl e ↦ let none : None ≡ Some sent = sym (ap last_of e) ∙ is in absurd cc
      | inr (front, last, e) ↦
          let same : last ≡ sent = same_Some last sent (sym (last_of-push front last) ∙ sym (ap last_of e) ∙ is) in
          let place : n - 1 ≡ length front = ap (λ m. m - 1) (len ∙ ap length e ∙ length_push front last) ∙ omega arith in
          rw (place, e, ← same) (set-append_seam front last [] (record { request = last.request; reply = Some reply })
          ∙ sym (with_last_reply-push front last reply))
    ]

-- a reply changes no key
keys-answered : (xs : List Sent) (reply : Reply) → keys_of (with_last_reply xs reply) ≡ keys_of xs
keys-answered [] reply = refl
keys-answered (x ∷ []) reply = refl
keys-answered (x ∷ y ∷ xs) reply = ap (λ l. x.request.key ∷ l) (keys-answered (y ∷ xs) reply)

keys_in_all : (xs ys zs : List Sent) → keys_of (xs ++ ys ++ zs) ≡ keys_of xs ++ keys_of ys ++ keys_of zs
keys_in_all xs ys zs = map-append (λ (sent : Sent). sent.request.key) (xs ++ ys) zs
    ∙ ap (λ l. l ++ keys_of zs) (map-append (λ (sent : Sent). sent.request.key) xs ys)

pub key_count-after_reply : (s : Sections) (who : Actor) (reply : Reply) → key_count (after_reply s who reply) ≡ key_count s
key_count-after_reply s who reply = ap (λ keys. set.len (set.from_list {R = slice_cmp nat_cmp} keys)) (same who)
  where
    same : (who : Actor) → keys_of ((after_reply s who reply).p ++ (after_reply s who reply).a ++ (after_reply s who reply).b) ≡ keys_of (s.p ++ s.a ++ s.b)
    same actor.P = rw (keys_in_all (with_last_reply s.p reply) s.a s.b, keys_in_all s.p s.a s.b, keys-answered s.p reply) refl
    same actor.A = rw (keys_in_all s.p (with_last_reply s.a reply) s.b, keys_in_all s.p s.a s.b, keys-answered s.a reply) refl
    same actor.B = rw (keys_in_all s.p s.a (with_last_reply s.b reply), keys_in_all s.p s.a s.b, keys-answered s.b reply) refl

-- ---- the reply

replied : (words full turn cleared seen fits : Bool) → first_failed words full turn cleared seen fits
    ≡ option_or (first_failed words full turn cleared seen true) (if fits then None else Some kind.WrongReply)
replied words full turn cleared seen fits = grind arith

-- a request with a reply has the fault that it has without one, or else that of its reply
replied_fault : (s : Sections) (who : Actor) (request : Request) (reply : Reply) → is_history s ≡ true
    → fault_at s who (record { request = request; reply = Some reply })
    ≡ option_or (fault_at s who (record { request = request; reply = None })) (if is_fit request reply then None else Some kind.WrongReply)
replied_fault s who request reply h =
    let open_one : Sent = record { request = request; reply = None } in
    fault_by_tests s who (record { request = request; reply = Some reply }) h
    ∙ replied (has_words request) (is_full s who open_one) (may_come s who) (clears s who open_one) (number_is_seen s who open_one) (is_fit request reply)
    ∙ ap (λ o. option_or o (if is_fit request reply then None else Some kind.WrongReply)) (sym (fault_by_tests s who open_one h))

-- a request that waits, and the same with a reply: the reply is what may be wrong
pub fault_with_reply : (s : Sections) (who : Actor) (request : Request) (reply : Reply) → comes_late s who ≡ false
    → is_history (with_sent s who (record { request = request; reply = None })) ≡ true
    → fault_at s who (record { request = request; reply = Some reply }) ≡ (if is_fit request reply then None else Some kind.WrongReply)
fault_with_reply s who request reply late h =
    let open_one : Sent = record { request = request; reply = None } in
    replied_fault s who request reply (history_before s who open_one late h)
    ∙ ap (λ o. option_or o (if is_fit request reply then None else Some kind.WrongReply)) (no_fault_of s who open_one late h)

-- what is a history with the reply is one without it
pub unanswered_history : (s : Sections) (who : Actor) (request : Request) (reply : Reply) → comes_late s who ≡ false
    → is_history (with_sent s who (record { request = request; reply = Some reply })) ≡ true
    → is_history (with_sent s who (record { request = request; reply = None })) ≡ true
unanswered_history s who request reply late h =
    let whole : Sent = record { request = request; reply = Some reply } in
    let none = sym (replied_fault s who request reply (history_before s who whole late h)) ∙ no_fault_of s who whole late h in
    (no_fault s who (record { request = request; reply = None }) (first (fault_at s who (record { request = request; reply = None })) none)).1
  where
    first : (o : Option HistoryKind) → option_or o (if is_fit request reply then None else Some kind.WrongReply) ≡ None → o ≡ None
    first o e = grind arith

-- sections whose last request of one section waits: what stands before it, with it
pub record IsWaiting (s : Sections) (who : Actor) (request : Request) (reply : Reply) : Type 0 where
  pub earlier : Sections
  pub is : s ≡ with_sent earlier who (record { request = request; reply = None })
  pub late : comes_late earlier who ≡ false
  pub with_reply : after_reply s who reply ≡ with_sent earlier who (record { request = request; reply = Some reply })

-- ---- whether a section waits

pub answered_push : (front : List Sent) (sent : Sent) → are_answered (front ++ sent ∷ []) ≡ true → is_some sent.reply ≡ true
answered_push front sent all =
    last (are_answered front) (is_some sent.reply) (sym (list_all-append (λ (x : Sent). is_some x.reply) front (sent ∷ [])) ∙ all)
  where
    last : (a b : Bool) → (a && (b && true)) ≡ true → b ≡ true
    last a b e = grind arith

unanswered : (front : List Sent) (sent : Sent) → sent.reply ≡ None → are_answered (front ++ sent ∷ []) ≡ false
unanswered front sent none = false_from_ne_true (are_answered (front ++ sent ∷ []))
    (λ all. let some = answered_push front sent all in let no : is_some sent.reply ≡ false = ap is_some none in cc)

-- where P waits, no branch has begun
pub not_late : (s : Sections) → is_history s ≡ true → are_answered s.p ≡ false → comes_late s actor.P ≡ false
not_late s h open_p =
    by (is_open_at_the_end s.p && is_open_at_the_end s.a && is_open_at_the_end s.b) (are_answered s.p) (has_no_branch s) open_p (rules_of s h).turn
  where
    by : (x p none : Bool) → p ≡ false → (x && (p || none)) ≡ true → not none ≡ false
    by x p none e f = grind arith

-- sections whose last request of one section has no reply, and where no request of it would be late
pub waits : (s : Sections) (who : Actor) (front : List Sent) (request : Request) (reply : Reply) → comes_late s who ≡ false
    → section_of s who ≡ front ++ record { request = request; reply = None } ∷ [] → IsWaiting s who request reply
waits s who front request reply late at = record {
  earlier = with_section s who front;
  is = sym (same_section s who) ∙ ap (with_section s who) at ∙ added_last s who front (record { request = request; reply = None });
  late = late_with s who front ∙ late;
  with_reply = ap (λ l. with_section s who (with_last_reply l reply)) at
      ∙ ap (with_section s who) (with_last_reply-push front (record { request = request; reply = None }) reply)
      ∙ added_last s who front (record { request = request; reply = Some reply });
}

-- no late reply is awaited
pub awaited_in_time : (s : Sections) (who : Actor) → is_history s ≡ true → are_answered (section_of s who) ≡ false → comes_late s who ≡ false
awaited_in_time s actor.P h some = not_late s h some
awaited_in_time s actor.A h some = refl
awaited_in_time s actor.B h some = refl

-- a reply that has no fault finds the section waiting
pub waits_for : (s : Sections) (who : Actor) (reply : Reply) → is_history s ≡ true → reply_fault (last_of (section_of s who)) reply ≡ None
    → (request : Request) × IsWaiting s who request reply × (is_fit request reply ≡ true)
waits_for s who reply h none =
    elim (ends (section_of s who)) [
      | inl e ↦ let wrong : Some kind.Order ≡ None = sym (ap (λ l. reply_fault (last_of l) reply) e) ∙ none in absurd cc
      | inr (front, sent, e) ↦
          let last = ap (λ l. reply_fault (last_of l) reply) e ∙ ap (λ o. reply_fault o reply) (last_of-push front sent) in
          let free = faultless sent.reply (is_fit sent.request reply) (sym last ∙ none) in
          let at : section_of s who ≡ front ++ record { request = sent.request; reply = None } ∷ [] =
          e ∙ ap (λ r. front ++ record { request = sent.request; reply = r } ∷ []) free.0 in
          (sent.request, waits s who front sent.request reply (awaited_in_time s who h (ap are_answered e ∙ unanswered front sent free.0)) at, free.1)
    ]
  where
    faultless : (o : Option Reply) (fits : Bool) → (if is_some o then Some kind.Order else (if fits then None else Some kind.WrongReply)) ≡ None
        → (o ≡ None) × (fits ≡ true)
    faultless o fits e = grind arith

-- a history stays one when a reply comes that has no fault
pub answered_history : (s : Sections) (who : Actor) (reply : Reply) → is_history s ≡ true → reply_fault (last_of (section_of s who)) reply ≡ None
    → is_history (after_reply s who reply) ≡ true
answered_history s who reply h none =
    let (request, w, fits) = waits_for s who reply h none in
    let whole : is_history (with_sent w.earlier who (record { request = request; reply = None })) ≡ true = sym (ap is_history w.is) ∙ h in
    let fault = fault_with_reply w.earlier who request reply w.late whole ∙ ap (λ b. if b then None else Some kind.WrongReply) fits in
    ap is_history w.with_reply ∙ (no_fault w.earlier who (record { request = request; reply = Some reply }) fault).1

-- a history with another list in the place of one section: the same list, or the list with the reply
pub kept : {X : Type 0} (result : Result X HistoryKind) (s : Sections) (who : Actor) (new : List Sent) (reply : Reply) (keys : ℕ)
    → (is_history s ≡ true) × (keys ≡ key_count s) → OnOk result (new ≡ with_last_reply (section_of s who) reply)
    → IfOk result (λ _. reply_fault (last_of (section_of s who)) reply ≡ None) → OnErr result (new ≡ section_of s who)
    → (is_history (with_section s who new) ≡ true) × (keys ≡ key_count (with_section s who new))
kept (Ok x) s who new reply keys (h, counted) ok none err =
    rw ok (answered_history s who reply h none, counted ∙ sym (key_count-after_reply s who reply))
kept (Err e) s who new reply keys (h, counted) ok none err = rw (err, same_section s who) (h, counted)
