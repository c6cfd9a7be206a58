-- What the sections of a history say of the operations of the same notes.
use Rattle.std.proofs.Common.{◌≡◌, ◌≤◌, ◌+◌, inl, inr, ℕ, Bool, true, false, cond, not, ◌&&◌, ◌||◌, eqb, Option, Some, None, is_some}
use Rattle.std.proofs.Common.{List, [], ◌∷◌, ◌++◌, map, filter, length, refl, ap, sym, ◌∙◌, arith, length-append, if◌then◌else◌}
use Rattle.std.proofs.lemmas.Bool.{and_parts}
use Rattle.std.specs.{List.list_any, Str.bytes_eq}
use Rattle.mc_protocol.specs.{declared.request.Request.Request, declared.reply.Reply.Reply, Legal.is_fit}
use Rattle.mc_model.specs.declared.sent.Sent.{Sent}
use Rattle.mc_model.specs.History as model
use Rattle.mc_timeline.specs.{Members.IsIn, Operations.Answer, Operations.Operation, Operations.on_key, Explanations.received}
use Rattle.mc_timeline.specs.Rules as rule

received_some : (answer : Option Answer) → is_some (received answer) ≡ is_some answer
received_some None = refl
received_some (Some answer) = refl

-- ---- who waits

-- the client's operations that wait are those of its own that do
pub waiting_is : (client : ℕ) (operations : List Operation)
    → rule.waiting_of client operations ≡ filter (λ x. not (is_some x.answer)) (filter (λ x. eqb x.client client) operations)
waiting_is client [] = refl
waiting_is client (x ∷ operations) = by (eqb x.client client) (not (is_some x.answer)) refl (waiting_is client operations)
  where
    by : (own waits : Bool) → not (is_some x.answer) ≡ waits
        → rule.waiting_of client operations ≡ filter (λ x. not (is_some x.answer)) (filter (λ x. eqb x.client client) operations)
        → cond (own && waits) (x ∷ rule.waiting_of client operations) (rule.waiting_of client operations)
        ≡ filter (λ x. not (is_some x.answer)) (cond own (x ∷ filter (λ x. eqb x.client client) operations) (filter (λ x. eqb x.client client) operations))
    by true true e rest = rw e (ap (λ l. x ∷ l) rest)
    by true false e rest = rw e rest
    by false waits e rest = rest

-- where each was answered none waits
pub none_waits : (operations : List Operation) → model.are_answered (map rule.sent_of operations) ≡ true
    → filter (λ x. not (is_some x.answer)) operations ≡ []
none_waits [] all = refl
none_waits (x ∷ operations) all =
    let parts = and_parts (is_some (received x.answer)) (model.are_answered (map rule.sent_of operations)) all in
    let some : is_some x.answer ≡ true = sym (received_some x.answer) ∙ parts.0 in
    rw (some, none_waits operations parts.1) refl

pub answered_in : (operations : List Operation) (x : Operation) → model.are_answered (map rule.sent_of operations) ≡ true → IsIn x operations
    → is_some x.answer ≡ true
answered_in [] x all h = absurd h
answered_in (y ∷ operations) x all (inl same) =
    let parts = and_parts (is_some (received y.answer)) (model.are_answered (map rule.sent_of operations)) all in
    ap (λ (z : Operation). is_some z.answer) same ∙ sym (received_some y.answer) ∙ parts.0
answered_in (y ∷ operations) x all (inr more) =
    let parts = and_parts (is_some (received y.answer)) (model.are_answered (map rule.sent_of operations)) all in
    answered_in operations x parts.1 more

-- the one that waits is the last, and the reply is one that it may have
pub reply_fits : (operations : List Operation) (front : List Sent) (request : Request) (reply : Reply)
    → model.is_open_at_the_end (map rule.sent_of operations) ≡ true
    → map rule.sent_of operations ≡ front ++ record { request = request; reply = None } ∷ [] → is_fit request reply ≡ true
    → rule.reply_fault (filter (λ x. not (is_some x.answer)) operations) reply ≡ None
reply_fits [] [] request reply opens is fits = absurd (cc)
reply_fits [] (y ∷ front) request reply opens is fits = absurd (cc)
reply_fits (x ∷ []) [] request reply opens is fits =
    let same : rule.sent_of x ≡ record { request = request; reply = None } = cc in
    let none : is_some x.answer ≡ false = sym (received_some x.answer) ∙ ap (λ (s : Sent). is_some s.reply) same in
    let own : is_fit x.request reply ≡ true = ap (λ (s : Sent). is_fit s.request reply) same ∙ fits in
    rw (none, own) refl
reply_fits (x ∷ []) (y ∷ []) request reply opens is fits = absurd (cc)
reply_fits (x ∷ []) (y ∷ z ∷ front) request reply opens is fits = absurd (cc)
reply_fits (x ∷ y ∷ operations) [] request reply opens is fits = absurd (cc)
reply_fits (x ∷ y ∷ operations) (z ∷ front) request reply opens is fits =
    let parts = and_parts (is_some (received x.answer)) (model.is_open_at_the_end (map rule.sent_of (y ∷ operations))) opens in
    let some : is_some x.answer ≡ true = sym (received_some x.answer) ∙ parts.0 in
    let rest : map rule.sent_of (y ∷ operations) ≡ front ++ record { request = request; reply = None } ∷ [] = cc in
    rw some (reply_fits (y ∷ operations) front request reply parts.1 rest fits)

-- ---- keys

-- what is on no operation's key is on none of some of them
pub no_key : (keeps : Operation → Bool) (key : List ℕ) (operations : List Operation) → on_key key operations ≡ []
    → model.has_key key (map rule.sent_of (filter keeps operations)) ≡ false
no_key keeps key [] none = refl
no_key keeps key (x ∷ operations) none = by (bytes_eq x.request.key key) refl none (no_key keeps key operations)
  where
    by : (b : Bool) → bytes_eq x.request.key key ≡ b → cond b (x ∷ on_key key operations) (on_key key operations) ≡ []
        → (on_key key operations ≡ [] → model.has_key key (map rule.sent_of (filter keeps operations)) ≡ false)
        → model.has_key key (map rule.sent_of (cond (keeps x) (x ∷ filter keeps operations) (filter keeps operations))) ≡ false
    by true e n rest = absurd (cc)
    by false e n rest = kept_or (keeps x) (rest n)
      where
        kept_or : (k : Bool) → model.has_key key (map rule.sent_of (filter keeps operations)) ≡ false
            → model.has_key key (map rule.sent_of (cond k (x ∷ filter keeps operations) (filter keeps operations))) ≡ false
        kept_or true rest = rw (e, rest) refl
        kept_or false rest = rest

-- how many keys there are
few_keys_after : (keys : List (List ℕ)) (operations : List Operation) → length (rule.keys_after keys operations) ≤ length keys + length operations
few_keys_after keys [] = omega arith
few_keys_after keys (x ∷ operations) =
    let one = one_key (list_any (bytes_eq x.request.key) keys) in
    let rest = few_keys_after (rule.with_key keys x.request.key) operations in
    omega arith
  where
    one_key : (b : Bool) → length (if b then keys else (keys ++ x.request.key ∷ [])) ≤ length keys + 1
    one_key true = omega arith
    one_key false = let l = length-append keys (x.request.key ∷ []) in omega arith

pub few_keys : (operations : List Operation) → length (rule.keys_of operations) ≤ length operations
few_keys operations = let l = few_keys_after [] operations in omega arith

-- ---- numbers

-- what some of the operations show, all show
pub seen_in_all : (keeps : Operation → Bool) (operations : List Operation) (sent : Sent)
    → model.is_seen (map rule.sent_of (filter keeps operations)) sent ≡ true → model.is_seen (map rule.sent_of operations) sent ≡ true
seen_in_all keeps operations sent seen =
    by (not (model.is_cas sent.request.verb)) (list_any (model.shows sent.request.key sent.request.number) (map rule.sent_of (filter keeps operations)))
    (list_any (model.shows sent.request.key sent.request.number) (map rule.sent_of operations)) seen (any_in_all operations)
  where
    shows : Sent → Bool
    shows = model.shows sent.request.key sent.request.number

    any_in_all : (xs : List Operation) → list_any shows (map rule.sent_of (filter keeps xs)) ≡ true → list_any shows (map rule.sent_of xs) ≡ true
    any_in_all [] e = e
    any_in_all (x ∷ xs) e = at (keeps x) (shows (rule.sent_of x)) refl e (any_in_all xs)
      where
        at : (k s : Bool) → shows (rule.sent_of x) ≡ s
            → list_any shows (map rule.sent_of (cond k (x ∷ filter keeps xs) (filter keeps xs))) ≡ true
            → (list_any shows (map rule.sent_of (filter keeps xs)) ≡ true → list_any shows (map rule.sent_of xs) ≡ true)
            → (s || list_any shows (map rule.sent_of xs)) ≡ true
        at k true is h rest = refl
        at true false is h rest = rest (rw is at h)
        at false false is h rest = rest h

    by : (free some all : Bool) → (free || some) ≡ true → (some ≡ true → all ≡ true) → (free || all) ≡ true
    by true some all e rest = refl
    by false some all e rest = rest e
