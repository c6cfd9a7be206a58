-- The rules of a timeline. Each is found note by note: a note breaks it or not, after the notes before.
use Rattle.std.specs.Prelude.{◌≡◌, ℕ, nat_le, Bool, true, false, not, ◌&&◌, ◌||◌, eqb, Option, Some, None, is_some}
use Rattle.std.specs.Prelude.{List, [], ◌∷◌, ◌++◌, length, map, filter, if◌then◌else◌, bytes_eq}
use Rattle.std.specs.List.{list_any}
use Rattle.mc_protocol.specs.{declared.request.Request.Request, declared.request.Verb.Verb, declared.reply.Reply.Reply, Legal.is_fit}
use Rattle.mc_protocol.specs.declared.request.Verb.TheVariants as verb
use Rattle.mc_model.specs.declared.{sent.Sent.Sent, rules.HistoryKind.HistoryKind}
use Rattle.mc_model.specs.History.{has_words, is_delete, is_seen}
use Rattle.mc_model.specs.declared.note.Note.TheVariants as note
use Rattle.mc_model.specs.declared.rules.HistoryKind.TheVariants as kind
use Rattle.mc_timeline.specs.declared.limits.TheConstants.{CLIENTS_LIMIT, OPERATIONS_LIMIT, TIMELINE_KEYS_LIMIT}
use Rattle.mc_timeline.specs.{Operations.Operation, Operations.on_key, Timelines.ClientNote, Timelines.operations_of, Explanations.received}

-- ---- TooMany

-- these keys and one more, if it isn't among them
abbrev pub with_key : List (List ℕ) → List ℕ → List (List ℕ)
with_key keys key = if list_any (bytes_eq key) keys then keys else keys ++ key ∷ []

abbrev pub keys_after : List (List ℕ) → List Operation → List (List ℕ)
keys_after keys [] = keys
keys_after keys (x ∷ operations) = keys_after (with_key keys x.request.key) operations

-- the keys, in the order in which they first appear
abbrev pub keys_of : List Operation → List (List ℕ)
keys_of operations = keys_after [] operations

abbrev pub is_unused : List Operation → Bool
is_unused [] = true
is_unused (x ∷ others) = false

-- the client's number is too large, there are as many requests as there may be, or as many keys, and this one is new
abbrev pub is_full : List Operation → ℕ → Request → Bool
is_full operations client request =
    nat_le CLIENTS_LIMIT client || nat_le OPERATIONS_LIMIT (length operations)
    || (nat_le TIMELINE_KEYS_LIMIT (length (keys_of operations)) && is_unused (on_key request.key operations))

-- ---- Order

-- the client's operation that waits for a reply: at most one
abbrev pub waiting_of : ℕ → List Operation → List Operation
waiting_of client operations = filter (λ x. eqb x.client client && not (is_some x.answer)) operations

-- ---- NotCleared

abbrev pub is_set : Verb → Bool
is_set verb.Set = true
is_set _ = false

-- a key's first request is a delete or a set, and each other one begins after the first was answered
abbrev pub may_follow : List Operation → Verb → Bool
may_follow [] verb = is_delete verb || is_set verb
may_follow (first ∷ others) verb = is_some first.answer

-- ---- UnseenNumber: the number of a cas was shown by an answered gets of the key

abbrev pub sent_of : Operation → Sent
sent_of x = record { request = x.request; reply = received x.answer }

abbrev pub is_number_seen : List Operation → Request → Bool
is_number_seen operations request = is_seen (map sent_of operations) (record { request = request; reply = None })

-- ---- Faults

-- the first rule that a request breaks: in this order
abbrev pub begin_fault : List Operation → ℕ → Request → Option HistoryKind
begin_fault operations client request =
    if not (has_words request) then Some kind.Line
    else (if is_full operations client request then Some kind.TooMany
    else (if not (is_unused (waiting_of client operations)) then Some kind.Order
    else (if not (may_follow (on_key request.key operations) request.verb) then Some kind.NotCleared
    else (if not (is_number_seen operations request) then Some kind.UnseenNumber
    else None))))

-- the first rule that a reply breaks, to a client with these waiting operations
abbrev pub reply_fault : List Operation → Reply → Option HistoryKind
reply_fault [] reply = Some kind.Order
reply_fault (x ∷ others) reply = if is_fit x.request reply then None else Some kind.WrongReply

-- what is wrong with the note that comes next
abbrev pub fault_of : List ClientNote → ClientNote → Option HistoryKind
fault_of notes (client, note.Begin request) = begin_fault (operations_of notes) client request
fault_of notes (client, note.Reply reply) = reply_fault (waiting_of client (operations_of notes)) reply

-- ---- Timelines

-- none of these notes breaks a rule, after the earlier ones
abbrev pub KeepRules : List ClientNote → List ClientNote → Type 0
KeepRules earlier [] = Unit {0}
KeepRules earlier (next ∷ notes) = (fault_of earlier next ≡ None) × KeepRules (earlier ++ next ∷ []) notes

abbrev pub IsTimeline : List ClientNote → Type 0
IsTimeline notes = KeepRules [] notes
