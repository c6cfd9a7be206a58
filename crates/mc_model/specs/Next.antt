-- What is tested of a request that comes next. No public contract cites these: they say of one request what the rules
-- of `History.antt` say of all.
use Rattle.std.specs.Prelude.{◌≡◌, ℕ, ◌+◌, nat_le, ◌-◌, Bool, true, not, ◌&&◌, ◌||◌, Option, Some}
use Rattle.std.specs.Prelude.{None, is_some, List, [], ◌∷◌, length, take, if◌then◌else◌, slice_get}
use Rattle.mc_model.specs.Types.{Actor, KEYS_LIMIT, REQUESTS_LIMIT, Sent, HistoryKind, Reply}
use Rattle.mc_model.specs.History.{is_history, fault_at, key_count, has_key, are_answered, is_none_sent, is_delete, is_seen}
use Rattle.mc_model.specs.{Sections.Sections, Sections.section_of, Sections.with_sent, Notes.Noted, Notes.is_same_section}
use Rattle.mc_protocol.specs.declared.actor.Actor.TheVariants as actor
use Rattle.mc_model.specs.declared.note.Note.TheVariants as note
use Rattle.mc_model.specs.declared.rules.HistoryKind.TheVariants as kind
use Rattle.mc_protocol.specs.Legal.{is_fit}

abbrev pub is_full : Sections → Actor → Sent → Bool
is_full s actor sent =
    nat_le REQUESTS_LIMIT (length (section_of s actor))
    || (nat_le KEYS_LIMIT (key_count s) && not (has_key sent.request.key s.p))

-- how many keys there are with the request: P has each key that a history has
abbrev pub keys_with : Sections → Sent → ℕ
keys_with s sent = if has_key sent.request.key s.p then key_count s else key_count s + 1

abbrev pub may_come : Sections → Actor → Bool
may_come s actor.P = is_none_sent s.a && is_none_sent s.b && are_answered s.p
may_come s actor.A = are_answered s.p && are_answered s.a
may_come s actor.B = are_answered s.p && are_answered s.b

abbrev pub clears : Sections → Actor → Sent → Bool
clears s who sent = has_key sent.request.key s.p || (is_same_section actor.P who && is_delete sent.request.verb)

-- P or the section shows the request's number
abbrev pub number_is_seen : Sections → Actor → Sent → Bool
number_is_seen s actor sent = is_seen s.p sent || is_seen (section_of s actor) sent

-- the sections with these requests in place of one section's
abbrev pub with_section : Sections → Actor → List Sent → Sections
with_section s actor.P requests = record s { p = requests }
with_section s actor.A requests = record s { a = requests }
with_section s actor.B requests = record s { b = requests }

-- of the requests that one section is to have, those before this place make a history, and the one there has this fault
pub record FailsAt (s : Sections) (actor : Actor) (requests : List Sent) (kind : HistoryKind) (place : ℕ) : Type 0 where
  pub history : is_history (with_section s actor (take place requests)) ≡ true
  pub sent : Sent
  pub request : slice_get requests place ≡ Some sent
  pub fault : fault_at (with_section s actor (take place requests)) actor sent ≡ Some kind

-- ---- What is tested of a reply that comes next

-- the section's last request
abbrev pub last_of : List Sent → Option Sent
last_of section = slice_get section (length section - 1)

-- what is wrong with a reply to the last request of a section
abbrev pub reply_fault : Option Sent → Reply → Option HistoryKind
reply_fault None reply = Some kind.Order
reply_fault (Some sent) reply =
    if is_some sent.reply then Some kind.Order else (if is_fit sent.request reply then None else Some kind.WrongReply)

-- the last request has this reply
abbrev pub with_last_reply : List Sent → Reply → List Sent
with_last_reply [] reply = []
with_last_reply (sent ∷ []) reply = record sent { reply = Some reply } ∷ []
with_last_reply (sent ∷ next ∷ others) reply = sent ∷ with_last_reply (next ∷ others) reply

-- the sections with this reply to the last request of one
abbrev pub after_reply : Sections → Actor → Reply → Sections
after_reply s actor reply = with_section s actor (with_last_reply (section_of s actor) reply)

-- ---- What is tested of a note that comes next

-- the sections after a note
abbrev pub after_note : Sections → Noted → Sections
after_note s (section, note.Begin request) = with_sent s section (record { request = request; reply = None })
after_note s (section, note.Reply reply) = after_reply s section reply

-- what is wrong with a note after these sections
abbrev pub note_fault : Sections → Noted → Option HistoryKind
note_fault s (section, note.Begin request) = fault_at s section (record { request = request; reply = None })
note_fault s (section, note.Reply reply) = reply_fault (last_of (section_of s section)) reply
