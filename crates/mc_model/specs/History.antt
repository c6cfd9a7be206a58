-- The rules of a history, each by itself.
use Rattle.std.specs.Prelude.{◌≡◌, ℕ, ◌==◌, nat_le, Bool, true, false, not, ◌&&◌, ◌||◌, Option, Some, None}
use Rattle.std.specs.Prelude.{is_some, List, [], ◌∷◌, ◌++◌, length, map, if◌then◌else◌, slice_get}
use Rattle.std.specs.List.{list_all, list_any, find}
use Rattle.std.specs.{Str.bytes_eq, Ordering.nat_cmp, Cmp.Lexicographic.slice_cmp}
use Rattle.std.specs.FinSet as set
use Rattle.mc_protocol.specs.{Legal.is_fit, Fields.fields_of, Names.is_key}
use Rattle.mc_model.specs.Types.{Fields, Verb, Request, Reply, Actor, REPLY_BODY_LIMIT, KEYS_LIMIT, REQUESTS_LIMIT, Sent, HistoryKind}
use Rattle.mc_model.specs.Sections.{Sections, section_of, with_sent, before}
use Rattle.mc_protocol.specs.declared.request.Fields.TheVariants as fields
use Rattle.mc_protocol.specs.declared.request.Verb.TheVariants as verb
use Rattle.mc_protocol.specs.declared.reply.Reply.TheVariants as replies
use Rattle.mc_protocol.specs.declared.actor.Actor.TheVariants as actor
use Rattle.mc_model.specs.declared.rules.HistoryKind.TheVariants as kind

-- every request of the sections passes the test
abbrev pub every : (Sent → Bool) → Sections → Bool
every test s = list_all test s.p && list_all test s.a && list_all test s.b

-- ---- Words: each request is one that words can spell

abbrev pub is_empty : List ℕ → Bool
is_empty bytes = length bytes == 0

-- a field that the verb lacks is 0 or empty
abbrev pub lacks_the_others : Fields → Request → Bool
lacks_the_others fields.KeyAlone r = (r.flags == 0) && is_empty r.body && (r.number == 0)
lacks_the_others fields.Expiry r = (r.flags == 0) && is_empty r.body && (r.number == 0)
lacks_the_others fields.Item r = r.number == 0
lacks_the_others fields.Swap r = true
lacks_the_others fields.Amount r = (r.flags == 0) && is_empty r.body

abbrev pub has_its_fields : Request → Bool
has_its_fields r = lacks_the_others (fields_of r.verb) r

abbrev pub has_words : Request → Bool
has_words r = is_key r.key && nat_le (length r.body) REPLY_BODY_LIMIT && has_its_fields r

abbrev pub all_have_words : Sections → Bool
all_have_words s = every (λ sent. has_words sent.request) s

-- ---- Limits: at most 24 requests in a section, and 8 keys in all

abbrev pub is_short : List Sent → Bool
is_short section = nat_le (length section) REQUESTS_LIMIT

abbrev pub has_few_requests : Sections → Bool
has_few_requests s = is_short s.p && is_short s.a && is_short s.b

abbrev pub keys_of : List Sent → List (List ℕ)
keys_of section = map (λ sent. sent.request.key) section

-- how many keys the requests have
abbrev pub key_count : Sections → ℕ
key_count s = set.len (set.from_list {R = slice_cmp nat_cmp} (keys_of (s.p ++ s.a ++ s.b)))

abbrev pub has_few_keys : Sections → Bool
has_few_keys s = nat_le (key_count s) KEYS_LIMIT

abbrev pub is_within_limits : Sections → Bool
is_within_limits s = has_few_requests s && has_few_keys s

-- ---- Order: only the last request of a section is unanswered, and no branch has a request where P has an unanswered one

abbrev pub are_answered : List Sent → Bool
are_answered section = list_all (λ sent. is_some sent.reply) section

-- every request but the last was answered
abbrev pub is_open_at_the_end : List Sent → Bool
is_open_at_the_end [] = true
is_open_at_the_end (sent ∷ []) = true
is_open_at_the_end (sent ∷ next ∷ others) = is_some sent.reply && is_open_at_the_end (next ∷ others)

abbrev pub is_none_sent : List Sent → Bool
is_none_sent [] = true
is_none_sent (_ ∷ _) = false

abbrev pub has_no_branch : Sections → Bool
has_no_branch s = is_none_sent s.a && is_none_sent s.b

abbrev pub is_in_turn : Sections → Bool
is_in_turn s =
    is_open_at_the_end s.p && is_open_at_the_end s.a && is_open_at_the_end s.b && (are_answered s.p || has_no_branch s)

-- ---- Cleared: each key's first request is a delete in P

abbrev pub is_delete : Verb → Bool
is_delete verb.Delete = true
is_delete _ = false

abbrev pub is_on : List ℕ → Sent → Bool
is_on key sent = bytes_eq sent.request.key key

abbrev pub has_key : List ℕ → List Sent → Bool
has_key key section = list_any (is_on key) section

abbrev pub is_a_delete : Option Sent → Bool
is_a_delete (Some sent) = is_delete sent.request.verb
is_a_delete None = false

-- P has a request on the key, and the first is a delete
abbrev pub clears : List Sent → List ℕ → Bool
clears p key = is_a_delete (find (is_on key) p)

abbrev pub is_cleared : Sections → Bool
is_cleared s = every (λ sent. clears s.p sent.request.key) s

-- ---- Numbers: each cas number was shown by an earlier answered gets of the same key, in P or in the request's own section

abbrev pub is_cas : Verb → Bool
is_cas verb.Cas = true
is_cas _ = false

abbrev pub is_gets : Verb → Bool
is_gets verb.Gets = true
is_gets _ = false

-- the reply is a hit with this cas number
abbrev pub shows_number : ℕ → Option Reply → Bool
shows_number number (Some (replies.Hit flags body (Some cas))) = cas == number
shows_number number _ = false

-- the request is a gets of the key that was answered with this number
abbrev pub shows : List ℕ → ℕ → Sent → Bool
shows key number sent = is_gets sent.request.verb && is_on key sent && shows_number number sent.reply

-- one of the earlier requests shows the number of a cas: other requests need none
abbrev pub is_seen : List Sent → Sent → Bool
is_seen earlier sent = not (is_cas sent.request.verb) || list_any (shows sent.request.key sent.request.number) earlier

-- the same of each request of a section, which sees those before it too
abbrev pub are_seen : List Sent → List Sent → Bool
are_seen earlier [] = true
are_seen earlier (sent ∷ others) = is_seen earlier sent && are_seen (earlier ++ sent ∷ []) others

-- P sees its own requests, and a branch P's and its own
abbrev pub numbers_are_seen : Sections → Bool
numbers_are_seen s = are_seen [] s.p && are_seen s.p s.a && are_seen s.p s.b

-- ---- Replies: each reply is one that its request may have

abbrev pub is_rightly : Request → Option Reply → Bool
is_rightly request (Some reply) = is_fit request reply
is_rightly request None = true

abbrev pub is_answered_rightly : Sent → Bool
is_answered_rightly sent = is_rightly sent.request sent.reply

abbrev pub are_answered_rightly : Sections → Bool
are_answered_rightly s = every is_answered_rightly s

-- ---- A history keeps all rules

unfoldable pub is_history : Sections → Bool
is_history s =
    all_have_words s && is_within_limits s && is_in_turn s && is_cleared s && numbers_are_seen s && are_answered_rightly s

-- ---- Faults

-- the request is one of P, and a branch has begun
abbrev pub comes_late : Sections → Actor → Bool
comes_late s actor.P = not (has_no_branch s)
comes_late s actor.A = false
comes_late s actor.B = false

-- the first rule that the sections break with one more request: in this order
abbrev pub first_broken : Bool → Sections → Option HistoryKind
first_broken late s =
    if not (all_have_words s) then Some kind.Line
    else (if not (is_within_limits s) then Some kind.TooMany
    else (if late || not (is_in_turn s) then Some kind.Order
    else (if not (is_cleared s) then Some kind.NotCleared
    else (if not (numbers_are_seen s) then Some kind.UnseenNumber
    else (if not (are_answered_rightly s) then Some kind.WrongReply
    else None)))))

-- what is wrong with a request that comes next
unfoldable pub fault_at : Sections → Actor → Sent → Option HistoryKind
fault_at s actor sent = first_broken (comes_late s actor) (with_sent s actor sent)

-- the sections before the request at this place are a history, and the request has this fault
pub record IsFirstFault (s : Sections) (kind : HistoryKind) (actor : Actor) (place : ℕ) : Type 0 where
  pub history : is_history (before s actor place) ≡ true
  pub sent : Sent
  pub request : slice_get (section_of s actor) place ≡ Some sent
  pub fault : fault_at (before s actor place) actor sent ≡ Some kind
