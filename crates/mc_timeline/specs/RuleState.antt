-- What a builder knows of the notes so far. No public contract cites these: they say of what is kept what the rules say of the
-- notes.
use Rattle.std.specs.Prelude.{◌≡◌, ◌==◌, ◌<◌, ◌+◌, ◌&&◌, ◌||◌, ◌⊎◌, ℕ, Bool, true, false, eqb, cond, Option, Some, None, is_some}
use Rattle.std.specs.Prelude.{List, [], ◌∷◌, length, slice_get, bytes_eq}
use Rattle.std.specs.{List.list_any, Map.lookup, Ordering.nat_cmp, BTreeSet.contains}
use Rattle.mc_protocol.specs.declared.{request.Request.Request, reply.Reply.Reply}
use Rattle.mc_model.specs.declared.note.Note.TheVariants as note
use Rattle.mc_protocol.specs.declared.reply.Reply.TheVariants as replies
use Rattle.mc_model.specs.History.{is_gets, shows_number}
use Rattle.mc_timeline.specs.{declared.limits.TheConstants.CLIENTS_LIMIT, declared.key_state.KeyState.KeyState, Members.IsIn}
use Rattle.mc_timeline.specs.{Operations.Operation, Operations.on_key, Timelines.ClientNote, Timelines.operations_of, Explanations.received}
use Rattle.mc_timeline.specs.{Rules.IsTimeline, Rules.keys_of, Rules.waiting_of}

-- the client of the operation, if it waits for the reply
abbrev pub opener_of : Operation → Option ℕ
opener_of x = cond (is_some x.answer) None (Some x.client)

-- the operation is a gets that was answered with this number
abbrev pub shows_it : ℕ → Operation → Bool
shows_it number x = is_gets x.request.verb && shows_number number (received x.answer)

-- this number is the one that was shown
abbrev pub is_shown : Option ℕ → ℕ → Bool
is_shown None number = false
is_shown (Some shown) number = shown == number

-- the number that a reply shows, if it shows one
abbrev pub shown_by : Reply → Option ℕ
shown_by (replies.Hit flags body cas) = cas
shown_by _ = None

-- the client that opens the key, after one of this client's requests on it was answered
abbrev pub opener_after : Option ℕ → ℕ → Option ℕ
opener_after None client = None
opener_after (Some opener) client = cond (eqb opener client) None (Some opener)

-- what is kept of a key is so of its operations; nothing is kept exactly if there are none
abbrev pub Knows : Option KeyState → List Operation → Type 0
Knows None [] = Unit {0}
Knows None (x ∷ others) = ⊥
Knows (Some state) [] = ⊥
Knows (Some state) (x ∷ others) =
    (state.opener ≡ opener_of x)
    × ((number : ℕ) → contains nat_cmp state.shown number ≡ list_any (shows_it number) (x ∷ others))

-- what is kept of a client is the place at which its one waiting operation began, or none if there is none
abbrev pub Waits : Option (Option ℕ) → List Operation → Type 0
Waits None operations = ⊥
Waits (Some None) [] = Unit {0}
Waits (Some None) (x ∷ others) = ⊥
Waits (Some (Some place)) [] = ⊥
Waits (Some (Some place)) (x ∷ []) = x.began ≡ place
Waits (Some (Some place)) (x ∷ y ∷ others) = ⊥

-- the request that the note begins, if it begins one
abbrev pub request_in : Option ClientNote → Option Request
request_in None = None
request_in (Some (client, note.Begin request)) = Some request
request_in (Some (client, note.Reply reply)) = None

-- the request that began at the place that is kept of a client
abbrev pub begun_at : List ClientNote → Option (Option ℕ) → Option Request
begun_at notes (Some (Some place)) = request_in (slice_get notes place)
begun_at notes _ = None

-- the request of the first of these operations
abbrev pub first_request : List Operation → Option Request
first_request [] = None
first_request (x ∷ others) = Some x.request

-- a place is kept
abbrev pub is_asked : Option (Option ℕ) → Bool
is_asked (Some (Some place)) = true
is_asked _ = false

-- the number was shown of the key of which this is kept
abbrev pub knows_number : Option KeyState → ℕ → Bool
knows_number None number = false
knows_number (Some state) number = contains nat_cmp state.shown number

-- a new key is kept, with this client as the one that opens it
pub record IsNew (key : List ℕ) (client : ℕ) (old new : List (List ℕ × KeyState)) : Type 0 where
  pub state : KeyState
  pub absent : lookup (bytes_eq key) old ≡ None
  pub opener : state.opener ≡ Some client
  pub shown : (number : ℕ) → contains nat_cmp state.shown number ≡ false
  pub put : (other : List ℕ) → lookup (bytes_eq other) new ≡ cond (bytes_eq key other) (Some state) (lookup (bytes_eq other) old)
  pub count : length new ≡ length old + 1

-- what is kept once a request of the client on the key began: as before, or the new key too
abbrev pub Opens : List ℕ → ℕ → List (List ℕ × KeyState) → List (List ℕ × KeyState) → Type 0
Opens key client old new = ((is_some (lookup (bytes_eq key) old) ≡ true) × (new ≡ old)) ⊎ IsNew key client old new

-- of the key another state is kept: one of its requests, of this client, was answered, and the reply showed this number, if any
pub record IsAnswered (key : List ℕ) (client : ℕ) (number : Option ℕ) (old : KeyState) (kept new : List (List ℕ × KeyState)) : Type 0 where
  pub state : KeyState
  pub opener : state.opener ≡ opener_after old.opener client
  pub shown : (other : ℕ) → contains nat_cmp state.shown other ≡ (is_shown number other || contains nat_cmp old.shown other)
  pub put : (other : List ℕ) → lookup (bytes_eq other) new ≡ cond (bytes_eq key other) (Some state) (lookup (bytes_eq other) kept)
  pub count : length new ≡ length kept

abbrev pub Answers : List ℕ → ℕ → Option ℕ → List (List ℕ × KeyState) → List (List ℕ × KeyState) → Type 0
Answers key client number kept new =
    (old : KeyState) → lookup (bytes_eq key) kept ≡ Some old → IsAnswered key client number old kept new

-- the notes are a timeline; this many requests began, each client waits for what is kept of it, and this is kept of each key
pub record Follows (notes : List ClientNote) (requests : ℕ) (waiting : List (Option ℕ)) (keys : List (List ℕ × KeyState)) : Type 0 where
  pub timeline : IsTimeline notes
  pub counted : requests ≡ length (operations_of notes)
  pub clients : (x : Operation) → IsIn x (operations_of notes) → x.client < CLIENTS_LIMIT
  pub slots : length waiting ≡ CLIENTS_LIMIT
  pub waits : (client : ℕ) → client < CLIENTS_LIMIT → Waits (slice_get waiting client) (waiting_of client (operations_of notes))
  pub knows : (key : List ℕ) → Knows (lookup (bytes_eq key) keys) (on_key key (operations_of notes))
  pub keyed : length keys ≡ length (keys_of (operations_of notes))
