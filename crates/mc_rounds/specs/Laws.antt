-- What holds of the requests of all rounds.
use Rattle.std.specs.Prelude.{◌≡◌, ℕ, ◌<◌, ◌≤◌, true, Option, Some, List, [], ◌∷◌, length, get_or, map, IfSome}
use Rattle.std.specs.Option.{option_map}
use Rattle.mc_protocol.specs.{Names.is_key, declared.reply.Reply.Reply, declared.request.Request.Request, declared.request.Verb.Verb}
use Rattle.mc_protocol.specs.declared.request.Verb.TheVariants as verb
use Rattle.mc_model.specs.History.{has_words}
use Rattle.mc_rounds.specs.{declared.plan.Plan.Plan, Clients.Asking, Clients.start_of, Clients.number_of, Clients.next_of, Clients.hearing}

-- ---- each request

-- a request on the key with this index: a cas has the last number that the client heard of that key
pub record IsOnKey (keys : List (List ℕ)) (c : Asking) (r : Request) (index : ℕ) : Type 0 where
  pub below : index < length keys
  pub key : r.key ≡ get_or keys index []
  pub heard : r.verb ≡ verb.Cas → number_of c.heard index ≡ Some r.number

-- a request of the client: it is on one of the keys, its body is short, and words spell it
pub record IsAsked (keys : List (List ℕ)) (c : Asking) (r : Request) : Type 0 where
  pub on_key : (index : ℕ) × IsOnKey keys c r index
  pub short : length r.body ≤ 8
  pub spelled : is_key r.key ≡ true → has_words r ≡ true

-- whatever a client draws and heard, its next request is such a one
abbrev pub RequestsFit : Type 0
RequestsFit = (keys : List (List ℕ)) (c : Asking) → IfSome (next_of keys c).0 (IsAsked keys c)

-- ---- all requests of a client

-- what a client asks that hears these replies, one after each request
abbrev pub asked_with : List (List ℕ) → Asking → List Reply → List (Option Request)
asked_with keys c [] = []
asked_with keys c (reply ∷ replies) = let next = next_of keys c in next.0 ∷ asked_with keys (hearing reply next.1) replies

-- a cas as the gets that is sent in its place if no number was heard
abbrev pub as_gets_by : Verb → Request → Request
as_gets_by verb.Cas r = record { verb = verb.Gets; key = r.key; flags = 0; body = []; number = 0 }
as_gets_by _ r = r

abbrev pub as_gets : Request → Request
as_gets r = as_gets_by r.verb r

-- same seed, same requests, whatever the replies are: but for a cas, which has a number that was heard, or is a gets
abbrev pub SeedsTellRequests : Type 0
SeedsTellRequests = (keys : List (List ℕ)) (plan : Plan) (round client : ℕ) (replies others : List Reply)
    → length replies ≡ length others
    → map (option_map as_gets) (asked_with keys (start_of plan round client) replies)
    ≡ map (option_map as_gets) (asked_with keys (start_of plan round client) others)
