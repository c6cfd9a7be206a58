-- What a client asks in a round.
use Rattle.std.specs.Prelude.{ℕ, ◌-◌, ◌==◌, ◌||◌, Option, Some, None, List, [], length, get_or, set, replicate, if◌then◌else◌}
use Rattle.rand_pcg.specs.Lcg.{Lcg}
use Rattle.mc_protocol.specs.{declared.reply.Reply.Reply, declared.request.Request.Request, declared.request.Verb.Verb}
use Rattle.mc_protocol.specs.declared.reply.Reply.TheVariants as reply
use Rattle.mc_protocol.specs.declared.request.Verb.TheVariants as verb
use Rattle.mc_settings.specs.declared.mix.Mix.{Mix}
use Rattle.mc_rounds.specs.{declared.plan.Plan.Plan, declared.wish.Wish.Wish, Draws.generator_of, Wishes.wish_in}

-- a client between two requests: how many it has left, what it draws next, of each key the last number that it heard, and the index
-- of the key that its last request read by a gets
pub record Asking : Type 0 where
  pub mix : Mix
  pub left : ℕ
  pub generator : Lcg
  pub heard : List (Option ℕ)
  pub asked : Option ℕ

-- before its first request of the round
abbrev pub start_of : Plan → ℕ → ℕ → Asking
start_of plan round client = record {
  mix = plan.mix;
  left = plan.requests;
  generator = generator_of plan.seed round client;
  heard = replicate plan.keys None;
  asked = None;
}

-- ---- what it asks

-- the last number that was heard of the key with this index
abbrev pub number_of : List (Option ℕ) → ℕ → Option ℕ
number_of heard index = get_or heard index None

-- the request of a wish with this verb: a cas has the last number that was heard of its key, and is a gets if none was
abbrev pub request_as : Verb → List ℕ → Option ℕ → Wish → Request
request_as verb.Cas key None wish = record { verb = verb.Gets; key = key; flags = 0; body = []; number = 0 }
request_as verb.Cas key (Some n) wish = record { verb = verb.Cas; key = key; flags = wish.flags; body = wish.body; number = n }
request_as v key heard wish = record { verb = v; key = key; flags = wish.flags; body = wish.body; number = wish.amount }

abbrev pub request_of : List ℕ → Option ℕ → Wish → Request
request_of key heard wish = request_as wish.verb key heard wish

-- the key that a request reads by a gets
abbrev pub asked_by : Verb → ℕ → Option ℕ
asked_by verb.Gets index = Some index
asked_by _ index = None

-- the request of a wish, and the client after it
abbrev pub asking_of : List (List ℕ) → Asking → Wish × Lcg → Option Request × Asking
asking_of keys c (wish, g) =
    let request = request_of (get_or keys wish.key []) (number_of c.heard wish.key) wish in
    (Some request, record c { left = c.left - 1; generator = g; asked = asked_by request.verb wish.key })

-- the next request, and the client after it; none after the last, or without keys
abbrev pub next_of : List (List ℕ) → Asking → Option Request × Asking
next_of keys c =
    if (c.left == 0) || (length keys == 0) then (None, c)
    else asking_of keys c (wish_in c.mix (length keys) c.generator)

-- ---- what it hears

-- the number that a reply shows
abbrev pub shown_by : Reply → Option ℕ
shown_by (reply.Hit flags body cas) = cas
shown_by _ = None

-- this number of the key with this index
abbrev pub hearing_of : Option ℕ → Option ℕ → Asking → Asking
hearing_of (Some index) (Some n) c = record c { heard = set c.heard index (Some n) }
hearing_of _ _ c = c

-- the client after a reply to its last request: of the key of a gets it keeps the number
abbrev pub hearing : Reply → Asking → Asking
hearing r c = hearing_of c.asked (shown_by r) c
