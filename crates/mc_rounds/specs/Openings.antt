-- The requests that begin a round: the first client sends them alone.
use Rattle.std.specs.Prelude.{ℕ, ◌==◌, List, [], ◌∷◌, ◌++◌, map, decimal, if◌then◌else◌}
use Rattle.rand_pcg.specs.Lcg.{Lcg}
use Rattle.mc_protocol.specs.declared.request.Request.{Request}
use Rattle.mc_protocol.specs.declared.request.Verb.TheVariants as verb
use Rattle.mc_rounds.specs.{declared.plan.Plan.Plan, Draws.draw, Draws.rest, Draws.generator_of}

abbrev pub delete_of : List ℕ → Request
delete_of key = record { verb = verb.Delete; key = key; flags = 0; body = []; number = 0 }

-- it stores the decimal of a number
abbrev pub set_of : List ℕ → ℕ → Request
set_of key n = record { verb = verb.Set; key = key; flags = 0; body = decimal n; number = 0 }

-- a set of each key to a number below 100, drawn key by key
abbrev pub sets_in : Lcg → List (List ℕ) → List Request
sets_in g [] = []
sets_in g (key ∷ keys) = set_of key (draw 100 g) ∷ sets_in (rest g) keys

-- a delete of each key; then, by lot, a set of each. They have the generator of client 64, which no round has.
abbrev pub openings_in : Lcg → List (List ℕ) → List Request
openings_in g keys = map delete_of keys ++ (if draw 2 g == 0 then sets_in (rest g) keys else [])

-- the requests that begin a round of a plan
abbrev pub openings_of : Plan → ℕ → List (List ℕ) → List Request
openings_of plan round keys = openings_in (generator_of plan.seed round 64) keys
