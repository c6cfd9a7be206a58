-- Laws of paths and runs, whatever the code is.
use Rattle.std.specs.Prelude.{◌≡◌, ◌↔◌, ℕ, Bool, true, false, List, ◌++◌, map}
use Rattle.mc_protocol.specs.{Legal.class_of, declared.actor.Actor.Actor}
use Rattle.mc_script.specs.declared.step.Template.{Template}
use Rattle.mc_code.specs.States.{Tagged, State, Outcome, nothing_to_bind, ended}
use Rattle.mc_code.specs.{declared.instr.Instr.Instr, Code.Code, Code.instructions_in, Paths.Edge}
use Rattle.mc_code.specs.{Paths.IsPath, Paths.IsComplete, Runs.Exchange, Runs.IsRun, Standing.ComesTo}

-- the edge along which an exchange goes
abbrev pub edge_of : Exchange → Edge
edge_of (template, reply) = (template, class_of reply)

-- the edges of these exchanges
abbrev pub edges_of : List Exchange → List Edge
edges_of exchanges = map edge_of exchanges

-- a path of two parts goes by a place in between
abbrev pub PathsSplit : Type 0
PathsSplit = (templates : List Template) (section : List Instr) (xs ys : List Edge) (p r : ℕ)
    → IsPath templates section p (xs ++ ys) r ↔ ((q : ℕ) × IsPath templates section p xs q × IsPath templates section q ys r)

-- the edges of a run are a path
abbrev pub RunsArePaths : Type 0
RunsArePaths = (templates : List Template) (section : List Instr) (p q : ℕ) (st st' : State) (exchanges : List Exchange)
    → IsRun templates section p st exchanges q st' → IsPath templates section p (edges_of exchanges) q

-- each path is the edges of a run, whatever is known at its start
abbrev pub PathsAreRuns : Type 0
PathsAreRuns = (templates : List Template) (section : List Instr) (p q : ℕ) (edges : List Edge) (st : State)
    → IsPath templates section p edges q
    → (exchanges : List Exchange) × (st' : State) × IsRun templates section p st exchanges q st' × (edges_of exchanges ≡ edges)

-- the edges of a section that is done are a complete path
abbrev pub EndsAreComplete : Type 0
EndsAreComplete = (c : Code) (actor : Actor) (variables : List Tagged) (exchanges : List Exchange) (st : State)
    → ComesTo c actor variables exchanges st ended → IsComplete c.templates (instructions_in c actor) (edges_of exchanges)

-- each complete path is that of a section that is done, whatever its variables were at its start
abbrev pub CompletePathsEnd : Type 0
CompletePathsEnd = (c : Code) (actor : Actor) (variables : List Tagged) (edges : List Edge)
    → IsComplete c.templates (instructions_in c actor) edges
    → (exchanges : List Exchange) × (st : State) × ComesTo c actor variables exchanges st ended × (edges_of exchanges ≡ edges)

-- the section goes no further without a reply: it goes on past a bind that was shown no number
abbrev pub stops : Outcome → Bool
stops (nothing_to_bind variable) = false
stops _ = true

-- after the same exchanges a section stops at one outcome, in one state
abbrev pub StopsOnce : Type 0
StopsOnce = (c : Code) (actor : Actor) (variables : List Tagged) (exchanges : List Exchange) (st st' : State) (outcome outcome' : Outcome)
    → ComesTo c actor variables exchanges st outcome → ComesTo c actor variables exchanges st' outcome' → stops outcome ≡ true
    → stops outcome' ≡ true
    → (st ≡ st') × (outcome ≡ outcome')
