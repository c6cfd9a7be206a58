-- The calls that a section makes, and the paths that lead to them.
use Rattle.std.specs.Prelude.{◌≡◌, ℕ, true, Some, List, [], ◌∷◌, ◌++◌, map, slice_get, slice_index_or}
use Rattle.mc_protocol.specs.{declared.actor.Actor.Actor, declared.reply.Reply.Reply, Legal.is_fit_for}
use Rattle.mc_protocol.specs.declared.request.Verb.TheVariants as verb
use Rattle.mc_script.specs.declared.step.Argument.TheVariants as argument
use Rattle.mc_script.specs.declared.step.Template.{Template}
use Rattle.mc_code.specs.{declared.instr.Call.Call, Code.Code, Code.instructions_in, Paths.Edge, Paths.IsPath, Runs.Exchange}
use Rattle.mc_code.specs.{Standing.StandsAt, Standing.met_in, States.Tagged, States.State, States.call}
use Rattle.mc_code.specs.declared.instr.Instr.TheVariants as instr

-- begun with these variables, the section is about to make this call after these exchanges: the call's template is the one
-- with the index that the send names, since two templates may be equal
pub record IsCalling (c : Code) (actor : Actor) (variables : List Tagged) (exchanges : List Exchange) (made : Call) : Type 0 where
  pub p : ℕ
  pub st : State
  pub t : Template
  pub next : List ℕ
  pub stands : StandsAt c actor variables exchanges p st
  pub sends : slice_get (instructions_in c actor) p ≡ Some (instr.Send made.template next)
  pub meets : met_in c actor p st ≡ Some (call t made.number)

-- ---- calls with their replies

-- what a look-up gives where the code has no such template
abbrev pub no_template : Template
no_template = record {
  verb = verb.Get;
  key = 0;
  flags = 0;
  argument = argument.Nothing;
  body = [];
  require_set = 0;
  require_clear = 0;
  sets = 0;
  clears = 0;
}

-- the template that the call names
abbrev pub template_of : Code → Call → Template
template_of c made = slice_index_or c.templates made.template no_template

-- the exchange of a call with its reply
abbrev pub exchange_of : Code → Call × Reply → Exchange
exchange_of c (made, reply) = (template_of c made, reply)

-- after these exchanges the section makes these calls, one after the other, and each gets this reply, which it may have
abbrev pub MakesAll : Code → Actor → List Tagged → List Exchange → List (Call × Reply) → Type 0
MakesAll c actor variables before [] = Unit {0}
MakesAll c actor variables before ((made, reply) ∷ more) =
    IsCalling c actor variables before made × (is_fit_for (template_of c made).verb reply ≡ true)
    × MakesAll c actor variables (before ++ exchange_of c (made, reply) ∷ []) more

-- ---- paths to a send

-- at this place the section sends this template
abbrev pub SendsAt : Code → Actor → ℕ → Template → Type 0
SendsAt c actor place t =
    (n : ℕ) × (next : List ℕ) × (slice_get (instructions_in c actor) place ≡ Some (instr.Send n next)) × (slice_get c.templates n ≡ Some t)

-- these edges lead from the section's first place to this one
abbrev pub LeadsIn : Code → Actor → List Edge → ℕ → Type 0
LeadsIn c actor edges place = IsPath c.templates (instructions_in c actor) 0 edges place

-- what is sent along these edges
abbrev pub calls_of : List Edge → List Template
calls_of edges = map (λ (edge : Edge). edge.0) edges

-- these are the calls of a path to a send at this place, and the send's own
abbrev pub Opens : Code → Actor → ℕ → List Template → Type 0
Opens c actor place calls =
    (edges : List Edge) × (t : Template) × LeadsIn c actor edges place × SendsAt c actor place t × (calls ≡ calls_of edges ++ t ∷ [])
