-- Interleavings of code: a path of P; or a complete path of P, and then a merge of a path of A and a path of B.
use Rattle.std.specs.Prelude.{◌≡◌, ℕ, List, ◌++◌, map}
use Rattle.mc_protocol.specs.{Merge.IsMerge, declared.actor.Actor.Actor}
use Rattle.mc_protocol.specs.declared.actor.Actor.TheVariants as actor
use Rattle.mc_script.specs.declared.step.Template.{Template}
use Rattle.mc_code.specs.{Calls.LeadsIn, Code.Code, Code.instructions_in, Paths.Edge, Paths.IsComplete}

-- an edge, with the section that goes along it
abbrev pub Stage : Type 0
Stage = Actor × Edge

abbrev pub staged : Actor → List Edge → List Stage
staged actor edges = map (λ edge. (actor, edge)) edges

-- what is sent along an interleaving
abbrev pub calls_along : List Stage → List Template
calls_along interleaving = map (λ (stage : Stage). stage.1.0) interleaving

-- it is a complete path of P, and then a merge of paths of A and of B to these places
pub record LeadsToBoth (c : Code) (place_a place_b : ℕ) (interleaving : List Stage) : Type 0 where
  pub before : List Edge
  pub a : List Edge
  pub b : List Edge
  pub merged : List Stage
  pub complete : IsComplete c.templates (instructions_in c actor.P) before
  pub path_a : LeadsIn c actor.A a place_a
  pub path_b : LeadsIn c actor.B b place_b
  pub merge : IsMerge (staged actor.A a) (staged actor.B b) merged
  pub interleaving_is : interleaving ≡ staged actor.P before ++ merged

-- the interleaving leads to this place of the section; the other branch may stand anywhere
abbrev pub LeadsTo : Code → Actor → ℕ → List Stage → Type 0
LeadsTo c actor.P place interleaving = (edges : List Edge) × LeadsIn c actor.P edges place × (interleaving ≡ staged actor.P edges)
LeadsTo c actor.A place interleaving = (other : ℕ) × LeadsToBoth c place other interleaving
LeadsTo c actor.B place interleaving = (other : ℕ) × LeadsToBoth c other place interleaving
