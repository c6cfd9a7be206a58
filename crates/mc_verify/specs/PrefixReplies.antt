-- Moves of a section, and what they add to the replies of a path. What private contracts cite.
use Rattle.std.specs.Prelude.{◌≡◌, ℕ, ◌<◌, Option, Some, None, List, [], ◌∷◌, ◌++◌, length}
use Rattle.mc_protocol.specs.{declared.actor.Actor.Actor, declared.reply.Class.Class}
use Rattle.mc_protocol.specs.declared.actor.Actor.TheVariants as actor
use Rattle.mc_code.specs.{Calls.LeadsIn, Code.Code, Code.instructions_in, Paths.Edge, Paths.IsComplete}
use Rattle.mc_verify.specs.Shown.{replies_along, front, IsBegun}
use Rattle.mc_sound.specs.Interleavings.{staged}

-- the section's reply of this class, if the move has one
abbrev pub replies_by : Actor → Option Class → List (Actor × Class)
replies_by actor None = []
replies_by actor (Some class) = (actor, class) ∷ []

-- these are the replies of a path of P to the place
abbrev pub AreInP : Code → ℕ → List (Actor × Class) → Type 0
AreInP c place replies = (edges : List Edge) × LeadsIn c actor.P edges place × (replies ≡ replies_along (staged actor.P edges))

-- P leads from the place on to a later one of its own, by a reply of this class if there is one
pub record LeadsOnInP (c : Code) (place : ℕ) (class : Option Class) (to : ℕ) : Type 0 where
  pub later : place < to
  pub inside : to < length (instructions_in c actor.P)
  pub leads : (replies : List (Actor × Class)) → AreInP c place replies → AreInP c to (replies ++ replies_by actor.P class)

-- these are the replies of some complete path of P
abbrev pub AreOfComplete : Code → List (Actor × Class) → Type 0
AreOfComplete c replies =
    (edges : List Edge) × IsComplete c.templates (instructions_in c actor.P) edges × (replies ≡ replies_along (staged actor.P edges))

-- these are the replies with which a path of the section begins: none of P, and for a branch those of a complete path of P
abbrev pub AreOfFront : Code → Actor → List (Actor × Class) → Type 0
AreOfFront c actor replies = (before : List Edge) × IsBegun c actor before × (replies ≡ replies_along (front actor before))
