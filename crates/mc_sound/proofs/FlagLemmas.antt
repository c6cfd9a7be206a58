-- What requests need of flags, and what is sent along interleavings.
use Rattle.std.proofs.Common.{◌≡◌, ℕ, List, [], ◌∷◌, ◌++◌, refl, ap, ◌∙◌}
use Rattle.std.proofs.lemmas.List.{map-append}
use Rattle.mc_protocol.specs.declared.actor.Actor.{Actor}
use Rattle.mc_protocol.specs.declared.actor.Actor.TheVariants as actor
use Rattle.mc_code.specs.{Calls.calls_of, Code.Code, Paths.Edge}
use Rattle.mc_sound.specs.Interleavings.{Stage, staged, calls_along, LeadsToBoth}

-- ---- the calls of an interleaving

pub staged_calls : (actor : Actor) (edges : List Edge) → calls_along (staged actor edges) ≡ calls_of edges
staged_calls actor [] = refl
staged_calls actor (edge ∷ edges) = ap (λ l. edge.0 ∷ l) (staged_calls actor edges)

-- P's, and then those of the branches
pub calls_in_turn : (c : Code) (p q : ℕ) (interleaving : List Stage) → (both : LeadsToBoth c p q interleaving)
    → calls_along interleaving ≡ calls_of both.before ++ calls_along both.merged
calls_in_turn c p q interleaving both =
    ap calls_along both.interleaving_is
    ∙ map-append (λ (stage : Stage). stage.1.0) (staged actor.P both.before) both.merged
    ∙ ap (λ l. l ++ calls_along both.merged) (staged_calls actor.P both.before)
