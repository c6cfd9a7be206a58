-- The replies along interleavings, and what one more move adds to them.
use Rattle.std.proofs.Common.{◌≡◌, List, [], ◌∷◌, ◌++◌, ap, sym, ◌∙◌}
use Rattle.std.proofs.lemmas.List.{append_assoc, map-append}
use Rattle.mc_protocol.specs.{declared.actor.Actor.Actor, declared.reply.Class.Class}
use Rattle.mc_script.specs.declared.step.Template.{Template}
use Rattle.mc_code.specs.Paths.{Edge}
use Rattle.mc_verify.specs.Shown.{replies_along}
use Rattle.mc_sound.specs.Interleavings.{Stage, staged}

-- one more edge of the section
pub staged_one_more : (actor : Actor) (edges : List Edge) (t : Template) (class : Class)
    → staged actor (edges ++ (t, class) ∷ []) ≡ staged actor edges ++ (actor, (t, class)) ∷ []
staged_one_more actor edges t class = map-append (λ (edge : Edge). (actor, edge)) edges ((t, class) ∷ [])

-- its reply
pub replies_one_more : (interleaving : List Stage) (actor : Actor) (t : Template) (class : Class)
    → replies_along (interleaving ++ (actor, (t, class)) ∷ []) ≡ replies_along interleaving ++ (actor, class) ∷ []
replies_one_more interleaving actor t class = map-append (λ (stage : Stage). (stage.0, stage.1.1)) interleaving ((actor, (t, class)) ∷ [])

-- an interleaving whose last stages are the section's, with one more edge
pub front_one_more : (front : List Stage) (actor : Actor) (edges : List Edge) (t : Template) (class : Class)
    → replies_along (front ++ staged actor (edges ++ (t, class) ∷ [])) ≡ replies_along (front ++ staged actor edges) ++ (actor, class) ∷ []
front_one_more front actor edges t class =
    ap (λ l. replies_along (front ++ l)) (staged_one_more actor edges t class)
    ∙ ap replies_along (sym (append_assoc front (staged actor edges) ((actor, (t, class)) ∷ [])))
    ∙ replies_one_more (front ++ staged actor edges) actor t class
