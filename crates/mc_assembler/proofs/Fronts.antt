-- The steps that clear the keys: how many they are, and what stands after them.
use Rattle.std.proofs.Common.{◌≡◌, ℕ, ◌+◌, List, [], ◌∷◌, ◌++◌, length, refl, ap, ◌∙◌, arith, length-append}
use Rattle.std.proofs.lemmas.Grind.{flat_map-append}
use Rattle.mc_protocol.specs.{declared.actor.Actor.Actor, Lines.Word}
use Rattle.mc_protocol.specs.declared.actor.Actor.TheVariants as actor
use Rattle.mc_script.specs.{declared.step.Step.Step, Script.Script, Script.section_of}
use Rattle.mc_assembler.specs.ScriptRuns.{clearing_steps, front_of, all_steps}
use Rattle.mc_assembler.specs.{Layout.request_of, Layout.requests_of, Layout.size_of_all, Assembling.cleared_keys}

pub front-is : (s : Script) (actor : Actor) → front_of s actor ≡ clearing_steps 0 (cleared_keys s actor)
front-is s actor.P = refl
front-is s actor.A = refl
front-is s actor.B = refl

-- a section's steps are those of its front, and then its own
pub all-steps : (s : Script) (actor : Actor) → all_steps s actor ≡ clearing_steps 0 (cleared_keys s actor) ++ (section_of s actor).steps
all-steps s actor = ap (λ front. front ++ (section_of s actor).steps) (front-is s actor)

pub size-after : (key : ℕ) (keys : List Word) (steps : List Step) → size_of_all (clearing_steps key keys ++ steps) ≡ length keys + size_of_all steps
size-after key [] steps = omega arith
size-after key (_ ∷ keys) steps = omega (arith, size-after (key + 1) keys steps)

pub clearing-requests : (key : ℕ) (keys : List Word) → length (requests_of (clearing_steps key keys)) ≡ length keys
clearing-requests key [] = refl
clearing-requests key (_ ∷ keys) = omega (arith, clearing-requests (key + 1) keys)

pub clearing-length : (key : ℕ) (keys : List Word) → length (clearing_steps key keys) ≡ length keys
clearing-length key [] = refl
clearing-length key (_ ∷ keys) = omega (arith, clearing-length (key + 1) keys)

pub requests_after : (s : Script) (actor : Actor)
    → requests_of (all_steps s actor) ≡ requests_of (clearing_steps 0 (cleared_keys s actor)) ++ requests_of (section_of s actor).steps
requests_after s actor =
    ap requests_of (all-steps s actor)
    ∙ flat_map-append request_of (clearing_steps 0 (cleared_keys s actor)) (section_of s actor).steps

pub request_count_is : (s : Script) (actor : Actor)
    → length (requests_of (all_steps s actor)) ≡ length (cleared_keys s actor) + length (requests_of (section_of s actor).steps)
request_count_is s actor =
    ap length (requests_after s actor)
    ∙ length-append (requests_of (clearing_steps 0 (cleared_keys s actor))) (requests_of (section_of s actor).steps)
    ∙ ap (λ n. n + length (requests_of (section_of s actor).steps)) (clearing-requests 0 (cleared_keys s actor))

pub all_size : (s : Script) (actor : Actor) → size_of_all (all_steps s actor) ≡ length (cleared_keys s actor) + size_of_all (section_of s actor).steps
all_size s actor = ap size_of_all (all-steps s actor) ∙ size-after 0 (cleared_keys s actor) (section_of s actor).steps
