-- The steps of a section among all of its steps, by the places of their code.
use Rattle.std.proofs.Common.{◌≡◌, inl, inr, ℕ, zero, suc, ◌+◌, ◌-◌, ◌<◌, ◌≤◌, Option, Some, None, List, [], ◌∷◌, ◌++◌, length, get_or, slice_get}
use Rattle.std.proofs.Common.{sym, ap, ◌∙◌, arith, length-append}
use Rattle.std.specs.Option.{MatchOption}
use Rattle.mc_protocol.specs.declared.actor.Actor.{Actor}
use Rattle.mc_script.specs.{Script.Script, Script.section_of, declared.step.Step.Step}
use Rattle.mc_assembler.specs.Layout.{size_of, size_of_all, code_place, IsWithin, IsOfStep, IsOfNoStep}
use Rattle.mc_assembler.specs.{ScriptRuns.clearing_steps, ScriptRuns.front_of, ScriptRuns.all_steps, Assembling.cleared_keys}
use Rattle.mc_assembler.proofs.{Fronts.front-is, Fronts.all-steps, Fronts.clearing-length, Fronts.all_size, Laid.place-after, StepCode.next_place}

front-length : (s : Script) (actor : Actor) → length (front_of s actor) ≡ length (cleared_keys s actor)
front-length s actor = ap length (front-is s actor) ∙ clearing-length 0 (cleared_keys s actor)

-- where the code of a step of the script begins
own-place : (s : Script) (actor : Actor) (p : ℕ)
    → code_place (all_steps s actor) (length (front_of s actor) + p) ≡ length (cleared_keys s actor) + code_place (section_of s actor).steps p
own-place s actor p =
    ap (λ steps. code_place steps (length (front_of s actor) + p)) (all-steps s actor)
    ∙ ap (λ n. code_place (clearing_steps 0 (cleared_keys s actor) ++ (section_of s actor).steps) (n + p)) (front-length s actor)
    ∙ place-after 0 (cleared_keys s actor) (section_of s actor).steps p

all-length : (s : Script) (actor : Actor) → length (all_steps s actor) ≡ length (front_of s actor) + length (section_of s actor).steps
all-length s actor = length-append (front_of s actor) (section_of s actor).steps

within : (s : Script) (actor : Actor) (index place : ℕ) → length (cleared_keys s actor) ≤ place
    → IsWithin (section_of s actor).steps index (place - length (cleared_keys s actor)) → IsOfStep s actor index place
within s actor index place after (below, begun, ends) =
    let n = all-length s actor in
    let here = own-place s actor index in
    let onward : length (front_of s actor) + index + 1 ≡ length (front_of s actor) + (index + 1) = omega arith in
    let next = ap (code_place (all_steps s actor)) onward ∙ own-place s actor (index + 1) in
    (omega (arith, n, below), omega (arith, here, begun, after), omega (arith, next, ends, after))

pub before : (s : Script) (actor : Actor) (place : ℕ) → place < length (cleared_keys s actor) → IsOfNoStep s actor place
before s actor place earlier =
    let first : length (front_of s actor) ≡ length (front_of s actor) + 0 = omega arith in
    let here = ap (code_place (all_steps s actor)) first ∙ own-place s actor 0 in
    inl (omega (arith, here, earlier))

beyond : (s : Script) (actor : Actor) (place : ℕ) → length (cleared_keys s actor) ≤ place
    → size_of_all (section_of s actor).steps ≤ place - length (cleared_keys s actor) → IsOfNoStep s actor place
beyond s actor place after ended =
    let size = all_size s actor in
    inr (omega (arith, size, ended, after))

-- what is found among a section's own steps is found among all
pub found_after : (s : Script) (actor : Actor) (place : ℕ) (found : Option ℕ) → length (cleared_keys s actor) ≤ place
    → MatchOption found (size_of_all (section_of s actor).steps ≤ place - length (cleared_keys s actor))
    (λ index. IsWithin (section_of s actor).steps index (place - length (cleared_keys s actor)))
    → MatchOption found (IsOfNoStep s actor place) (λ index. IsOfStep s actor index place)
found_after s actor place None after h = beyond s actor place after h
found_after s actor place (Some index) after h = within s actor index place after h

step-at : (steps : List Step) (index : ℕ) (s : Step) → index < length steps → s ≡ get_or steps index s → slice_get steps index ≡ Some s
step-at [] index s below is = absurd (omega arith)
step-at (_ ∷ steps) zero s below is = ap Some (sym is)
step-at (_ ∷ steps) (suc index) s below is = step-at steps index s (omega arith) is

-- where the code of a step ends
pub place_ends : (steps : List Step) (index : ℕ) (s : Step) → index < length steps → s ≡ get_or steps index s
    → code_place steps (index + 1) ≡ code_place steps index + size_of s
place_ends steps index s below is = next_place steps index s (step-at steps index s below is)
