-- There is room for a section's templates and instructions where the counts are within their limits.
use Rattle.std.proofs.Common.{◌≡◌, ℕ, ◌+◌, ◌<◌, ◌≤◌, List, [], ◌++◌, length, refl, ap, ◌∙◌, arith, length-append}
use Rattle.mc_protocol.specs.{declared.actor.Actor.Actor, Lines.Word}
use Rattle.mc_protocol.specs.declared.actor.Actor.TheVariants as actor
use Rattle.mc_script.specs.declared.section.Budget.{Budget}
use Rattle.mc_script.specs.{declared.section.Label.Label, declared.step.Step.Step, Script.Script, Script.section_of, WellFormed.IsScript}
use Rattle.mc_code.specs.declared.limits.TheConstants.{TEMPLATES_LIMIT, INSTRUCTIONS_LIMIT}
use Rattle.mc_assembler.specs.Layout.{requests_of, size_of_all, template_count, instruction_count, first_template, instructions_of, section_code}
use Rattle.mc_assembler.specs.Assembling.{cleared_keys, Places, places_of, instructions_from, clearing_code}
use Rattle.mc_code.specs.{declared.instr.Instr.Instr}
use Rattle.mc_assembler.specs.ScriptRuns.{all_steps}
use Rattle.mc_code.specs.Code as code
use Rattle.mc_assembler.proofs.{Fronts.all_size, Fronts.request_count_is, Laid.section-laid}

pub places-room : (s : Script) (actor : Actor) (keys : List Word) (steps : List Step) → keys ≡ cleared_keys s actor → steps ≡ (section_of s actor).steps
    → instruction_count s actor ≤ INSTRUCTIONS_LIMIT → length keys + size_of_all steps < INSTRUCTIONS_LIMIT
places-room s actor keys steps k e h =
    rw (k, e) (omega (arith, all_size s actor, h))

pub template-sum : (s : Script) → template_count s
    ≡ length (requests_of (all_steps s actor.P)) + length (requests_of (all_steps s actor.A)) + length (requests_of (all_steps s actor.B))
template-sum s =
    length-append (requests_of (all_steps s actor.P) ++ requests_of (all_steps s actor.A)) (requests_of (all_steps s actor.B))
    ∙ ap (λ n. n + length (requests_of (all_steps s actor.B))) (length-append (requests_of (all_steps s actor.P)) (requests_of (all_steps s actor.A)))

pub section-within : (s : Script) (actor : Actor) → first_template s actor + length (requests_of (all_steps s actor)) ≤ template_count s
section-within s actor.P = omega (arith, template-sum s)
section-within s actor.A = omega (arith, template-sum s)
section-within s actor.B = omega (arith, template-sum s)

pub templates-room : (s : Script) (actor : Actor) (keys : List Word) (steps : List Step) (first : ℕ) → keys ≡ cleared_keys s actor
    → steps ≡ (section_of s actor).steps → first ≡ first_template s actor → template_count s ≤ TEMPLATES_LIMIT
    → first + length keys + length (requests_of steps) ≤ TEMPLATES_LIMIT
templates-room s actor keys steps first k e f h =
    rw (k, e, f) (omega (arith, request_count_is s actor, section-within s actor, h))

section-of-parts : (s : Script) (actor : Actor) (budget : Budget) (out : List Instr) → budget ≡ (section_of s actor).budget
    → out ≡ instructions_of s actor
    → let made : code.Section = record { budget = budget; instructions = out } in made ≡ section_code s actor
section-of-parts s actor budget out b i = rw (b, i) refl

-- what the parts of a section's code were made of
pub section-made : (s : Script) (actor : Actor) → IsScript s → (keys : List Word) (steps : List Step) (labels : List Label) (first : ℕ)
    (places : Places) (start front out : List Instr) (budget : Budget)
    → keys ≡ cleared_keys s actor → steps ≡ (section_of s actor).steps → labels ≡ (section_of s actor).labels → first ≡ first_template s actor
    → places ≡ places_of (length keys) steps labels → start ≡ [] → front ≡ start ++ clearing_code places.labels 0 keys
    → out ≡ front ++ instructions_from places (first + length keys) 0 steps → budget ≡ (section_of s actor).budget
    → let made : code.Section = record { budget = budget; instructions = out } in made ≡ section_code s actor
section-made s actor h keys steps labels first places start front out budget k e l f p none fr o b =
    section-of-parts s actor budget out b
    (rw (o, fr, none, p, k, e, l, f) (section-laid s actor h (first_template s actor + length (cleared_keys s actor)) refl))
