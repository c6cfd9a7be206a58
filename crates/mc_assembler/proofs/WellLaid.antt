-- The steps of a script are laid out with their labels and templates there.
use Rattle.std.proofs.Common.{◌≡◌, ℕ, ◌+◌, ◌==◌, zero, suc, Bool, true, false, ◌||◌, Option, Some, None, List, [], ◌∷◌, ◌++◌}
use Rattle.std.proofs.Common.{map, option_map, length, slice_get, refl, ap, sym, subst, ◌∙◌, if◌then◌else◌, arith}
use Rattle.std.proofs.{lemmas.List.length-append, lemmas.Option.slice_get-map}
use Rattle.mc_protocol.specs.{declared.actor.Actor.Actor, declared.request.Verb.Verb, declared.reply.Class.Class, Lines.Word, Words.class_index}
use Rattle.mc_protocol.specs.declared.actor.Actor.TheVariants as actor
use Rattle.mc_protocol.specs.declared.reply.Class.TheVariants as class
use Rattle.mc_script.specs.WellFormed.{AreJumps, is_number_class, jumps_on_number, MayBind, IsStep, AreSteps, IsScript}
use Rattle.mc_script.specs.{declared.section.Label.Label, declared.step.Step.Step, declared.step.Template.Template, Script.Names, Script.Script}
use Rattle.mc_script.specs.declared.step.Step.TheVariants as step
use Rattle.mc_assembler.specs.Layout.{requests_of, templates_of, first_template}
use Rattle.mc_assembler.specs.ScriptRuns.{clearing_steps, front_of, all_steps, shift_label, all_labels, jump_on}
use Rattle.mc_code.proofs.LookUps.{some_is}
use Rattle.mc_assembler.proofs.StepCode.{get_in_front, get_after, requests_before, template_found}
use Rattle.mc_assembler.proofs.StepFacts.{HasLabel, Binds, IsFine, IsLaid}

-- ---- lists of steps

abbrev AreFine : List Label → List Step → Type 0
AreFine labels [] = Unit {0}
AreFine labels (s ∷ steps) = IsFine labels s × AreFine labels steps

fine_at : (labels : List Label) (steps : List Step) → AreFine labels steps → (p : ℕ) (s : Step) → slice_get steps p ≡ Some s → IsFine labels s
fine_at labels [] fine p s at = absurd (cc)
fine_at labels (s ∷ steps) fine zero u at = subst (IsFine labels) (some_is s u at) fine.0
fine_at labels (s ∷ steps) fine (suc p) u at = fine_at labels steps fine.1 p u at

fine_after : (labels : List Label) (front steps : List Step) → AreFine labels front → AreFine labels steps → AreFine labels (front ++ steps)
fine_after labels [] steps front fine = fine
fine_after labels (s ∷ rest) steps front fine = (front.0, fine_after labels rest steps front.1 fine)

clearing_fine : (labels : List Label) (key : ℕ) (keys : List Word) → AreFine labels (clearing_steps key keys)
clearing_fine labels key [] = tt
clearing_fine labels key (_ ∷ keys) = ((λ c index e. absurd (cc), tt), clearing_fine labels (key + 1) keys)

front_fine : (labels : List Label) (s : Script) (actor : Actor) → AreFine labels (front_of s actor)
front_fine labels s actor.P = clearing_fine labels 0 s.names.keys
front_fine labels s actor.A = tt
front_fine labels s actor.B = tt

-- ---- jumps

jump_label : (v : Verb) (labels : List Label) (place least : ℕ) (jumps : List (Class × ℕ)) → AreJumps v labels place least jumps
    → (c : Class) (index : ℕ) → jump_on c jumps ≡ Some index → HasLabel labels index
jump_label v labels place least [] are c index on = absurd (cc)
jump_label v labels place least (jump ∷ jumps) are c index on =
    by_class (class_index c == class_index jump.0) on (jump_label v labels place (class_index jump.0 + 1) jumps are.3 c index)
  where
    by_class : (b : Bool) → (if b then Some jump.1 else jump_on c jumps) ≡ Some index → (jump_on c jumps ≡ Some index → HasLabel labels index)
        → HasLabel labels index
    by_class true on others = subst (HasLabel labels) (some_is jump.1 index on) (are.2.0, are.2.1)
    by_class false on others = others on

other_class : (c d : Class) → is_number_class c ≡ true → is_number_class d ≡ false → (class_index c == class_index d) ≡ false
other_class class.Hit class.Stored e f = refl
other_class class.Hit class.NotStored e f = refl
other_class class.Hit class.Exists e f = refl
other_class class.Hit class.NotFound e f = refl
other_class class.Hit class.Hit e f = absurd (cc)
other_class class.Hit class.Miss e f = refl
other_class class.Hit class.Deleted e f = refl
other_class class.Hit class.Touched e f = refl
other_class class.Hit class.Number e f = absurd (cc)
other_class class.Hit class.NotNumber e f = refl
other_class class.Number class.Stored e f = refl
other_class class.Number class.NotStored e f = refl
other_class class.Number class.Exists e f = refl
other_class class.Number class.NotFound e f = refl
other_class class.Number class.Hit e f = absurd (cc)
other_class class.Number class.Miss e f = refl
other_class class.Number class.Deleted e f = refl
other_class class.Number class.Touched e f = refl
other_class class.Number class.Number e f = absurd (cc)
other_class class.Number class.NotNumber e f = refl
other_class class.Stored d e f = absurd (cc)
other_class class.NotStored d e f = absurd (cc)
other_class class.Exists d e f = absurd (cc)
other_class class.NotFound d e f = absurd (cc)
other_class class.Miss d e f = absurd (cc)
other_class class.Deleted d e f = absurd (cc)
other_class class.Touched d e f = absurd (cc)
other_class class.NotNumber d e f = absurd (cc)

neither : (a b : Bool) → (a || b) ≡ false → (a ≡ false) × (b ≡ false)
neither true b e = absurd (cc)
neither false b e = (refl, e)

no_jump : (jumps : List (Class × ℕ)) → jumps_on_number jumps ≡ false → (c : Class) → is_number_class c ≡ true → jump_on c jumps ≡ None
no_jump [] none c number = refl
no_jump (jump ∷ jumps) none c number =
    let both = neither (is_number_class jump.0) (jumps_on_number jumps) none in
    ap (λ b. if b then Some jump.1 else jump_on c jumps) (other_class c jump.0 number both.0) ∙ no_jump jumps both.1 c number

-- ---- steps

label_moved : (labels : List Label) (count index : ℕ) → HasLabel labels index → HasLabel (map (shift_label count) labels) index
label_moved labels count index has =
    (shift_label count has.0, slice_get-map (shift_label count) labels index ∙ ap (option_map (shift_label count)) has.1)

binds_fine : (names : Names) (v : Verb) (jumps : List (Class × ℕ)) (bind : Option ℕ) → MayBind names v jumps bind → Binds v jumps bind
binds_fine names v jumps None may = tt
binds_fine names v jumps (Some variable) may = (may.1, no_jump jumps may.2)

step_fine : (names : Names) (labels : List Label) (count place : ℕ) (s : Step) → IsStep names labels place s → IsFine (map (shift_label count) labels) s
step_fine names labels count place (step.Send t jumps bind) is =
    (λ c index on. label_moved labels count index (jump_label t.verb labels place 0 jumps is.1 c index on), binds_fine names t.verb jumps bind is.2)
step_fine names labels count place (step.Bind variable) is = tt
step_fine names labels count place (step.Goto label) is = label_moved labels count label (is.0, is.1)
step_fine names labels count place step.Halt is = tt

steps_fine : (names : Names) (labels : List Label) (count place : ℕ) (steps : List Step) → AreSteps names labels place steps
    → AreFine (map (shift_label count) labels) steps
steps_fine names labels count place [] are = tt
steps_fine names labels count place (s ∷ steps) are =
    (step_fine names labels count place s are.0, steps_fine names labels count (place + 1) steps are.1)

-- ---- the whole script

section_fine : (s : Script) → IsScript s → (k : Actor) → AreFine (all_labels s k) (all_steps s k)
section_fine s is actor.P =
    fine_after (all_labels s actor.P) (front_of s actor.P) s.sections.p.steps (front_fine (all_labels s actor.P) s actor.P)
    (steps_fine s.names s.sections.p.labels (length (front_of s actor.P)) 0 s.sections.p.steps is.p.steps)
section_fine s is actor.A = steps_fine s.names s.sections.a.labels 0 0 s.sections.a.steps is.a.steps
section_fine s is actor.B = steps_fine s.names s.sections.b.labels 0 0 s.sections.b.steps is.b.steps

named_at : (s : Script) (k : Actor) (n : ℕ) (t : Template) → slice_get (requests_of (all_steps s k)) n ≡ Some t
    → slice_get (templates_of s) (first_template s k + n) ≡ Some t
named_at s actor.P n t at =
    let p = requests_of (all_steps s actor.P) in
    let a = requests_of (all_steps s actor.A) in
    let b = requests_of (all_steps s actor.B) in
    let none : 0 + n ≡ n = omega arith in
    ap (slice_get (templates_of s)) none ∙ get_in_front (p ++ a) b n t (get_in_front p a n t at)
named_at s actor.A n t at =
    let p = requests_of (all_steps s actor.P) in
    let a = requests_of (all_steps s actor.A) in
    let b = requests_of (all_steps s actor.B) in
    get_in_front (p ++ a) b (length p + n) t (get_after p a n ∙ at)
named_at s actor.B n t at =
    let p = requests_of (all_steps s actor.P) in
    let a = requests_of (all_steps s actor.A) in
    let b = requests_of (all_steps s actor.B) in
    ap (λ m. slice_get (templates_of s) (m + n)) (sym (length-append p a)) ∙ get_after (p ++ a) b n ∙ at

pub script_laid : (s : Script) → IsScript s → (k : Actor) → IsLaid (all_labels s k) (all_steps s k) (templates_of s) (first_template s k)
script_laid s is k = record {
  fine = fine_at (all_labels s k) (all_steps s k) (section_fine s is k);
  named = λ p u t at has. named_at s k (requests_before (all_steps s k) p) t (template_found (all_steps s k) p u t at has);
}
