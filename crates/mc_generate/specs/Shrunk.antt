-- What shrinking leaves of a script.
use Rattle.std.specs.Prelude.{◌≡◌, ◌⊎◌, Bool, true, false, Some, List, [], ◌∷◌, map, length, take}
use Rattle.mc_protocol.specs.declared.actor.Actor.{Actor}
use Rattle.mc_script.specs.{declared.section.Label.Label, declared.step.Step.Step, Script.Section, Script.Script, Script.section_of}
use Rattle.mc_code.specs.{Code.IsCode}
use Rattle.mc_assembler.specs.Layout.{code_of}
use Rattle.mc_sound.specs.Faults.{IsSound}
use Rattle.mc_generate.specs.declared.shrinker.Shrinker.{Shrinker}

-- ---- less of a script

-- those of the steps at which `kept` has true, in their order, each with its marks and its jumps
abbrev pub steps_left : List Bool → List Step → List Step
steps_left [] steps = []
steps_left (_ ∷ _) [] = []
steps_left (true ∷ kept) (s ∷ steps) = s ∷ steps_left kept steps
steps_left (false ∷ kept) (s ∷ steps) = steps_left kept steps

-- a label of the steps stands then after those that are left of the steps before it
abbrev pub label_left : List Bool → List Step → Label → Label
label_left kept steps label = record { name = label.name; place = length (steps_left kept (take label.place steps)) }

-- some of the section's steps are left, and all its labels, in their order
pub record IsLessSection (s t : Section) : Type 0 where
  pub kept : List Bool
  pub budget : t.budget ≡ s.budget
  pub steps : t.steps ≡ steps_left kept s.steps
  pub labels : t.labels ≡ map (label_left kept s.steps) s.labels

-- some of the script's steps are left, and all that it declares
pub record IsLess (s t : Script) : Type 0 where
  pub names : t.names ≡ s.names
  pub sections : (actor : Actor) → IsLessSection (section_of s actor) (section_of t actor)

-- ---- accepted scripts

-- the script is assembled and verified: its code keeps the limits of code, and has no fault
pub record IsAccepted (s : Script) : Type 0 where
  pub assembled : IsCode (code_of s)
  pub verified : IsSound (code_of s)

-- ---- shrunk scripts

-- some of the script's steps are left, and it is accepted unless all are
abbrev pub IsShrunk : Script → Script → Type 0
IsShrunk s t = IsLess s t × ((t ≡ s) ⊎ IsAccepted t)

-- the script that is being shrunk is such a script of the first, and so is the one that is tried
abbrev pub IsShrinking : Script → Shrinker → Type 0
IsShrinking first s = IsShrunk first s.script × ((tried : Script) → s.tried ≡ Some tried → IsShrunk first tried)
