-- What calls cost: how many they are, and how many bytes their texts have, a variable counted at 20 digits.
use Rattle.std.specs.Prelude.{◌≡◌, ◌⊎◌, ℕ, ◌+◌, ◌≤◌, List, [], ◌∷◌, length, slice_index_or}
use Rattle.mc_protocol.specs.{Decimals.MAX_64, Texts.request_text, declared.actor.Actor.Actor}
use Rattle.mc_script.specs.{declared.section.Budget.Budget, declared.step.Argument.Argument, declared.step.Template.Template}
use Rattle.mc_script.specs.declared.step.Argument.TheVariants as argument
use Rattle.mc_code.specs.{Calls.Opens, Code.Code, Requests.request_with}
use Rattle.mc_sound.specs.{declared.cost.Cost.Cost, declared.measure.Measure.Measure}
use Rattle.mc_sound.specs.declared.measure.Measure.TheVariants as measure

-- of the numbers that a call may have, one that is longest to write: 2^64 - 1 has 20 digits
abbrev pub longest_number : Argument → ℕ
longest_number argument.Nothing = 0
longest_number (argument.Number number) = number
longest_number (argument.Variable variable) = MAX_64

-- the most bytes of a call's request
abbrev pub bytes_of : Code → Template → ℕ
bytes_of c t = length (request_text (request_with t (slice_index_or c.keys t.key []) (longest_number t.argument)))

abbrev pub cost_of : Code → Measure → Template → ℕ
cost_of c measure.Requests t = 1
cost_of c measure.Bytes t = bytes_of c t

abbrev pub cost_along : Code → Measure → List Template → ℕ
cost_along c measure [] = 0
cost_along c measure (t ∷ calls) = cost_of c measure t + cost_along c measure calls

abbrev pub bound_of : Measure → Budget → ℕ
bound_of measure.Requests budget = budget.requests
bound_of measure.Bytes budget = budget.bytes

-- ---- costs by both measures

abbrev pub cost_by : Measure → Cost → ℕ
cost_by measure.Requests cost = cost.requests
cost_by measure.Bytes cost = cost.bytes

-- ---- the greatest cost of a section

-- nothing, or what the calls of a path to a send cost, the send's own included
abbrev pub MayCost : Code → Actor → Measure → ℕ → Type 0
MayCost c actor measure cost =
    (cost ≡ 0) ⊎ ((place : ℕ) × (calls : List Template) × Opens c actor place calls × (cost ≡ cost_along c measure calls))

-- the section may cost this, and no more
pub record IsGreatestCost (c : Code) (actor : Actor) (measure : Measure) (most : ℕ) : Type 0 where
  pub attained : MayCost c actor measure most
  pub bound : (cost : ℕ) → MayCost c actor measure cost → cost ≤ most
