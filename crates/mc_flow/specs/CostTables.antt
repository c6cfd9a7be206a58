-- Tables of what the paths of a section cost.
use Rattle.std.specs.Prelude.{◌≡◌, ◌⊎◌, ◌↔◌, ℕ, ◌+◌, ◌^◌, ◌<◌, ◌≤◌, nat_le, Bool, true, false, Option}
use Rattle.std.specs.Prelude.{Some, None, List, length, map, slice_index_or}
use Rattle.mc_protocol.specs.Sections as sections
use Rattle.mc_protocol.specs.{declared.actor.Actor.Actor, declared.reply.Class.Class}
use Rattle.mc_script.specs.declared.step.Template.{Template}
use Rattle.mc_code.specs.Calls.{LeadsIn, Opens, calls_of}
use Rattle.mc_code.specs.{Code.Code, Code.instructions_in, Paths.Edge, declared.instr.Instr.Instr}
use Rattle.mc_sound.specs.{Costs.cost_of, Costs.cost_along, Costs.cost_by, declared.cost.Cost.Cost, declared.measure.Measure.Measure}
use Rattle.mc_flow.specs.{Flows.Leads, Flows.BeginsWith, declared.section_costs.CostTables.CostTables, declared.weights.Weights.Weights}
use Rattle.mc_sound.specs.declared.measure.Measure.TheVariants as measure
pub use Rattle.mc_flow.specs.Entries.{IsEntry}

-- what a call of each template costs by the measure, in the order of the templates
abbrev pub weights_of : Code → Measure → List ℕ
weights_of c measure = map (cost_of c measure) c.templates

-- the weights are the bytes of the code's templates; each call is one request
abbrev pub AreWeights : Code → Weights → Type 0
AreWeights c weights = weights.bytes.items ≡ weights_of c measure.Bytes

-- ---- entries: the greatest cost of a path to a place, or none where no path leads there

-- the entry is of this cost or more
abbrev pub is_within : Measure → ℕ → Option Cost → Bool
is_within measure cost None = false
is_within measure cost (Some most) = nat_le cost (cost_by measure most)

-- the new entry is of what the old one is of, and of what the cost is
abbrev pub IsRaised : Option Cost → Cost → Cost → Type 0
IsRaised old cost new = (measure : Measure) (less : ℕ) → (is_within measure less (Some new) ≡ true)
    ↔ ((is_within measure less old ≡ true) ⊎ (is_within measure less (Some cost) ≡ true))

-- by the table, some path to the place costs this or more
abbrev pub HasCost : Measure → List (Option Cost) → ℕ → ℕ → Type 0
HasCost measure table place cost = is_within measure cost (slice_index_or table place None) ≡ true

-- some path to the place costs this or more
abbrev pub IsReached : Code → Actor → Measure → ℕ → ℕ → Type 0
IsReached c actor measure place cost =
    (edges : List Edge) × LeadsIn c actor edges place × (cost ≤ cost_along c measure (calls_of edges))

-- ---- moves

-- a measure, and what a path costs by it or more
abbrev pub PathCost : Type 0
PathCost = Measure × ℕ

-- the entry is of it
abbrev pub IsOf : Option Cost → PathCost → Type 0
IsOf most cost = is_within cost.0 cost.1 most ≡ true

-- an instruction that leads on without a reply costs nothing
abbrev pub CostsSlid : Instr → PathCost → PathCost → Type 0
CostsSlid i before after = after ≡ before

-- a call costs the same whatever its reply; no path costs 2^32
abbrev pub CostsSent : Code → Template → Class → PathCost → PathCost → Type 0
CostsSent c t class before after =
    (after.0 ≡ before.0) × (after.1 ≤ before.1 + cost_of c before.0 t) × (after.1 < 2 ^ 32)

-- where a section begins
abbrev pub no_cost : Cost
no_cost = record { requests = 0; bytes = 0 }

-- what spreads from there along the section's paths
abbrev pub CostsLead : Code → Actor → ℕ → PathCost → Type 0
CostsLead c actor place cost =
    Leads CostsSlid (CostsSent c) c.templates (instructions_in c actor) (BeginsWith IsOf (Some no_cost)) place cost

-- the table has an entry for each place of the section, and says of each what its paths cost
pub record IsCostTable (c : Code) (actor : Actor) (table : List (Option Cost)) : Type 0 where
  pub places : length table ≡ length (instructions_in c actor)
  pub exact : (measure : Measure) (place cost : ℕ) → HasCost measure table place cost ↔ IsReached c actor measure place cost
  pub spread : (place : ℕ) (cost : PathCost) → HasCost cost.0 table place cost.1 ↔ CostsLead c actor place cost

-- ---- the tables of all sections

-- the tables are those of the code's sections
pub record AreCostTables (c : Code) (tables : CostTables) : Type 0 where
  pub weights : AreWeights c tables.weights
  pub exact : (actor : Actor) → IsCostTable c actor (sections.section_of tables.sections actor).items

-- the calls of some path to a send at the place, the send's own included, cost this or more
abbrev pub IsOpened : Code → Actor → Measure → ℕ → ℕ → Type 0
IsOpened c actor measure place cost =
    (calls : List Template) × Opens c actor place calls × (cost ≤ cost_along c measure calls)
