-- What the lines that are left of a step list spell, and when a reader of them gives up. No public contract cites these:
-- they say of a part what `StepText.antt` says of the whole.
use Rattle.std.specs.Prelude.{◌≡◌, ◌<◌, ◌≤◌, List, [], ◌∷◌, length}
use Rattle.mc_protocol.specs.declared.{actor.Actor.Actor, event.Event.Event, fault.Fault.Fault}
use Rattle.mc_protocol.specs.{Decimals.SpellsNumber, Decimals.MAX_64, Faults.fault_number, Lines.Word, Lines.Words}
use Rattle.mc_history.specs.declared.step_text.TheConstants.{STEP_LIST_LIMIT}
use Rattle.mc_history.specs.Series.{Form, Series, listed}
use Rattle.mc_history.specs.{HistoryText.end_line, StepText.SpellsStep}

-- the words after `fail`: the number of the fault alone
abbrev pub SpellsFault : Words → Fault → Type 0
SpellsFault words fault = (number : Word) × (words ≡ number ∷ []) × SpellsNumber MAX_64 number (fault_number fault)

-- steps, of which there are few
abbrev pub steps : Form (List (Actor × Event)) (Actor × Event)
steps = listed SpellsStep (λ items _. length items < STEP_LIST_LIMIT)

abbrev pub AfterSteps : List (Actor × Event) → List (Actor × Event) → List Words → Type 0
AfterSteps all items lines = (all ≡ items) × (length all ≤ STEP_LIST_LIMIT) × (lines ≡ end_line ∷ [])

-- the lines after the first
abbrev pub SpellsOnward : List Words → List (Actor × Event) → Type 0
SpellsOnward lines all = Series steps (AfterSteps all) [] lines
