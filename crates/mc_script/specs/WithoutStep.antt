-- A script less one of its steps.
use Rattle.std.specs.Prelude.{◌≡◌, ℕ, ◌+◌, ◌-◌, ◌<◌, nat_le, nat_lt, Some, List, ◌∷◌, ◌++◌, map, length, slice_get}
use Rattle.std.specs.Prelude.{count_by, remove, if◌then◌else◌}
use Rattle.mc_script.specs.Values.{Actor, Words, Sections, Label, Step}
use Rattle.mc_script.specs.{Script.Names, Script.Section, Script.Script, Script.section_of, WellFormed.IsScript}
use Rattle.mc_script.specs.Values.actor

-- where a label at `place` stands without the step at place k: one place earlier, where it stood after the step
abbrev pub place_without : ℕ → ℕ → ℕ
place_without k place = if nat_lt k place then place - 1 else place

abbrev pub label_without : ℕ → Label → Label
label_without k label = record { name = label.name; place = place_without k label.place }

-- the section less the step at this place: each other step has its marks, and jumps to the labels that it had
abbrev pub section_without : ℕ → Section → Section
section_without k s = record {
  budget = s.budget;
  steps = remove s.steps k;
  labels = map (label_without k) s.labels;
}

-- the sections less the step at this place of one of them
abbrev pub sections_without : Actor → ℕ → Sections Section → Sections Section
sections_without actor.P k s = record s { p = section_without k s.p }
sections_without actor.A k s = record s { a = section_without k s.a }
sections_without actor.B k s = record s { b = section_without k s.b }

-- the script less the step at this place of a section
abbrev pub without_step : Script → Actor → ℕ → Script
without_step s actor k = record { names = s.names; sections = sections_without actor k s.sections }
