use Rattle.std.proofs.Common.{◌≡◌, take}
use Rattle.mc_flow.specs.CostTables.{weights_of}
use Rattle.mc_sound.specs.declared.measure.Measure.TheVariants as measure
use Rattle.mc_flow.proofs.weights.template_bytes.Given as goal

abbrev pub invariant-templates : goal.invariant-templates
invariant-templates l = l.bytes.items ≡ take l.template (weights_of l.code measure.Bytes)
