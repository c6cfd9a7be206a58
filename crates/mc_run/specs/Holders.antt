-- What holds the code of a run.
use Rattle.std.specs.Arc.{arc_value}
use Rattle.mc_sound.specs.Checked.{Checked}
use Rattle.mc_run.specs.declared.holder.Holder.{Holder}
use Rattle.mc_run.specs.declared.holder.Holder.TheVariants as holder

-- the code that it holds
abbrev pub held_by : Holder → Checked
held_by (holder.Lent checked) = checked.now
held_by (holder.Shared checked) = arc_value checked
