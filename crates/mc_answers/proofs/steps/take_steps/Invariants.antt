use Rattle.std.proofs.Common.{◌≡◌, ◌≤◌, length}
use Rattle.mc_core.specs.{Held.IsHeldBy, Safety.AreSmall, Steps.IsFold, Worlds.new_world}
use Rattle.mc_answers.specs.StepLines.{AreMadeBy}
use Rattle.mc_answers.proofs.steps.take_steps.Given as goal

-- the steps so far lead to the world, and for each note of its history the step is known that made it
abbrev pub invariant-steps : goal.invariant-steps
invariant-steps l = record {
  held : IsHeldBy l.checked.code l.world;
  small : AreSmall l.world.world.notes;
  fold : IsFold l.checked.code new_world l.yielded l.world.world l.skipped;
  few : l.skipped ≤ length l.yielded;
  index : l.index ≡ length l.yielded;
  made : AreMadeBy l.checked.code l.fn.steps.items l.world.world l.makers.items;
}
