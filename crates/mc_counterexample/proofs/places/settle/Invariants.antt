use Rattle.std.proofs.Common.{◌<◌, ◌-◌, length, []}
use Rattle.mc_code.specs.Code.{instructions_in}
use Rattle.mc_counterexample.specs.Replays.{LeadsBetween}
use Rattle.mc_counterexample.proofs.places.settle.Given as goal

abbrev pub invariant-slides : goal.invariant-slides
invariant-slides l = record {
  slid : LeadsBetween l.fn.code l.fn.section l.fn.place [] l.rest;
  inside : l.rest < length (instructions_in l.fn.code l.fn.section);
}

abbrev pub decreases-slides : goal.decreases-slides
decreases-slides l = length (instructions_in l.fn.code l.fn.section) - l.rest
