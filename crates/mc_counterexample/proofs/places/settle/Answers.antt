use Rattle.mc_code.specs.Paths.{stays}
use Rattle.mc_counterexample.proofs.Settling.{slides_on}
use Rattle.mc_counterexample.proofs.places.settle.Goals as goal

pub slides-init : goal.slides-init
slides-init c = record { slid = stays; inside = c.requires.inside }

pub slides-preserved : goal.slides-preserved
slides-preserved c = record {
  slid = slides_on c.args.code.now c.args.section c.args.place c.slides.rest c.in-Some.next c.slides.invariant.slid c.in-Some.ensures.some;
  inside = c.in-Some.ensures.inside;
}
