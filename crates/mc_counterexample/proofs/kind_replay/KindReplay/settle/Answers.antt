use Rattle.mc_code.specs.Runs.{rests}
use Rattle.mc_counterexample.specs.KindReplays.{state_of}
use Rattle.mc_counterexample.proofs.KindSlides.{run_slid}
use Rattle.mc_counterexample.proofs.kind_replay.KindReplay.settle.Goals as goal

pub slides-init : goal.slides-init
slides-init c = record { slid = rests; inside = c.requires.inside }

pub slides-preserved : goal.slides-preserved
slides-preserved c =
    let code = c.args.code.now in
    record {
      slid = run_slid code c.args.section c.args.self.now.place c.slides.replay.place c.in-Some.next.place (state_of code c.args.self.now.known)
          (state_of code c.slides.replay.known) (state_of code c.in-Some.next.known) c.slides.invariant.slid c.in-Some.ensures.some;
      inside = c.in-Some.ensures.inside;
    }
