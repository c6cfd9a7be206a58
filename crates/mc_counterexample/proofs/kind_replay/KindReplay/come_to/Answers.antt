use Rattle.std.proofs.Common.{[], subst}
use Rattle.mc_code.specs.{Code.instructions_in, Runs.IsRun, Runs.rests}
use Rattle.mc_counterexample.specs.KindReplays.{state_of}
use Rattle.mc_counterexample.proofs.KindSlides.{run_slid, run_by_slide, rests_apart}
use Rattle.mc_counterexample.proofs.kind_replay.KindReplay.come_to.Goals as goal

pub slides-init : goal.slides-init
slides-init c = record { slid = rests; inside = c.requires.inside; onward = λ end run. run }

pub slides-preserved : goal.slides-preserved
slides-preserved c =
    let code = c.args.code.now in
    let here = c.slides.replay in
    let next = c.in-Some.next in
    record {
      slid = run_slid code c.args.section c.args.self.now.place here.place next.place (state_of code c.args.self.now.known)
          (state_of code here.known) (state_of code next.known) c.slides.invariant.slid c.in-Some.ensures.some;
      inside = c.in-Some.ensures.inside;
      onward = λ end run. run_by_slide code c.args.section c.args.place here.place next.place (state_of code here.known) (state_of code next.known) end
          c.in-Some.ensures.some c.slides-test.true (c.slides.invariant.onward end run);
    }

pub returns : goal.returns
returns c =
    let code = c.args.code.now in
    record {
      place = c.slides-test.false;
      inside = c.slides.invariant.inside;
      some = subst (λ place. IsRun code.templates (instructions_in code c.args.section) c.args.self.now.place (state_of code c.args.self.now.known) [] place
          (state_of code c.slides.replay.known)) c.slides-test.false c.slides.invariant.slid;
      none = tt;
    }

pub returns-in-None : goal.returns-in-None
returns-in-None c =
    let code = c.args.code.now in
    record {
      place = tt;
      inside = tt;
      some = tt;
      none = λ end run. rests_apart code c.args.section c.args.place c.slides.replay.place (state_of code c.slides.replay.known) end c.in-None.ensures.none
          c.slides-test.true (c.slides.invariant.onward end run);
    }
