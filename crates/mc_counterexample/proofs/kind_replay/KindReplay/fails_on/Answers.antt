use Rattle.std.proofs.Common.{◌≡◌, ◌↔◌, true, subst}
use Rattle.mc_code.specs.Standing.{met_in}
use Rattle.mc_counterexample.specs.KindReplays.{state_of}
use Rattle.mc_verify.specs.VariableFaults.{is_outcome}
use Rattle.mc_counterexample.proofs.KindSlides.{fails_there, fails_never}
use Rattle.mc_counterexample.proofs.kind_replay.KindReplay.fails_on.Goals as goal

pub returns-in-Some : goal.returns-in-Some
returns-in-Some c =
    let code = c.args.code.now in
    let there = state_of code c.in-Some.there.known in
    let tells = subst (λ place. (c.fails_here.result ≡ true) ↔ (is_outcome c.args.kind (met_in code c.args.section place there) ≡ true))
    c.in-Some.ensures.place c.fails_here.ensures in
    fails_there code c.args.kind c.args.section c.args.place c.args.self.now.place (state_of code c.args.self.now.known) there c.fails_here.result
    c.requires.structured c.in-Some.ensures.some tells

pub returns-in-None : goal.returns-in-None
returns-in-None c = (
  λ e. absurd (cc),
  λ fails. absurd (fails_never c.args.code.now c.args.kind c.args.section c.args.place c.args.self.now.place
      (state_of c.args.code.now c.args.self.now.known) c.in-None.ensures.none fails),
)
