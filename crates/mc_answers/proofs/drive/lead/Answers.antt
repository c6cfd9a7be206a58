use Rattle.mc_answers.proofs.Driven.{driven}
use Rattle.mc_answers.proofs.drive.lead.Goals as goal

pub returns : goal.returns
returns c =
    let taken = c.in_ok-taken.taken in
    let known = c.in_ok-taken.ensures in
    let verdict = c.in_ok-verdict.verdict in
    let reasons = c.in_ok-why.why.items in (
      taken.world,
      taken.skipped,
      verdict,
      reasons,
      driven c.args.how.why c.args.checked.now.code c.args.steps.items c.args.before c.args.list.now taken.world taken.skipped
          c.in_ok-history.history verdict reasons taken.makers.items known.held known.fold known.safe known.made
          c.in_ok-history.ensures.same c.in_ok-verdict.ensures.explains c.in_ok-verdict.ensures.states
          (rw c.as_slice.ensures.value at c.in_ok-why.ensures),
      rw c.as_slice-2.ensures.value at c.in_ok-output.ensures,
      c.status_of_run.ensures,
    )
