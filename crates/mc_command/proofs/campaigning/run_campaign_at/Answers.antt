use Rattle.std.proofs.Common.{◌∙◌, ◌++◌, ap, inl, sym, Err}
use Rattle.std.proofs.lemmas.Bool.{false≢true}
use Rattle.mc_command.proofs.ReportTexts.{fault_is_written, grows_more}
use Rattle.mc_command.proofs.campaigning.run_campaign_at.Goals as goal

pub returns-in-Ok-clause-answered : goal.returns-in-Ok-clause-answered
returns-in-Ok-clause-answered g c old new =
    let found = c.in-Ok.ensures.answered in
    let text = c.in-Ok.answer.output.items in
    let written = c.write_text-status.ensures.written (found.0 ∙ old) new in
    record {
      output = found.1 ++ text;
      right = inl (rw written.1 found.3);
      written = grows_more _ _ _ found.1 text found.2 (rw c.as_slice.ensures.value at written.0);
    }

pub returns-clause-answered : goal.returns-clause-answered
returns-clause-answered g c old new =
    fault_is_written c.args.target.now.plan c.args.target.now.name c.in-Err.fault _ _ _ c.write_fault.result
    (λ memory. let told = c.in-Err.ensures.memory (ap Err memory) in (told.1, told.2, told.3))
    (λ memory. c.write_fault.ensures.memory memory ((c.in-Err.ensures.memory (ap Err memory)).0 ∙ old) new)
    (λ broken. false≢true (sym new ∙ (ap g.O.Sink.has_failed (c.write_fault.ensures.broken broken) ∙ c.in-Err.ensures.broken (ap Err broken))))
    c.write_fault.ensures.status
