use Rattle.std.proofs.Common.{◌≡◌, ◌∙◌, false, [], arith, inl}
use Rattle.std.proofs.lemmas.List.Elements.{All-head}
use Rattle.mc_command.specs.{RepeatAnswers.leaves_request, declared.run.Played.Played}
use Rattle.mc_command.proofs.MoreRuns.{one_handed, one_right, one_right_under}
use Rattle.mc_command.proofs.repeating.Runs.new.Goals as goal

pub returns-clause-so_far : goal.returns-clause-so_far
returns-clause-so_far c why code right = record {
  right = one_right_under why code c.args.played (inl right);
  own = λ settled. one_right why code c.args.played right;
  shown = right;
  settled = λ settled. c.leaves_request-unsettled.ensures
      ∙ All-head (λ (run : Played). leaves_request run ≡ false) c.args.played [] settled;
  hands_out = one_handed c.args.played;
  totals = c.with-totals.ensures [] (omega arith) c.new.ensures;
}
