use Rattle.std.proofs.{Common.refl, lemmas.Result.IfOk-weaker}
use Rattle.mc_cli.proofs.Subcommands.{added}
use Rattle.mc_cli.proofs.subcommand.program.Goals as goal

pub returns : goal.returns
returns c =
    let with_formats = added c.in_ok-subcommand.ensures c.in_ok-asking_program.ensures c.topic.ensures refl in
    let with_history = added c.in_ok-subcommand-2.ensures with_formats c.topic-2.ensures refl in
    let with_image = added c.in_ok-subcommand-3.ensures with_history c.topic-3.ensures refl in
    let with_script = added c.in_ok-subcommand-4.ensures with_image c.topic-4.ensures refl in
    let with_steps = added c.in_ok-subcommand-5.ensures with_script c.topic-5.ensures refl in
    IfOk-weaker c.subcommand-6.result _ _ (λ command adds. added adds with_steps c.topic-6.ensures refl) c.subcommand-6.ensures
