use Rattle.std.proofs.{Common.refl, lemmas.Result.IfOk-weaker}
use Rattle.mc_cli.proofs.Subcommands.{added}
use Rattle.mc_cli.proofs.subcommand.asking_program.Goals as goal

pub returns : goal.returns
returns c =
    let with_judge = added c.in_ok-subcommand.ensures c.in_ok-playing_program.ensures c.in_ok-command_of.ensures refl in
    let with_draw = added c.in_ok-subcommand-2.ensures with_judge c.in_ok-command_of-2.ensures refl in
    let with_convert = added c.in_ok-subcommand-3.ensures with_draw c.in_ok-command_of-3.ensures refl in
    let with_join = added c.in_ok-subcommand-4.ensures with_convert c.in_ok-command_of-4.ensures refl in
    let with_check = added c.in_ok-subcommand-5.ensures with_join c.in_ok-command_of-5.ensures refl in
    let with_asm = added c.in_ok-subcommand-6.ensures with_check c.in_ok-command_of-6.ensures refl in
    IfOk-weaker c.subcommand-7.result _ _ (λ command adds. added adds with_asm c.in_ok-command_of-7.ensures refl) c.subcommand-7.ensures
