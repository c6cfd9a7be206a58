use Rattle.std.proofs.{Common.refl, lemmas.Result.IfOk-weaker}
use Rattle.mc_cli.proofs.Subcommands.{added}
use Rattle.mc_cli.proofs.subcommand.playing_program.Goals as goal

pub returns : goal.returns
returns c =
    let with_test = added c.in_ok-subcommand.ensures c.bare_program.ensures c.in_ok-command_of.ensures refl in
    let with_run = added c.in_ok-subcommand-2.ensures with_test c.in_ok-command_of-2.ensures refl in
    let with_campaign = added c.in_ok-subcommand-3.ensures with_run c.in_ok-command_of-3.ensures refl in
    let with_stress = added c.in_ok-subcommand-4.ensures with_campaign c.in_ok-command_of-4.ensures refl in
    let with_record = added c.in_ok-subcommand-5.ensures with_stress c.in_ok-command_of-5.ensures refl in
    let with_serve = added c.in_ok-subcommand-6.ensures with_record c.in_ok-command_of-6.ensures refl in
    let with_selftest = added c.in_ok-subcommand-7.ensures with_serve c.in_ok-command_of-7.ensures refl in
    IfOk-weaker c.subcommand-8.result _ _ (λ command adds. added adds with_selftest c.in_ok-command_of-8.ensures refl) c.subcommand-8.ensures
