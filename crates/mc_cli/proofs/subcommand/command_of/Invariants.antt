use Rattle.std.proofs.Common.{◌≡◌, drop, fold, map}
use Rattle.clap.specs.Words.{app_of, with_rule}
use Rattle.mc_cli.specs.Commands.{app_with, rule_of_row}
use Rattle.mc_cli.proofs.subcommand.command_of.Given as goal

-- the options that are left come after those that were added
abbrev pub invariant-rows : goal.invariant-rows
invariant-rows l =
    fold with_rule (app_of l.command) (map rule_of_row (drop l.row-index l.fn.rows)) ≡ app_with l.fn.help.name.now (map rule_of_row l.fn.rows)
