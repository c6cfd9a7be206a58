use Rattle.std.proofs.Common.{◌<◌, ◌-◌, arith}
use Rattle.mc_command.proofs.Shown.{hidden_less, shown_less, shows_none}
use Rattle.mc_command.specs.CampaignAnswers.{MOST_SHOWN}
use Rattle.mc_command.proofs.showing.shown_text.Goals as goal

pub returns-then-is_shown : goal.returns-then-is_shown
returns-then-is_shown g c =
    let shown = c.is_shown.ensures.shown c.if-is_shown.true in
    let some : 0 < MOST_SHOWN - c.args.before = omega (arith, shown.1) in
    shown_less c.job_text.result c.args.show c.args.how.why (MOST_SHOWN - c.args.before) c.args.one.now shown.0 some shown.2 c.job_text.ensures

pub returns-else-is_shown : goal.returns-else-is_shown
returns-else-is_shown g c =
    shows_none c.args.show c.args.how.why (MOST_SHOWN - c.args.before) c.args.one.now c.new.result.items c.new.ensures.items
    (hidden_less c.args.show c.args.before c.args.one.now (c.is_shown.ensures.hidden c.if-is_shown.false))
