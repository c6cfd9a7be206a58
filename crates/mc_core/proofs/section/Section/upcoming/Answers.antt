use Rattle.mc_core.proofs.Upcoming.{stands_to_begin, upcoming_is}
use Rattle.mc_core.proofs.section.Section.upcoming.Goals as goal

pub upcoming-requires : goal.upcoming-requires
upcoming-requires c =
    record { stands = stands_to_begin c.args.checked.now.code c.args.self.now c.in-Some.machine c.in-Some.is c.requires }

pub returns : goal.returns
returns c =
    upcoming_is c.args.checked.now.code c.args.self.now c.in-Some.machine c.upcoming.result c.in-Some.is c.requires c.upcoming.ensures.call
    c.upcoming.ensures.end
