use Rattle.mc_machine.proofs.Standing.{waits_on}
use Rattle.mc_machine.proofs.machine.Machine.next.Goals as goal

pub returns-clause-calls : goal.returns-clause-calls
returns-clause-calls c variables exchanges st at =
    waits_on c.args.checked.now.code c.args.self.now variables exchanges st c.upcoming-self.result at (c.upcoming-self.ensures.call variables exchanges st at)

pub returns-clause-stands : goal.returns-clause-stands
returns-clause-stands c =
    let stands = c.requires.stands in
    (stands.0, stands.1, stands.2, returns-clause-calls c stands.0 stands.1 stands.2 stands.3)
