use Rattle.mc_timeline_text.proofs.ClientLines.{client_spells}
use Rattle.mc_timeline_text.proofs.clients.client_of.Goals as goal

pub returns-in-Err-clause-none : goal.returns-in-Err-clause-none
returns-in-Err-clause-none c = λ client small e. c.in-Err.ensures.none client (client_spells _ client small e)
