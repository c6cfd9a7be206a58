use Rattle.std.proofs.Common.{[], refl}
use Rattle.mc_server.proofs.Putting.{IsPut-none}
use Rattle.mc_server.proofs.answer.answer.Goals as goal

pub returns-in-Quit : goal.returns-in-Quit
returns-in-Quit g c = ([], rw c.in-Quit.is refl, IsPut-none c.args.held.now.items (g.S.Stream.state c.args.stream.now))
