-- Requests with their sections.
use Rattle.std.specs.Prelude.{List, map}
use Rattle.mc_protocol.specs.declared.actor.Actor.{Actor}
use Rattle.mc_model.specs.declared.sent.Sent.{Sent}

-- a request with its section
abbrev pub Turn : Type 0
Turn = Actor × Sent

-- the turns of a section's requests
abbrev pub turns_of : Actor → List Sent → List Turn
turns_of actor section = map (λ sent. (actor, sent)) section
