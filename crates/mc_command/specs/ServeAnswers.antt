-- What `serve` writes.
use Rattle.std.specs.Prelude.{◌≡◌, ◌⊎◌, ℕ, ◌<◌, ◌==◌, List, ◌++◌, codes, decimal, if◌then◌else◌}
use Rattle.mc_server.specs.{Listening.Listens, declared.counts.Listened.Listened}
use Rattle.mc_cli.specs.declared.args.ServeArgs.{ServeArgs}
use Rattle.mc_answers.specs.declared.status.Status.{Status}
use Rattle.mc_answers.specs.declared.status.Status.TheVariants as status

-- the port that is listened at: the one that was asked for, or any where that is 0
abbrev pub IsPortOf : ℕ → ℕ → Type 0
IsPortOf asked port = 0 < asked → port ≡ asked

abbrev pub listening_text : ℕ → List ℕ
listening_text port = codes "listening 127.0.0.1:" ++ (decimal port ++ codes "\n")

abbrev pub no_listener_text : List ℕ
no_listener_text = codes "no listener\n"

-- the exit status where this came of the connections that were asked for
abbrev pub status_of : ℕ → Listened → Status
status_of connections listened = if listened.accepted == connections then status.Success else status.NoAnswer

-- the port that is listened at is written, and the status is that of the connections; or there is no listener
abbrev pub Serves : ServeArgs → List ℕ → Status → Type 0
Serves service output ended =
    ((port : ℕ) × (listened : Listened) × IsPortOf service.port port × Listens service.connections listened
    × (output ≡ listening_text port) × (ended ≡ status_of service.connections listened))
    ⊎ ((output ≡ no_listener_text) × (ended ≡ status.NoAnswer))
