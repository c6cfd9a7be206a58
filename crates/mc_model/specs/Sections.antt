-- The requests of three sections, with their replies.
use Rattle.std.specs.Prelude.{ℕ, List, [], ◌∷◌, ◌++◌, take}
use Rattle.mc_model.specs.Types.{Actor, Sent}
use Rattle.mc_protocol.specs.declared.actor.Actor.TheVariants as actor
use Rattle.mc_protocol.specs.declared.sections.Sections as each
pub use Rattle.mc_protocol.specs.Sections.{section_of}

-- what each section sent and received, in order
abbrev pub Sections : Type 0
Sections = each.Sections (List Sent)

abbrev pub no_sections : Sections
no_sections = record { p = []; a = []; b = [] }

-- with one more request of a section
abbrev pub with_sent : Sections → Actor → Sent → Sections
with_sent s actor.P sent = record s { p = s.p ++ sent ∷ [] }
with_sent s actor.A sent = record s { a = s.a ++ sent ∷ [] }
with_sent s actor.B sent = record s { b = s.b ++ sent ∷ [] }

-- what comes before the request at a place, in the order P, A, B: the earlier requests of its section, and the sections before
abbrev pub before : Sections → Actor → ℕ → Sections
before s actor.P n = record { p = take n s.p; a = []; b = [] }
before s actor.A n = record { p = s.p; a = take n s.a; b = [] }
before s actor.B n = record { p = s.p; a = s.a; b = take n s.b }
