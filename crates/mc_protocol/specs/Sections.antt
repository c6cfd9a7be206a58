-- A value for each section of a run.
use Rattle.mc_protocol.specs.declared.{actor.Actor.Actor, sections.Sections.Sections}
use Rattle.mc_protocol.specs.declared.actor.Actor.TheVariants as actor

abbrev pub section_of : {T : Type 0} → Sections T → Actor → T
section_of s actor.P = s.p
section_of s actor.A = s.a
section_of s actor.B = s.b
