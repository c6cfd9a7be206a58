-- How far a script is shrunk. No public contract cites these.
use Rattle.std.specs.Prelude.{ℕ, ◌≤◌, length}
use Rattle.mc_protocol.specs.{declared.actor.Actor.Actor, declared.sections.Sections.Sections}
use Rattle.mc_protocol.specs.declared.actor.Actor.TheVariants as actor
use Rattle.mc_script.specs.Script.{Script}

-- each section of the script has at least as many steps
pub record HasSteps (left : Sections ℕ) (s : Script) : Type 0 where
  pub p : left.p ≤ length s.sections.p.steps
  pub a : left.a ≤ length s.sections.a.steps
  pub b : left.b ≤ length s.sections.b.steps

-- the counts with this one for a section
abbrev pub with_count : Actor → ℕ → Sections ℕ → Sections ℕ
with_count actor.P n left = record left { p = n }
with_count actor.A n left = record left { a = n }
with_count actor.B n left = record left { b = n }
