-- Laws of layout, whatever the script is.
use Rattle.std.specs.Prelude.{◌≡◌, ℕ, false, Some, List, slice_get}
use Rattle.mc_protocol.specs.{Legal.is_legal, declared.actor.Actor.Actor, declared.reply.Class.Class}
use Rattle.mc_script.specs.{Script.Script, WellFormed.IsScript, declared.step.Template.Template}
use Rattle.mc_code.specs.declared.instr.Instr.TheVariants as instr
use Rattle.mc_code.specs.{declared.limits.TheConstants.NO_ENTRY, Code.instructions_in, Paths.LeadsForwards, Paths.entry_of}
use Rattle.mc_assembler.specs.{Agreement.Agrees, Layout.code_of}

-- each section of laid-out code leads forwards
abbrev pub LayoutsLeadForwards : Type 0
LayoutsLeadForwards = (s : Script) (actor : Actor) → IsScript s → LeadsForwards (code_of s).templates (instructions_in (code_of s) actor)

-- a send of laid-out code has no entry for a class that its verb is never answered with
abbrev pub EntriesAreLegal : Type 0
EntriesAreLegal = (s : Script) (actor : Actor) (p n : ℕ) (next : List ℕ) (t : Template) (class : Class) → IsScript s
    → slice_get (instructions_in (code_of s) actor) p ≡ Some (instr.Send n next) → slice_get (code_of s).templates n ≡ Some t
    → is_legal t.verb class ≡ false → entry_of next class ≡ NO_ENTRY

-- every script agrees with its layout
abbrev pub CodesAgree : Type 0
CodesAgree = (s : Script) → IsScript s → Agrees s (code_of s)
