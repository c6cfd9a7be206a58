-- What is wrong with an instruction by itself, whether a run reaches it or not; and sections in which nothing is.
use Rattle.std.specs.Prelude.{◌≡◌, ℕ, ◌-◌, ◌==◌, nat_lt, nat_le, Bool, true, false, not, ◌&&◌, Option}
use Rattle.std.specs.Prelude.{Some, None, List, length, slice_get, if◌then◌else◌}
use Rattle.std.specs.List.{list_all}
use Rattle.mc_protocol.specs.{Legal.is_legal, Words.all_classes, declared.actor.Actor.Actor, declared.reply.Class.Class}
use Rattle.mc_script.specs.declared.step.Template.{Template}
use Rattle.mc_code.specs.declared.limits.TheConstants.{NO_ENTRY}
use Rattle.mc_code.specs.{Code.Code, Code.instructions_in, Paths.entry_of, declared.instr.Instr.Instr}
use Rattle.mc_code.specs.declared.instr.Instr.TheVariants as instr

-- ---- targets

-- later than the place, and inside a section of `size` instructions
abbrev pub is_ahead : ℕ → ℕ → ℕ → Bool
is_ahead size place target = nat_lt place target && nat_lt target size

-- a class that the verb may be answered with leads ahead, and any other has no entry
abbrev pub is_entry : ℕ → ℕ → Template → List ℕ → Class → Bool
is_entry size place t next class =
    if is_legal t.verb class then is_ahead size place (entry_of next class) else entry_of next class == NO_ENTRY

-- some class has a wrong entry; a send without a template is a fault of its index
abbrev pub has_bad_entry : ℕ → ℕ → List ℕ → Option Template → Bool
has_bad_entry size place next None = false
has_bad_entry size place next (Some t) = not (list_all (is_entry size place t next) all_classes)

abbrev pub has_bad_target : List Template → ℕ → ℕ → Option Instr → Bool
has_bad_target templates size place (Some (instr.Send n next)) = has_bad_entry size place next (slice_get templates n)
has_bad_target templates size place (Some (instr.Goto target)) = not (is_ahead size place target)
has_bad_target templates size place _ = false

-- ---- indices

-- the send's template, or the bind's variable, isn't there
abbrev pub has_bad_index : Code → Option Instr → Bool
has_bad_index c (Some (instr.Send n next)) = nat_le (length c.templates) n
has_bad_index c (Some (instr.Bind variable)) = nat_le c.vars variable
has_bad_index c _ = false

-- ---- the end

abbrev pub is_halt : Option Instr → Bool
is_halt (Some instr.Halt) = true
is_halt _ = false

-- ---- sections

-- the instruction at the place leads elsewhere than to a later place of the section
abbrev pub HasBadTarget : Code → Actor → ℕ → Type 0
HasBadTarget c actor place =
    has_bad_target c.templates (length (instructions_in c actor)) place (slice_get (instructions_in c actor) place) ≡ true

-- it names what isn't there
abbrev pub HasBadIndex : Code → Actor → ℕ → Type 0
HasBadIndex c actor place = has_bad_index c (slice_get (instructions_in c actor) place) ≡ true

-- it is the section's last one, and no halt
abbrev pub LacksHalt : Code → Actor → ℕ → Type 0
LacksHalt c actor place =
    (place ≡ length (instructions_in c actor) - 1) × (is_halt (slice_get (instructions_in c actor) place) ≡ false)

-- the section leads forwards to its end, and names what is there: what all tables stand on
pub record IsStructured (c : Code) (actor : Actor) : Type 0 where
  pub targets : (place : ℕ) → HasBadTarget c actor place → ⊥
  pub indices : (place : ℕ) → HasBadIndex c actor place → ⊥
  pub halts : (place : ℕ) → LacksHalt c actor place → ⊥
