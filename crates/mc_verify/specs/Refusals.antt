-- Refusals: why code isn't sound, and the counterexample that shows it.
use Rattle.std.specs.Prelude.{◌≡◌, ◌⊎◌, ℕ, List, []}
use Rattle.mc_protocol.specs.{declared.actor.Actor.Actor, declared.reply.Class.Class}
use Rattle.mc_protocol.specs.declared.actor.Actor.TheVariants as actor
use Rattle.mc_code.specs.Code.{Code}
use Rattle.mc_sound.specs.{LeastFaults.IsLeastFrom, declared.code_fault.CodeFault.CodeFault, declared.refusal_kind.RefusalKind.RefusalKind}
use Rattle.mc_sound.specs.declared.refusal_kind.RefusalKind.TheVariants as kind
use Rattle.mc_verify.specs.Shown.{IsShownBy}

-- why code is refused: its fault, and the section and the class of each reply before it
pub record Refusal : Type 0 where
  pub kind : RefusalKind
  pub actor : Actor
  pub place : ℕ
  pub shown : List (Actor × Class)

-- the fault that a refusal names
abbrev pub fault_of : Refusal → CodeFault
fault_of refusal = record { kind = refusal.kind; actor = refusal.actor; place = refusal.place }

-- the replies are those of a counterexample; of a fault of structure, and where memory ran out, there are none
abbrev pub AreRightFor : Code → RefusalKind → Actor → ℕ → List (Actor × Class) → Type 0
AreRightFor c kind.BadTarget actor place shown = shown ≡ []
AreRightFor c kind.BadIndex actor place shown = shown ≡ []
AreRightFor c kind.NoHalt actor place shown = shown ≡ []
AreRightFor c kind.NotCleared actor place shown = shown ≡ []
AreRightFor c kind.OutOfMemory actor place shown = shown ≡ []
AreRightFor c kind actor place shown = IsShownBy c kind actor place shown

-- the refusal names the least fault of the kinds with this number or a greater one, and its replies are right
pub record IsRefusalFrom (c : Code) (number : ℕ) (refusal : Refusal) : Type 0 where
  pub least : IsLeastFrom c number (fault_of refusal)
  pub shown : AreRightFor c refusal.kind refusal.actor refusal.place refusal.shown

-- the refusal is one for the code: it names the code's least fault, and has a counterexample, if it isn't one of structure
abbrev pub IsRightRefusal : Code → Refusal → Type 0
IsRightRefusal c refusal = IsRefusalFrom c 1 refusal

-- that memory ran out
abbrev pub out_of_memory : Refusal
out_of_memory = record { kind = kind.OutOfMemory; actor = actor.P; place = 0; shown = [] }

-- the refusal is one for the code, or it is that memory ran out
abbrev pub IsRefusalOf : Code → Refusal → Type 0
IsRefusalOf c refusal = IsRightRefusal c refusal ⊎ (refusal ≡ out_of_memory)
