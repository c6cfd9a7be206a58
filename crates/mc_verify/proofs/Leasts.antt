-- The lowest fault of a section is the least fault, where no fault stands before.
use Rattle.std.proofs.Common.{◌≡◌, ◌⊎◌, inl, inr, ℕ, ◌+◌, ◌-◌, ◌<◌, ◌≤◌, List, [], ◌∷◌, slice_index_or, refl, ap, sym, subst, ◌∙◌, arith}
use Rattle.std.proofs.lemmas.Bool.{cases_lt}
use Rattle.mc_protocol.specs.declared.actor.Actor.{Actor}
use Rattle.mc_protocol.specs.declared.actor.Actor.TheVariants as actor
use Rattle.mc_code.specs.Code.{Code}
use Rattle.mc_sound.specs.{LeastFaults.kind_number, LeastFaults.section_number, LeastFaults.IsBefore, LeastFaults.IsLeastFrom, LeastFaults.HasNoneFrom}
use Rattle.mc_sound.specs.{Faults.IsFault, Faults.HasNone, Faults.IsStructured, declared.refusal_kind.RefusalKind.RefusalKind}
use Rattle.mc_verify.specs.Lowest.{IsFreeOf, IsLowest}
use Rattle.mc_sound.specs.declared.refusal_kind.RefusalKind.TheVariants as kind

-- ---- kinds with their numbers

-- the kinds in their order
abbrev kinds : List RefusalKind
kinds =
    kind.BadTarget ∷ kind.BadIndex ∷ kind.NoHalt ∷ kind.NotCleared ∷ kind.Unbound ∷ kind.WrongKind ∷ kind.NothingToBind
    ∷ kind.FlagMayBeClear ∷ kind.FlagMayBeSet ∷ kind.TooManyRequests ∷ kind.TooManyBytes ∷ kind.OutOfMemory ∷ []

-- the kind with this number
abbrev kind_with : ℕ → RefusalKind
kind_with number = slice_index_or kinds (number - 1) kind.OutOfMemory

kind_of_number : (k : RefusalKind) → kind_with (kind_number k) ≡ k
kind_of_number kind.BadTarget = refl
kind_of_number kind.BadIndex = refl
kind_of_number kind.NoHalt = refl
kind_of_number kind.NotCleared = refl
kind_of_number kind.Unbound = refl
kind_of_number kind.WrongKind = refl
kind_of_number kind.NothingToBind = refl
kind_of_number kind.FlagMayBeClear = refl
kind_of_number kind.FlagMayBeSet = refl
kind_of_number kind.TooManyRequests = refl
kind_of_number kind.TooManyBytes = refl
kind_of_number kind.OutOfMemory = refl

pub same_kind : (k other : RefusalKind) → kind_number k ≡ kind_number other → k ≡ other
same_kind k other e = sym (kind_of_number k) ∙ ap kind_with e ∙ kind_of_number other

-- ---- the least fault

-- the sections before the one with this number have no fault of the kind
abbrev pub NoneBefore : Code → RefusalKind → ℕ → Type 0
NoneBefore c k number = (whose : Actor) → section_number whose < number → HasNone c k whose

-- the section's lowest fault is the least of all, where neither the kinds before nor the sections before have one
pub least_at : (c : Code) (from : ℕ) (k : RefusalKind) (whose : Actor) (place : ℕ) → IsFreeOf c from (kind_number k)
    → NoneBefore c k (section_number whose) → IsLowest c k whose place
    → IsLeastFrom c from (record { kind = k; actor = whose; place = place })
least_at c from k whose place kinds sections lowest = record { stands = lowest.stands; first = first }
  where
    by_place : (other : RefusalKind) (actor : Actor) (q : ℕ) → other ≡ k
        → (section_number actor < section_number whose) ⊎ ((actor ≡ whose) × (q < place)) → IsFault c other actor q → ⊥
    by_place other actor q is (inl before) fault = sections actor before q (subst (λ kind. IsFault c kind actor q) is fault)
    by_place other actor q is (inr (same, before)) fault =
        lowest.first q before (subst (λ actor. IsFault c k actor q) same (subst (λ kind. IsFault c kind actor q) is fault))

    first : (other : RefusalKind) (actor : Actor) (q : ℕ) → from ≤ kind_number other → IsBefore other actor q k whose place
        → IsFault c other actor q → ⊥
    first other actor q within (inl before) fault = kinds.none other actor within before q fault
    first other actor q within (inr (is, before)) fault = by_place other actor q is before fault

-- ---- one more kind without a fault

below_three : (whose : Actor) → section_number whose < 3
below_three actor.P = omega arith
below_three actor.A = omega arith
below_three actor.B = omega arith

pub none_more : (c : Code) (from : ℕ) (k : RefusalKind) → IsFreeOf c from (kind_number k) → NoneBefore c k 3
    → IsFreeOf c from (kind_number k + 1)
none_more c from k kinds in_each = record { none = none }
  where
    by_number : (other : RefusalKind) (whose : Actor) → from ≤ kind_number other → kind_number other < kind_number k + 1
        → (kind_number other < kind_number k) ⊎ (kind_number k ≤ kind_number other) → HasNone c other whose
    by_number other whose within below (inl before) = kinds.none other whose within before
    by_number other whose within below (inr after) =
        let is : other ≡ k = same_kind other k (omega (arith, after, below)) in
        subst (λ kind. HasNone c kind whose) (sym is) (in_each whose (below_three whose))

    none : HasNoneFrom c from (kind_number k + 1)
    none other whose within below = by_number other whose within below (cases_lt (kind_number other) (kind_number k))

-- ---- structure

-- code without a fault of the first kinds is structured
pub free_structured : (c : Code) (whose : Actor) → HasNoneFrom c 1 5 → IsStructured c whose
free_structured c whose free = record {
  targets = free kind.BadTarget whose (omega arith) (omega arith);
  indices = free kind.BadIndex whose (omega arith) (omega arith);
  halts = free kind.NoHalt whose (omega arith) (omega arith);
}
