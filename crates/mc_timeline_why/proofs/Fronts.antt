-- A front of a timeline is a timeline, and none of its notes breaks a rule.
use Rattle.std.proofs.Common.{◌≡◌, ◌≢◌, ◌<◌, ℕ, zero, suc, None, List, [], ◌∷◌, ◌++◌, take, get_or, length, append_assoc, append-nil, sym, subst, arith, refl}
use Rattle.mc_model.specs.declared.rules.HistoryKind.{HistoryKind}
use Rattle.mc_model.specs.declared.rules.HistoryKind.TheVariants as kind
use Rattle.mc_timeline.specs.{Timelines.ClientNote, Rules.KeepRules, Rules.fault_of}

pub kept_front : (earlier notes : List ClientNote) (n : ℕ) → KeepRules earlier notes → KeepRules earlier (take n notes)
kept_front earlier notes zero keeps = tt
kept_front earlier [] (suc n) keeps = tt
kept_front earlier (next ∷ notes) (suc n) keeps = (keeps.0, kept_front (earlier ++ next ∷ []) notes n keeps.1)

pub no_fault : (earlier notes : List ClientNote) (i : ℕ) (d : ClientNote) → KeepRules earlier notes → i < length notes
    → fault_of (earlier ++ take i notes) (get_or notes i d) ≡ None
no_fault earlier [] i d keeps less = absurd (omega arith)
no_fault earlier (next ∷ notes) zero d keeps less = subst (λ (l : List ClientNote). fault_of l next ≡ None) (sym (append-nil earlier)) keeps.0
no_fault earlier (next ∷ notes) (suc i) d keeps less =
    subst (λ (l : List ClientNote). fault_of l (get_or notes i d) ≡ None) (append_assoc earlier (next ∷ []) (take i notes))
    (no_fault (earlier ++ next ∷ []) notes i d keeps.1 (omega (arith, less)))

-- a note is refused for want of memory alone
pub memory_alone : (k : HistoryKind) → (k ≢ kind.OutOfMemory → ⊥) → k ≡ kind.OutOfMemory
memory_alone kind.OutOfMemory other = refl
memory_alone kind.Header other = absurd (other (λ e. cc))
memory_alone kind.Line other = absurd (other (λ e. cc))
memory_alone kind.Number other = absurd (other (λ e. cc))
memory_alone kind.Order other = absurd (other (λ e. cc))
memory_alone kind.WrongReply other = absurd (other (λ e. cc))
memory_alone kind.NotCleared other = absurd (other (λ e. cc))
memory_alone kind.UnseenNumber other = absurd (other (λ e. cc))
memory_alone kind.TooMany other = absurd (other (λ e. cc))
memory_alone kind.Unended other = absurd (other (λ e. cc))
