-- The versions that a change makes.
use Rattle.std.proofs.Common.{◌≡◌, ◌⊎◌, inl, inr, ℕ, List, [], ◌∷◌, ◌++◌, refl, subst}
use Rattle.mc_model.specs.{declared.cache.Item.Item, Act.Change, Act.Keeps, Act.Puts, Act.Removes}
use Rattle.mc_claims.specs.Replay.{version_by}
use Rattle.mc_history.specs.Distinct.{AreDistinct}
use Rattle.mc_timeline.specs.Members.{IsIn}
use Rattle.mc_timeline.proofs.{Merges.merged_distinct, Merges.appended}

abbrev Version : Type 0
Version = List ℕ × ℕ

-- one more version that isn't among them
pub one_more_version : (versions : List Version) (key : List ℕ) (change : Change) → AreDistinct versions
    → ((item : Item) → change ≡ Puts item → IsIn (key, item.number) versions → ⊥) → AreDistinct (versions ++ version_by key change)
one_more_version versions key Keeps distinct new = merged_distinct versions [] (versions ++ []) (appended versions []) distinct tt (λ v h none. none)
one_more_version versions key Removes distinct new = merged_distinct versions [] (versions ++ []) (appended versions []) distinct tt (λ v h none. none)
one_more_version versions key (Puts item) distinct new =
    merged_distinct versions ((key, item.number) ∷ []) (versions ++ (key, item.number) ∷ []) (appended versions ((key, item.number) ∷ []))
    distinct (tt, tt) apart
  where
    apart : (v : Version) → IsIn v versions → IsIn v ((key, item.number) ∷ []) → ⊥
    apart v here (inl same) = new item refl (subst (λ w. IsIn w versions) same here)
    apart v here (inr none) = none

-- a version that a change makes
pub made_by_change : (key : List ℕ) (change : Change) (v : Version) → IsIn v (version_by key change)
    → (item : Item) × (change ≡ Puts item) × (v ≡ (key, item.number))
made_by_change key Keeps v h = absurd h
made_by_change key Removes v h = absurd h
made_by_change key (Puts item) v (inl same) = (item, refl, same)
made_by_change key (Puts item) v (inr none) = absurd none
