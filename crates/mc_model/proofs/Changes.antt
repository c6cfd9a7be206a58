-- What a change at a key leaves.
use Rattle.std.proofs.Common.{◌≡◌, ◌≢◌, ℕ, true, false, cond, Some, None, List, refl, ap, ◌∙◌}
use Rattle.std.proofs.lemmas.Slice.Eq.{bytes_eq-Decides}
use Rattle.std.specs.Cmp.Lexicographic.{slice_cmp, nat_list_cmp_total, texts_ties}
use Rattle.std.specs.{Ordering.nat_cmp, Ordering.eq_by_cmp, Cmp.eq_by_cmp_equiv, FinMap.get-insert, FinMap.get-remove}
use Rattle.std.specs.FinMap as finite_map
use Rattle.mc_model.specs.{Contents.Contents, Act.Change, Act.Keeps, Act.Puts, Act.Removes, Act.item_after, Act.with_change}

-- two keys that differ don't tie
apart : (q key : List ℕ) → q ≢ key → eq_by_cmp (slice_cmp nat_cmp) q key ≡ false
apart q key differ = elim (eq_by_cmp (slice_cmp nat_cmp) q key) as (λ b. eq_by_cmp (slice_cmp nat_cmp) q key ≡ b → b ≡ false) [
  | true ↦ λ e. absurd (differ ((bytes_eq-Decides q key).0 (texts_ties q key ∙ e)))
  | false ↦ λ e. refl
] refl

-- a key ties with itself
alike : (key : List ℕ) → eq_by_cmp (slice_cmp nat_cmp) key key ≡ true
alike key = (eq_by_cmp_equiv nat_list_cmp_total).refl key

-- what is at the key after its change
pub get_changed : (contents : Contents) (key : List ℕ) (change : Change)
    → finite_map.get (with_change contents key change) key ≡ item_after change (finite_map.get contents key)
get_changed contents key Keeps = refl
get_changed contents key (Puts item) =
    get-insert nat_list_cmp_total contents key item key ∙ ap (λ b. cond b (Some item) (finite_map.get contents key)) (alike key)
get_changed contents key Removes =
    get-remove nat_list_cmp_total contents key key ∙ ap (λ b. cond b None (finite_map.get contents key)) (alike key)

-- what is at another key
pub get_other : (contents : Contents) (key : List ℕ) (change : Change) (q : List ℕ) → q ≢ key
    → finite_map.get (with_change contents key change) q ≡ finite_map.get contents q
get_other contents key Keeps q differ = refl
get_other contents key (Puts item) q differ =
    get-insert nat_list_cmp_total contents key item q ∙ ap (λ b. cond b (Some item) (finite_map.get contents q)) (apart q key differ)
get_other contents key Removes q differ =
    get-remove nat_list_cmp_total contents key q ∙ ap (λ b. cond b None (finite_map.get contents q)) (apart q key differ)
