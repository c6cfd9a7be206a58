-- What a list of keys and items holds: where it is searched, filtered and added to.
use Rattle.std.proofs.Common.{◌≡◌, ℕ, Bool, true, false, cond, not, Option, Some, None, List, [], ◌∷◌, ◌++◌, Bor, refl, sym, ap, ◌∙◌, arith}
use Rattle.std.specs.FinMap.{FinMap, IsAntisymmetric, nat_cmp-IsAntisymmetric, slice_cmp-IsAntisymmetric}
use Rattle.std.specs.{Ordering.nat_cmp, Ordering.eq_by_cmp, Cmp.Lexicographic.slice_cmp, Cmp.Lexicographic.nat_list_cmp_total, Cmp.Lexicographic.texts_ties}
use Rattle.std.specs.{List.find, List.filter, FinMap.same_map, FinMap.from_entries_push, FinMap.get-from_entries, FinMap.get-insert, FinMap.get-remove}
use Rattle.std.specs.{Cmp.eq_by_cmp_equiv, Option.option_map, Str.bytes_eq, FinMap.Entries.find-where_key}
use Rattle.std.specs.FinMap as finite_map
use Rattle.std.specs.FinMap.Entries as entries

-- keys that compare alike are equal
pub same_keys : IsAntisymmetric (slice_cmp nat_cmp)
same_keys = slice_cmp-IsAntisymmetric nat_cmp-IsAntisymmetric

-- bytes are equal where they compare alike, in either order
bytes_tie : (xs ys : List ℕ) → bytes_eq xs ys ≡ eq_by_cmp (slice_cmp nat_cmp) ys xs
bytes_tie xs ys = texts_ties xs ys ∙ (eq_by_cmp_equiv nat_list_cmp_total).symm xs ys

unless : {X : Type 0} (b : Bool) (x y : X) → cond (not b) x y ≡ cond b y x
unless b x y = grind arith

again : {X : Type 0} (b : Bool) (x y z : X) → cond b x (cond b y z) ≡ cond b x z
again b x y z = grind arith

module _ {X : Type 0} where
  -- the value of the first entry with the key
  found_value : (key : List ℕ) (es : List (List ℕ × X)) → option_map (λ e. e.1) (find (λ e. bytes_eq e.0 key) es) ≡ entries.find (slice_cmp nat_cmp) key es
  found_value key [] = refl
  found_value key (e ∷ es) =
      ap (λ b. option_map (λ (e : List ℕ × X). e.1) (cond b (Some e) (find (λ e. bytes_eq e.0 key) es))) (bytes_tie e.0 key)
      ∙ elim (eq_by_cmp (slice_cmp nat_cmp) key e.0) as
      (λ b. option_map (λ (e : List ℕ × X). e.1) (cond b (Some e) (find (λ e. bytes_eq e.0 key) es))
      ≡ cond b (Some e.1) (entries.find (slice_cmp nat_cmp) key es)) [
        | true ↦ refl
        | false ↦ found_value key es
      ]

  -- a reference to the first entry with the key refers to what the map has there
  pub found_entry : (key : List ℕ) (es : List (List ℕ × X)) (r : Option (Bor (List ℕ × X))) → option_map (λ y. y.now) r ≡ find (λ e. bytes_eq e.0 key) es
      → option_map (λ e. e.1) (option_map (λ y. y.now) r) ≡ finite_map.get (finite_map.from_entries {R = slice_cmp nat_cmp} es) key
  found_entry key es r is = ap (option_map (λ e. e.1)) is ∙ found_value key es ∙ sym (get-from_entries nat_list_cmp_total es key)

  -- the entries with another key make the map without the key
  pub kept_entries : (key : List ℕ) (es : List (List ℕ × X))
      → finite_map.from_entries {R = slice_cmp nat_cmp} (filter (λ e. not (bytes_eq e.0 key)) es) ≡ finite_map.remove (finite_map.from_entries es) key
  kept_entries key es = same_map nat_list_cmp_total same_keys _ _ (λ q.
      get-from_entries nat_list_cmp_total _ q
      ∙ find-where_key (slice_cmp nat_cmp) (λ k. not (bytes_eq k key)) q (λ x e. ap (λ k. not (bytes_eq k key)) (sym (same_keys q x e))) es
      ∙ unless (bytes_eq q key) (entries.find (slice_cmp nat_cmp) q es) None
      ∙ ap (λ b. cond b None (entries.find (slice_cmp nat_cmp) q es)) (texts_ties q key)
      ∙ ap (cond (eq_by_cmp (slice_cmp nat_cmp) q key) None) (sym (get-from_entries nat_list_cmp_total es q))
      ∙ sym (get-remove nat_list_cmp_total (finite_map.from_entries es) key q))

  -- to remove a key before an insert at it changes nothing
  insert_removed : (m : FinMap (slice_cmp nat_cmp) X) (key : List ℕ) (x : X) → finite_map.insert (finite_map.remove m key) key x ≡ finite_map.insert m key x
  insert_removed m key x = same_map nat_list_cmp_total same_keys _ _ (λ q.
      get-insert nat_list_cmp_total (finite_map.remove m key) key x q
      ∙ ap (cond (eq_by_cmp (slice_cmp nat_cmp) q key) (Some x)) (get-remove nat_list_cmp_total m key q)
      ∙ again (eq_by_cmp (slice_cmp nat_cmp) q key) (Some x) None (finite_map.get m q)
      ∙ sym (get-insert nat_list_cmp_total m key x q))

  -- an entry after entries that make the map without its key
  pub pushed_entry : (m : FinMap (slice_cmp nat_cmp) X) (kept : List (List ℕ × X)) (key : List ℕ) (x : X)
      → finite_map.from_entries kept ≡ finite_map.remove m key
      → finite_map.from_entries (kept ++ (key, x) ∷ []) ≡ finite_map.insert m key x
  pushed_entry m kept key x is =
      let none : entries.find (slice_cmp nat_cmp) key kept ≡ None =
      sym (get-from_entries nat_list_cmp_total kept key)
      ∙ ap (λ n. finite_map.get n key) is
      ∙ get-remove nat_list_cmp_total m key key
      ∙ ap (λ b. cond b None (finite_map.get m key)) ((eq_by_cmp_equiv nat_list_cmp_total).refl key)
      in
      from_entries_push nat_list_cmp_total same_keys kept key x none
      ∙ ap (λ n. finite_map.insert n key x) is
      ∙ insert_removed m key x
