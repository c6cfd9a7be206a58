-- A hash map as a finite map.
use Rattle.std.proofs.Common.{◌≡◌, ℕ, cond, Option, Some, None, List, [], ◌∷◌, refl, sym, ap, ◌∙◌}
use Rattle.std.proofs.lemmas.Map.Steps.{set_value_same}
use Rattle.std.specs.Cmp.Lexicographic.{slice_cmp, nat_list_cmp_total, texts_ties}
use Rattle.std.specs.FinMap.{FinMap, IsAntisymmetric, nat_cmp-IsAntisymmetric, slice_cmp-IsAntisymmetric, same_map, get-from_entries, get-insert, get-remove}
use Rattle.std.specs.{Ordering.nat_cmp, Ordering.eq_by_cmp, Cmp.eq_by_cmp_equiv, Map.lookup, Map.set_value, Option.unwrap_or, Str.bytes_eq}
use Rattle.std.specs.FinMap as finite_map
use Rattle.std.specs.FinMap.Entries as entries
use Rattle.mc_model.specs.declared.cache.Item.{Item}
use Rattle.mc_server.specs.Made.{with_made}

same_keys : IsAntisymmetric (slice_cmp nat_cmp)
same_keys = slice_cmp-IsAntisymmetric nat_cmp-IsAntisymmetric

turned : (q key : List ℕ) → bytes_eq key q ≡ eq_by_cmp (slice_cmp nat_cmp) q key
turned q key = texts_ties key q ∙ (eq_by_cmp_equiv nat_list_cmp_total).symm key q

module _ {X : Type 0} where
  abbrev pub map_of : List (List ℕ × X) → FinMap (slice_cmp nat_cmp) X
  map_of es = finite_map.from_entries es

  looked_up : (key : List ℕ) (es : List (List ℕ × X)) → lookup (bytes_eq key) es ≡ entries.find (slice_cmp nat_cmp) key es
  looked_up key [] = refl
  looked_up key (e ∷ es) =
      ap (λ b. cond b (Some e.1) (lookup (bytes_eq key) es)) (texts_ties key e.0)
      ∙ ap (cond (eq_by_cmp (slice_cmp nat_cmp) key e.0) (Some e.1)) (looked_up key es)

  -- a look-up in the entries is one in the map
  pub got : (key : List ℕ) (es : List (List ℕ × X)) → lookup (bytes_eq key) es ≡ finite_map.get (map_of es) key
  got key es = looked_up key es ∙ sym (get-from_entries nat_list_cmp_total es key)

  -- entries in which the key alone has changed
  pub put_entries : (es fs : List (List ℕ × X)) (key : List ℕ) (x : X)
      → ((q : List ℕ) → lookup (bytes_eq q) fs ≡ cond (bytes_eq key q) (Some x) (lookup (bytes_eq q) es))
      → map_of fs ≡ finite_map.insert (map_of es) key x
  put_entries es fs key x h = same_map nat_list_cmp_total same_keys _ _ (λ q.
      sym (got q fs) ∙ h q
      ∙ ap (λ b. cond b (Some x) (lookup (bytes_eq q) es)) (turned q key)
      ∙ ap (cond (eq_by_cmp (slice_cmp nat_cmp) q key) (Some x)) (got q es)
      ∙ sym (get-insert nat_list_cmp_total (map_of es) key x q))

  pub removed_entries : (es fs : List (List ℕ × X)) (key : List ℕ)
      → ((q : List ℕ) → lookup (bytes_eq q) fs ≡ cond (bytes_eq key q) None (lookup (bytes_eq q) es))
      → map_of fs ≡ finite_map.remove (map_of es) key
  removed_entries es fs key h = same_map nat_list_cmp_total same_keys _ _ (λ q.
      sym (got q fs) ∙ h q
      ∙ ap (λ b. cond b None (lookup (bytes_eq q) es)) (turned q key)
      ∙ ap (cond (eq_by_cmp (slice_cmp nat_cmp) q key) None) (got q es)
      ∙ sym (get-remove nat_list_cmp_total (map_of es) key q))

  -- entries to which nothing new was written
  pub kept_entries : (es fs : List (List ℕ × X)) (key : List ℕ) (old w : X) → Some old ≡ lookup (bytes_eq key) es → w ≡ old
      → fs ≡ set_value (bytes_eq key) es w → map_of fs ≡ map_of es
  kept_entries es fs key old w found is set = ap map_of (set ∙ ap (set_value (bytes_eq key) es) is ∙ set_value_same (bytes_eq key) es old (sym found))

-- entries in which an item became the version that was made of it, if one was made
pub made_entries : (es fs : List (List ℕ × Item)) (key : List ℕ) (old w : Item) (made : Option Item)
    → Some old ≡ lookup (bytes_eq key) es → w ≡ unwrap_or made old → fs ≡ set_value (bytes_eq key) es w
    → ((q : List ℕ) → lookup (bytes_eq q) fs ≡ cond (bytes_eq key q) (Some w) (lookup (bytes_eq q) es))
    → map_of fs ≡ with_made (map_of es) key made
made_entries es fs key old w (Some x) found is set h = put_entries es fs key w h ∙ ap (finite_map.insert (map_of es) key) is
made_entries es fs key old w None found is set h = kept_entries es fs key old w found is set
