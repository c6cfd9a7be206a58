-- What a cache holds.
use Rattle.std.specs.{Prelude.ℕ, Prelude.List, Prelude.refl, Coded.Coded, Coded.code_by, Coded.coded×, Coded.coded_ℕ, Coded.coded_list}
use Rattle.std.specs.{Ordering.nat_cmp, Cmp.Lexicographic.slice_cmp}
use Rattle.std.specs.FinMap as finite_map
use Rattle.mc_model.specs.declared.cache.Item.{Item}

-- a finite map from keys to items
abbrev pub Contents : Type 0
Contents = finite_map.FinMap (slice_cmp nat_cmp) Item

-- an item is stored as its flags, its body and its number
abbrev pub coded_item : Coded Item
coded_item =
    code_by (ℕ × (List ℕ × ℕ)) (coded× coded_ℕ (coded× (coded_list coded_ℕ) coded_ℕ))
    (λ i. (i.flags, (i.body, i.number))) (λ p. record { flags = p.0; body = p.1.0; number = p.1.1 }) (λ _. refl)

abbrev pub coded_contents : Coded Contents
coded_contents = finite_map.code (coded_list coded_ℕ) coded_item

-- what a list of keys and items holds: of a key that it has twice, the first item
abbrev pub contents_of : List (List ℕ × Item) → Contents
contents_of = finite_map.from_entries
