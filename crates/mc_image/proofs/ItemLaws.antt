-- Items after their number: what is read was written, and what was written is read again.
use Rattle.std.proofs.Common.{◌≡◌, ℕ, zero, suc, ◌≤◌, Some, List, [], ◌∷◌, ◌++◌, length, refl, sym, ap, subst, ◌∙◌, append_assoc}
use Rattle.std.proofs.{lemmas.List.append-nil, lemmas.List.Concat.flat_map-cons}
use Rattle.std.specs.List.{flat_map}
use Rattle.mc_image.specs.{Image.with_count, ImageReading.Field, ImageReading.small_in, ImageReading.items_in, ImageReading.counted_in}
use Rattle.mc_image.proofs.FieldLaws.{then-some, some-same, IsBytes, Takes, Takes-then, small_takes, small_again}

-- an item is read where it was written, and keeps what the items keep
pub record IsItem {A : Type 0} (item_in : List A → List ℕ → Field A) (text : A → List ℕ) (P : List A → Type 0) : Type 0 where
  pub takes : (items : List A) (bytes : List ℕ) (x : A × List ℕ) → IsBytes bytes → P items → item_in items bytes ≡ Some x
      → Takes bytes (text x.0) x.1 × P (items ++ x.0 ∷ [])
  pub again : (items : List A) (x : A) (others : List A) (rest : List ℕ) → P (items ++ x ∷ others) → item_in items (text x ++ rest) ≡ Some (x, rest)

-- what was read after the items
record Follow {A : Type 0} (text : A → List ℕ) (n : ℕ) (items : List A) (bytes : List ℕ) (y : List A × List ℕ) : Type 0 where
  xs : List A
  all : y.0 ≡ items ++ xs
  taken : Takes bytes (flat_map text xs) y.1
  count : length xs ≡ n

push-assoc : {A : Type 0} (items : List A) (x : A) (xs : List A) → (items ++ x ∷ []) ++ xs ≡ items ++ x ∷ xs
push-assoc items x xs = append_assoc items (x ∷ []) xs

items_take : {A : Type 0} (f : List A → List ℕ → Field A) (text : A → List ℕ) (P : List A → Type 0) (law : IsItem f text P)
    → (n : ℕ) (items : List A) (bytes : List ℕ) (y : List A × List ℕ) → IsBytes bytes → P items → items_in f n items bytes ≡ Some y
    → Follow text n items bytes y × P y.0
unfolding items_in
items_take {A} f text P law zero items bytes y fits p e =
    subst (λ (z : List A × List ℕ). Follow text 0 items bytes z × P z.0) (some-same (items, bytes) y e)
    (record { xs = []; all = sym (append-nil items); taken = record { parts = refl; fits = fits }; count = refl }, p)
items_take {A} f text P law (suc n) items bytes y fits p e =
    let a = then-some (f items bytes) (λ x. items_in f n (items ++ x.0 ∷ []) x.1) y e in
    let first = law.takes items bytes a.0 fits p a.1 in
    let others = items_take f text P law n (items ++ a.0.0 ∷ []) a.0.1 y first.0.fits first.1 a.2 in
    let o = others.0 in
    let both = Takes-then bytes (text a.0.0) a.0.1 (flat_map text o.xs) y.1 first.0 o.taken in (
      record {
        xs = a.0.0 ∷ o.xs;
        all = o.all ∙ push-assoc items a.0.0 o.xs;
        taken = rw (flat_map-cons text a.0.0 o.xs) both;
        count = ap suc o.count;
      },
      others.1,
    )

items_again : {A : Type 0} (f : List A → List ℕ → Field A) (text : A → List ℕ) (P : List A → Type 0) (law : IsItem f text P)
    → (xs : List A) (items : List A) (rest : List ℕ) → P (items ++ xs) → items_in f (length xs) items (flat_map text xs ++ rest) ≡ Some (items ++ xs, rest)
unfolding items_in
items_again {A} f text P law [] items rest p = ap (λ (all : List A). Some (all, rest)) (sym (append-nil items))
items_again {A} f text P law (x ∷ xs) items rest p =
    let regrouped : flat_map text (x ∷ xs) ++ rest ≡ text x ++ (flat_map text xs ++ rest) =
    ap (λ (t : List ℕ). t ++ rest) (flat_map-cons text x xs) ∙ append_assoc (text x) (flat_map text xs) rest in
    let first = law.again items x xs (flat_map text xs ++ rest) p in
    let others = items_again f text P law xs (items ++ x ∷ []) rest (subst P (sym (push-assoc items x xs)) p) in
    ap (items_in f (suc (length xs)) items) regrouped ∙ rw first (others ∙ ap (λ (all : List A). Some (all, rest)) (push-assoc items x xs))

pub counted_takes : {A : Type 0} (f : List A → List ℕ → Field A) (text : A → List ℕ) (P : List A → Type 0) (law : IsItem f text P)
    → (least greatest : ℕ) (bytes : List ℕ) (y : List A × List ℕ) → IsBytes bytes → P [] → counted_in least greatest f bytes ≡ Some y
    → Takes bytes (with_count text y.0) y.1 × (least ≤ length y.0) × (length y.0 ≤ greatest) × P y.0
counted_takes {A} f text P law least greatest bytes y fits p e =
    let n = then-some (small_in least greatest bytes) (λ n. items_in f n.0 [] n.1) y e in
    let t = small_takes least greatest bytes n.0 fits n.1 in
    let others = items_take f text P law n.0.0 [] n.0.1 y t.0.fits p n.2 in
    let o = others.0 in
    let count : n.0.0 ≡ length y.0 = sym o.count ∙ ap length (sym o.all) in
    let both = Takes-then bytes (n.0.0 ∷ []) n.0.1 (flat_map text o.xs) y.1 t.0 o.taken in
    let same : Takes bytes (n.0.0 ∷ flat_map text y.0) y.1 = subst (λ (xs : List A). Takes bytes (n.0.0 ∷ flat_map text xs) y.1) (sym o.all) both in (
      subst (λ (k : ℕ). Takes bytes (k ∷ flat_map text y.0) y.1) count same,
      subst (λ (k : ℕ). least ≤ k) count t.1,
      subst (λ (k : ℕ). k ≤ greatest) count t.2,
      others.1,
    )

pub counted_again : {A : Type 0} (f : List A → List ℕ → Field A) (text : A → List ℕ) (P : List A → Type 0) (law : IsItem f text P)
    → (least greatest : ℕ) (xs : List A) (rest : List ℕ) → P xs → least ≤ length xs → length xs ≤ greatest
    → counted_in least greatest f (with_count text xs ++ rest) ≡ Some (xs, rest)
counted_again f text P law least greatest xs rest p low high =
    rw (small_again least greatest (length xs) (flat_map text xs ++ rest) low high) (items_again f text P law xs [] rest p)
