-- Reading items one after another, as a loop does.
use Rattle.std.proofs.Common.{◌≡◌, ℕ, suc, ◌-◌, ◌+◌, ◌≤◌, ◌<◌, Some, None, List, [], ◌∷◌, ◌++◌, refl, sym, ◌∙◌, arith}
use Rattle.mc_image.specs.ImageReading.{Field, items_in}

-- an item more was read
pub goes_on : {A : Type 0} (f : List A → List ℕ → Field A) (count i : ℕ) (items : List A) (bytes : List ℕ) (x : A) (after : List ℕ) (total : Field (List A))
    → i < count → f items bytes ≡ Some (x, after) → items_in f (count - i) items bytes ≡ total → items_in f (count - (i + 1)) (items ++ x ∷ []) after ≡ total
unfolding items_in
goes_on f count i items bytes x after total lt h so_far =
    let k : count - i ≡ suc (count - (i + 1)) = omega arith in
    let one : items_in f (count - i) items bytes ≡ items_in f (count - (i + 1)) (items ++ x ∷ []) after = rw (k, h) refl in
    sym one ∙ so_far

-- an item couldn't be read
pub ends : {A : Type 0} (f : List A → List ℕ → Field A) (count i : ℕ) (items : List A) (bytes : List ℕ) (total : Field (List A))
    → i < count → f items bytes ≡ None → items_in f (count - i) items bytes ≡ total → total ≡ None
unfolding items_in
ends f count i items bytes total lt h so_far =
    let k : count - i ≡ suc (count - (i + 1)) = omega arith in
    let one : items_in f (count - i) items bytes ≡ None = rw (k, h) refl in
    sym so_far ∙ one

pub is_done : {A : Type 0} (f : List A → List ℕ → Field A) (count i : ℕ) (items : List A) (bytes : List ℕ) (total : Field (List A))
    → count ≤ i → items_in f (count - i) items bytes ≡ total → total ≡ Some (items, bytes)
unfolding items_in
is_done f count i items bytes total le so_far =
    let k : count - i ≡ 0 = omega arith in
    let one : items_in f (count - i) items bytes ≡ Some (items, bytes) = rw k refl in
    sym so_far ∙ one
