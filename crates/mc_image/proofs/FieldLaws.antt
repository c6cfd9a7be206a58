-- A field that is read is the field that was written, and what was written is read again.
use Rattle.std.proofs.Common.{◌≡◌, ℕ, suc, ◌+◌, ◌^◌, ◌<◌, ◌≤◌, Bool, true, false, cond, ltb, leb, ◌&&◌, Option, Some, None, List, []}
use Rattle.std.proofs.Common.{◌∷◌, ◌++◌, length, get_or, take, drop, refl, sym, ap, subst, ◌∙◌, append_assoc, arith, inl, inr}
use Rattle.std.proofs.lemmas.Bool.{cases_lt, ltb-false, le-ltb, leb-true, le-leb, and_parts}
use Rattle.std.proofs.lemmas.List.{take_at, drop_at, take-append-drop, length-append, length-take, get_or-drop, get_or-take, get_or_past}
use Rattle.std.proofs.lemmas.Nat.{be_bytes_2, be_bytes_4, be_bytes_8, from_be_bytes-to_be_bytes_2, from_be_bytes-to_be_bytes_4, from_be_bytes-to_be_bytes_8}
use Rattle.std.specs.Int.{Width, w16, w32, w64, byte_len, from_be_bytes, to_be_bytes}
use Rattle.mc_script.specs.Chains.{◌>>=◌}
use Rattle.mc_script.specs.{declared.version.Version.Version, Versions.flags_limit}
use Rattle.mc_script.specs.declared.version.Version.TheVariants as version
use Rattle.mc_image.specs.Image.{mask_width, with_length}
use Rattle.mc_image.specs.ImageReading.{bytes_in, byte_in, number_in, small_in, sized_in}

-- ---- steps that gave a value

-- both steps gave one
pub then-some : {A B : Type 0} (x : Option A) (f : A → Option B) (y : B) → (x >>= f) ≡ Some y → (a : A) × (x ≡ Some a) × (f a ≡ Some y)
then-some (Some a) f y e = (a, refl, e)
then-some None f y e = absurd (cc)

pub only-then : {A : Type 0} (b : Bool) (x : Option A) (a : A) → cond b x None ≡ Some a → (b ≡ true) × (x ≡ Some a)
only-then true x a e = (refl, e)
only-then false x a e = absurd (cc)

pub only-else : {A : Type 0} (b : Bool) (x : Option A) (a : A) → cond b None x ≡ Some a → (b ≡ false) × (x ≡ Some a)
only-else true x a e = absurd (cc)
only-else false x a e = (refl, e)

pub some-same : {A : Type 0} (x y : A) → Some x ≡ Some y → x ≡ y
some-same x y e = cc

-- ---- bytes

abbrev pub IsBytes : List ℕ → Type 0
IsBytes bytes = (i : ℕ) → get_or bytes i 0 < 256

IsBytes-drop : (n : ℕ) (bytes : List ℕ) → IsBytes bytes → IsBytes (drop n bytes)
IsBytes-drop n bytes h i = rw get_or-drop (h (n + i))

IsBytes-take : (n : ℕ) (bytes : List ℕ) → IsBytes bytes → IsBytes (take n bytes)
IsBytes-take n bytes h i =
    elim (cases_lt i n) [
      | inl lt ↦ rw (get_or-take n bytes i 0 lt) (h i)
      | inr le ↦ rw (get_or_past (take n bytes) i 0 (omega (arith, length-take n bytes))) (omega arith)
    ]

-- what a reader took from the front
pub record Takes (bytes text rest : List ℕ) : Type 0 where
  pub parts : bytes ≡ text ++ rest
  pub fits : IsBytes rest

pub Takes-then : (a x b y c : List ℕ) → Takes a x b → Takes b y c → Takes a (x ++ y) c
Takes-then a x b y c p q = record { parts = p.parts ∙ ap (λ (t : List ℕ). x ++ t) q.parts ∙ sym (append_assoc x y c); fits = q.fits }

pub bytes_take : (n : ℕ) (bytes : List ℕ) (x : List ℕ × List ℕ) → IsBytes bytes → bytes_in n bytes ≡ Some x
    → Takes bytes x.0 x.1 × (length x.0 ≡ n) × IsBytes x.0
unfolding bytes_in
bytes_take n bytes x fits e =
    let made : List ℕ × List ℕ = (take n bytes, drop n bytes) in
    let g = only-else (ltb (length bytes) n) (Some made) x e in
    let long : n ≤ length bytes = ltb-false _ _ g.0 in
    subst (λ (y : List ℕ × List ℕ). Takes bytes y.0 y.1 × (length y.0 ≡ n) × IsBytes y.0) (some-same made x g.1)
    (record { parts = sym (take-append-drop n bytes); fits = IsBytes-drop n bytes fits }, omega (arith, length-take n bytes), IsBytes-take n bytes fits)

pub bytes_again : (n : ℕ) (text rest : List ℕ) → length text ≡ n → bytes_in n (text ++ rest) ≡ Some (text, rest)
unfolding bytes_in
bytes_again n text rest len =
    let long : ltb (length (text ++ rest)) n ≡ false = le-ltb _ _ (omega (arith, len, length-append text rest)) in
    rw (long, take_at text rest n len, drop_at text rest n len) refl

pub byte_takes : (bytes : List ℕ) (x : ℕ × List ℕ) → IsBytes bytes → byte_in bytes ≡ Some x → Takes bytes (x.0 ∷ []) x.1 × (x.0 < 256)
unfolding byte_in
byte_takes [] x fits e = absurd (cc)
byte_takes (byte ∷ bytes) x fits e =
    subst (λ (y : ℕ × List ℕ). Takes (byte ∷ bytes) (y.0 ∷ []) y.1 × (y.0 < 256)) (some-same (byte, bytes) x e)
    (record { parts = refl; fits = λ i. fits (suc i) }, fits 0)

pub byte_again : (byte : ℕ) (rest : List ℕ) → byte_in (byte ∷ rest) ≡ Some (byte, rest)
unfolding byte_in
byte_again byte rest = refl

-- ---- numbers

pub record IsWide (w : Width) (limit : ℕ) : Type 0 where
  pub len : (n : ℕ) → length (to_be_bytes w n) ≡ byte_len w
  pub back : (bytes : List ℕ) → length bytes ≡ byte_len w → IsBytes bytes → to_be_bytes w (from_be_bytes w bytes) ≡ bytes
  pub again : (n : ℕ) → n < limit → from_be_bytes w (to_be_bytes w n) ≡ n
  pub below : (bytes : List ℕ) → IsBytes bytes → from_be_bytes w bytes < limit

pub wide16 : IsWide w16 (2 ^ 16)
wide16 = record {
  len = λ n. refl;
  back = λ bytes len fits. be_bytes_2 bytes _ len fits refl;
  again = λ n lt. from_be_bytes-to_be_bytes_2 n lt;
  below = λ bytes fits. omega (arith, fits 0, fits 1);
}

pub wide32 : IsWide w32 (2 ^ 32)
wide32 = record {
  len = λ n. refl;
  back = λ bytes len fits. be_bytes_4 bytes _ len fits refl;
  again = λ n lt. from_be_bytes-to_be_bytes_4 n lt;
  below = λ bytes fits. omega (arith, fits 0, fits 1, fits 2, fits 3);
}

pub wide64 : IsWide w64 (2 ^ 64)
wide64 = record {
  len = λ n. refl;
  back = λ bytes len fits. be_bytes_8 bytes _ len fits refl;
  again = λ n lt. from_be_bytes-to_be_bytes_8 n lt;
  below = λ bytes fits. omega (arith, fits 0, fits 1, fits 2, fits 3, fits 4, fits 5, fits 6, fits 7);
}

-- a mask has a bit for each flag
pub wide-mask : (v : Version) → IsWide (mask_width v) (2 ^ flags_limit v)
wide-mask version.One = wide32
wide-mask version.Two = wide64

pub number_takes : (w : Width) (limit : ℕ) (wide : IsWide w limit) (bytes : List ℕ) (x : ℕ × List ℕ) → IsBytes bytes → number_in w bytes ≡ Some x
    → Takes bytes (to_be_bytes w x.0) x.1 × (x.0 < limit)
unfolding number_in
number_takes w limit wide bytes x fits e =
    let b = then-some (bytes_in (byte_len w) bytes) (λ b. Some (from_be_bytes w b.0, b.1)) x e in
    let t = bytes_take (byte_len w) bytes b.0 fits b.1 in
    let front : to_be_bytes w (from_be_bytes w b.0.0) ≡ b.0.0 = wide.back b.0.0 t.1 t.2 in
    let taken : Takes bytes (to_be_bytes w (from_be_bytes w b.0.0)) b.0.1 = subst (λ (text : List ℕ). Takes bytes text b.0.1) (sym front) t.0 in
    subst (λ (y : ℕ × List ℕ). Takes bytes (to_be_bytes w y.0) y.1 × (y.0 < limit)) (some-same (from_be_bytes w b.0.0, b.0.1) x b.2)
    (taken, wide.below b.0.0 t.2)

pub number_again : (w : Width) (limit : ℕ) (wide : IsWide w limit) (n : ℕ) (rest : List ℕ) → n < limit → number_in w (to_be_bytes w n ++ rest) ≡ Some (n, rest)
unfolding number_in
number_again w limit wide n rest lt =
    rw (bytes_again (byte_len w) (to_be_bytes w n) rest (wide.len n), wide.again n lt) refl

pub small_takes : (least greatest : ℕ) (bytes : List ℕ) (x : ℕ × List ℕ) → IsBytes bytes → small_in least greatest bytes ≡ Some x
    → Takes bytes (x.0 ∷ []) x.1 × (least ≤ x.0) × (x.0 ≤ greatest)
unfolding small_in
small_takes least greatest bytes x fits e =
    let b = then-some (byte_in bytes) (λ n. cond (leb least n.0 && leb n.0 greatest) (Some n) None) x e in
    let g = only-then (leb least b.0.0 && leb b.0.0 greatest) (Some b.0) x b.2 in
    let within = and_parts (leb least b.0.0) (leb b.0.0 greatest) g.0 in
    let t = byte_takes bytes b.0 fits b.1 in
    subst (λ (y : ℕ × List ℕ). Takes bytes (y.0 ∷ []) y.1 × (least ≤ y.0) × (y.0 ≤ greatest)) (some-same b.0 x g.1)
    (t.0, leb-true _ _ within.0, leb-true _ _ within.1)

pub small_again : (least greatest n : ℕ) (rest : List ℕ) → least ≤ n → n ≤ greatest → small_in least greatest (n ∷ rest) ≡ Some (n, rest)
unfolding small_in
small_again least greatest n rest low high = rw (byte_again n rest, le-leb least n low, le-leb n greatest high) refl

-- ---- bytes after their number

pub sized_takes : (least greatest : ℕ) (bytes : List ℕ) (x : List ℕ × List ℕ) → IsBytes bytes → sized_in least greatest bytes ≡ Some x
    → Takes bytes (with_length x.0) x.1
unfolding sized_in
sized_takes least greatest bytes x fits e =
    let n = then-some (small_in least greatest bytes) (λ n. bytes_in n.0 n.1) x e in
    let t = small_takes least greatest bytes n.0 fits n.1 in
    let b = bytes_take n.0.0 n.0.1 x t.0.fits n.2 in
    subst (λ (k : ℕ). Takes bytes (k ∷ x.0) x.1) (sym b.1) (Takes-then bytes (n.0.0 ∷ []) n.0.1 x.0 x.1 t.0 b.0)

pub sized_again : (least greatest : ℕ) (text rest : List ℕ) → least ≤ length text → length text ≤ greatest
    → sized_in least greatest (with_length text ++ rest) ≡ Some (text, rest)
unfolding sized_in
sized_again least greatest text rest low high =
    rw (small_again least greatest (length text) (text ++ rest) low high) (bytes_again (length text) text rest refl)
