-- The fields of a template: what is read was written, and what was written is read again.
use Rattle.std.proofs.Common.{◌≡◌, ℕ, zero, suc, ◌+◌, ◌^◌, ◌<◌, ◌≤◌, true, ltb, leb, eqb, ◌&&◌, Option, Some, List}
use Rattle.std.proofs.Common.{[], ◌∷◌, ◌++◌, length, slice_get, refl, sym, ap, subst, ◌∙◌, append_assoc, arith}
use Rattle.std.proofs.lemmas.Bool.{ltb-true, lt-ltb, leb-true, eqb-true, and_parts}
use Rattle.std.specs.Int.{w64, to_be_bytes}
use Rattle.mc_protocol.specs.declared.limits.TheConstants.{SCRIPT_BODY_LIMIT}
use Rattle.mc_protocol.specs.{declared.request.Fields.Fields, declared.request.Verb.Verb, Words.all_verbs, Decimals.MAX_32, Decimals.MAX_64}
use Rattle.mc_protocol.specs.declared.request.Fields.TheVariants as fields
use Rattle.mc_protocol.specs.declared.request.Verb.TheVariants as verb
use Rattle.mc_script.specs.Chains.{◌>>=◌}
use Rattle.mc_script.specs.Templates.{is_nothing, is_variable, is_amount, is_empty, has_fields}
use Rattle.mc_script.specs.{declared.limits.TheConstants.VARIABLES_LIMIT, declared.step.Argument.Argument, ScriptWords.is_body, ScriptWords.are_body_bytes}
use Rattle.mc_script.specs.{declared.version.Version.Version, Versions.flags_limit}
use Rattle.mc_script.specs.declared.step.Argument.TheVariants as argument
use Rattle.mc_image.specs.Image.{verb_index, argument_bytes, mask_width, mask_bytes}
use Rattle.mc_image.specs.ImageReading.{byte_in, number_in, small_in, verb_at, verb_in, argument_of, argument_in, mask_in, masks_in}
use Rattle.mc_image.specs.{declared.read_template.Masks.Masks, ImageWriting.FitsMask}
use Rattle.mc_image.proofs.FieldLaws.{then-some, only-then, some-same, IsBytes, Takes, Takes-then, byte_takes, byte_again}
use Rattle.mc_image.proofs.FieldLaws.{wide64, wide-mask, number_takes, number_again, small_takes, small_again}

-- ---- verbs

-- the positions of these verbs, the first of which has this one
abbrev Numbered : ℕ → List Verb → Type 0
Numbered n [] = Unit {0}
Numbered n (v ∷ verbs) = (verb_index v ≡ n) × Numbered (suc n) verbs

all-numbered : Numbered 0 all_verbs
all-numbered = (refl, (refl, (refl, (refl, (refl, (refl, (refl, (refl, (refl, (refl, (refl, (refl, tt))))))))))))

index-of : (n index : ℕ) (v : Verb) (verbs : List Verb) → Numbered n verbs → slice_get verbs index ≡ Some v → verb_index v ≡ n + index
index-of n index v [] h e = absurd (cc)
index-of n zero v (u ∷ verbs) h e = ap verb_index (sym (some-same u v e)) ∙ h.0 ∙ omega arith
index-of n (suc index) v (u ∷ verbs) h e = index-of (suc n) index v verbs h.1 e ∙ omega arith

verb-index : (index : ℕ) (v : Verb) → verb_at index ≡ Some v → verb_index v ≡ index
unfolding verb_at
verb-index index v e = index-of 0 index v all_verbs all-numbered e ∙ omega arith

verb-at : (v : Verb) → verb_at (verb_index v) ≡ Some v
unfolding verb_at
verb-at verb.Set = refl
verb-at verb.Add = refl
verb-at verb.Replace = refl
verb-at verb.Append = refl
verb-at verb.Prepend = refl
verb-at verb.Cas = refl
verb-at verb.Get = refl
verb-at verb.Gets = refl
verb-at verb.Incr = refl
verb-at verb.Decr = refl
verb-at verb.Delete = refl
verb-at verb.Touch = refl

pub verb_takes : (bytes : List ℕ) (x : Verb × List ℕ) → IsBytes bytes → verb_in bytes ≡ Some x → Takes bytes (verb_index x.0 ∷ []) x.1
unfolding verb_in
verb_takes bytes x fits e =
    let n = then-some (byte_in bytes) (λ n. verb_at n.0 >>= λ v. Some (v, n.1)) x e in
    let v = then-some (verb_at n.0.0) (λ v. Some (v, n.0.1)) x n.2 in
    let t = byte_takes bytes n.0 fits n.1 in
    let index = verb-index n.0.0 v.0 v.1 in
    subst (λ (y : Verb × List ℕ). Takes bytes (verb_index y.0 ∷ []) y.1) (some-same (v.0, n.0.1) x v.2)
    (subst (λ (i : ℕ). Takes bytes (i ∷ []) n.0.1) (sym index) t.0)

pub verb_again : (v : Verb) (rest : List ℕ) → verb_in (verb_index v ∷ rest) ≡ Some (v, rest)
unfolding verb_in
verb_again v rest = rw (byte_again (verb_index v) rest, verb-at v) refl

-- ---- arguments

argument-shape : (vars sort number : ℕ) (a : Argument) → sort ≤ 2 → argument_of vars sort number ≡ Some a → argument_bytes a ≡ sort ∷ to_be_bytes w64 number
unfolding argument_of
argument-shape vars zero number a le e =
    let g = only-then (eqb number 0) (Some argument.Nothing) a e in
    let none : argument_bytes a ≡ 0 ∷ to_be_bytes w64 0 = ap argument_bytes (sym (some-same argument.Nothing a g.1)) in
    none ∙ ap (λ (n : ℕ). 0 ∷ to_be_bytes w64 n) (sym (eqb-true number 0 g.0))
argument-shape vars (suc zero) number a le e = ap argument_bytes (sym (some-same (argument.Number number) a e))
argument-shape vars (suc (suc zero)) number a le e =
    let g = only-then (ltb number vars) (Some (argument.Variable number)) a e in
    ap argument_bytes (sym (some-same (argument.Variable number) a g.1))
argument-shape vars (suc (suc (suc n))) number a le e = absurd (omega arith)

pub argument_takes : (vars : ℕ) (bytes : List ℕ) (x : Option Argument × List ℕ) → IsBytes bytes → argument_in vars bytes ≡ Some x
    → (IsBytes x.1) × ((a : Argument) → x.0 ≡ Some a → Takes bytes (argument_bytes a) x.1)
unfolding argument_in
argument_takes vars bytes x fits e =
    let s = then-some (small_in 0 2 bytes) (λ sort. number_in w64 sort.1 >>= λ n. Some (argument_of vars sort.0 n.0, n.1)) x e in
    let n = then-some (number_in w64 s.0.1) (λ n. Some (argument_of vars s.0.0 n.0, n.1)) x s.2 in
    let t = small_takes 0 2 bytes s.0 fits s.1 in
    let u = number_takes w64 (2 ^ 64) wide64 s.0.1 n.0 t.0.fits n.1 in
    let same = some-same (argument_of vars s.0.0 n.0.0, n.0.1) x n.2 in
    let both = Takes-then bytes (s.0.0 ∷ []) s.0.1 (to_be_bytes w64 n.0.0) n.0.1 t.0 u.0 in
    subst (λ (y : Option Argument × List ℕ). (IsBytes y.1) × ((a : Argument) → y.0 ≡ Some a → Takes bytes (argument_bytes a) y.1)) same
    (u.0.fits, λ a is. subst (λ (text : List ℕ). Takes bytes text n.0.1) (sym (argument-shape vars s.0.0 n.0.0 a t.2 is)) both)

-- nothing, a number of 64 bits, or a variable below vars
abbrev pub FitsArgument : ℕ → Argument → Type 0
FitsArgument vars argument.Nothing = Unit {0}
FitsArgument vars (argument.Number n) = n < 2 ^ 64
FitsArgument vars (argument.Variable v) = v < vars

pub argument_again : (vars : ℕ) (a : Argument) (rest : List ℕ) → vars ≤ VARIABLES_LIMIT → FitsArgument vars a
    → argument_in vars (argument_bytes a ++ rest) ≡ Some (Some a, rest)
unfolding argument_in argument_of
argument_again vars argument.Nothing rest few h =
    rw (small_again 0 2 0 (to_be_bytes w64 0 ++ rest) (omega arith) (omega arith), number_again w64 (2 ^ 64) wide64 0 rest (omega arith)) refl
argument_again vars (argument.Number n) rest few h =
    rw (small_again 0 2 1 (to_be_bytes w64 n ++ rest) (omega arith) (omega arith), number_again w64 (2 ^ 64) wide64 n rest h) refl
argument_again vars (argument.Variable v) rest few h =
    rw (
      small_again 0 2 2 (to_be_bytes w64 v ++ rest) (omega arith) (omega arith),
      number_again w64 (2 ^ 64) wide64 v rest (omega (arith, few, h)),
      lt-ltb v vars h,
    ) refl

-- ---- masks

abbrev pub masks_text : Version → Masks → List ℕ
masks_text v m = mask_bytes v m.require_set ++ mask_bytes v m.require_clear ++ mask_bytes v m.sets ++ mask_bytes v m.clears

mask_takes : (v : Version) (bytes : List ℕ) (x : ℕ × List ℕ) → IsBytes bytes → mask_in v bytes ≡ Some x → Takes bytes (mask_bytes v x.0) x.1
unfolding mask_in
mask_takes v bytes x fits e = (number_takes (mask_width v) (2 ^ flags_limit v) (wide-mask v) bytes x fits e).0

mask_again : (v : Version) (mask : ℕ) (rest : List ℕ) → FitsMask v mask → mask_in v (mask_bytes v mask ++ rest) ≡ Some (mask, rest)
unfolding mask_in
mask_again v mask rest fits = number_again (mask_width v) (2 ^ flags_limit v) (wide-mask v) mask rest fits

pub masks_take : (v : Version) (bytes : List ℕ) (x : Masks × List ℕ) → IsBytes bytes → masks_in v bytes ≡ Some x → Takes bytes (masks_text v x.0) x.1
unfolding masks_in
masks_take v bytes x fits e =
    let a = then-some (mask_in v bytes) _ x e in
    let b = then-some (mask_in v a.0.1) _ x a.2 in
    let c = then-some (mask_in v b.0.1) _ x b.2 in
    let d = then-some (mask_in v c.0.1) _ x c.2 in
    let ta = mask_takes v bytes a.0 fits a.1 in
    let tb = mask_takes v a.0.1 b.0 ta.fits b.1 in
    let tc = mask_takes v b.0.1 c.0 tb.fits c.1 in
    let td = mask_takes v c.0.1 d.0 tc.fits d.1 in
    let two = Takes-then bytes (mask_bytes v a.0.0) a.0.1 (mask_bytes v b.0.0) b.0.1 ta tb in
    let three = Takes-then bytes (mask_bytes v a.0.0 ++ mask_bytes v b.0.0) b.0.1 (mask_bytes v c.0.0) c.0.1 two tc in
    let four = Takes-then bytes (mask_bytes v a.0.0 ++ mask_bytes v b.0.0 ++ mask_bytes v c.0.0) c.0.1 (mask_bytes v d.0.0) d.0.1 three td in
    let made : Masks = record { require_set = a.0.0; require_clear = b.0.0; sets = c.0.0; clears = d.0.0 } in
    subst (λ (y : Masks × List ℕ). Takes bytes (masks_text v y.0) y.1) (some-same (made, d.0.1) x d.2) four

spread : (a b c d rest : List ℕ) → a ++ b ++ c ++ d ++ rest ≡ a ++ (b ++ (c ++ (d ++ rest)))
spread a b c d rest = simp append_assoc

pub masks_again : (v : Version) (m : Masks) (rest : List ℕ) → FitsMask v m.require_set → FitsMask v m.require_clear → FitsMask v m.sets → FitsMask v m.clears
    → masks_in v (masks_text v m ++ rest) ≡ Some (m, rest)
unfolding masks_in
masks_again v m rest a b c d =
    let sets = mask_bytes v m.require_set in
    let clears = mask_bytes v m.require_clear in
    let third = mask_bytes v m.sets in
    let last = mask_bytes v m.clears in
    ap (masks_in v) (spread sets clears third last rest)
    ∙ rw (
      mask_again v m.require_set (clears ++ (third ++ (last ++ rest))) a,
      mask_again v m.require_clear (third ++ (last ++ rest)) b,
      mask_again v m.sets (last ++ rest) c,
      mask_again v m.clears rest d,
    ) refl

-- ---- fields that a verb has

nothing-fits : (vars : ℕ) (a : Argument) → is_nothing a ≡ true → FitsArgument vars a
nothing-fits vars argument.Nothing e = tt
nothing-fits vars (argument.Number n) e = absurd (cc)
nothing-fits vars (argument.Variable v) e = absurd (cc)

variable-fits : (vars : ℕ) (a : Argument) → is_variable vars a ≡ true → FitsArgument vars a
variable-fits vars argument.Nothing e = tt
variable-fits vars (argument.Number n) e = absurd (cc)
variable-fits vars (argument.Variable v) e = ltb-true v vars e

amount-fits : (vars : ℕ) (a : Argument) → is_amount vars a ≡ true → FitsArgument vars a
amount-fits vars argument.Nothing e = tt
amount-fits vars (argument.Number n) e = omega (arith, leb-true n MAX_64 e)
amount-fits vars (argument.Variable v) e = ltb-true v vars e

short-body : (body : List ℕ) → is_body body ≡ true → length body ≤ SCRIPT_BODY_LIMIT
short-body body e = leb-true _ _ (and_parts (leb (length body) SCRIPT_BODY_LIMIT) (are_body_bytes body) e).0

no-body : (body : List ℕ) → is_empty body ≡ true → length body ≤ SCRIPT_BODY_LIMIT
no-body body e = omega (arith, eqb-true (length body) 0 e)

-- what the fields of an image need of these
pub record Suit (vars flags : ℕ) (a : Argument) (body : List ℕ) : Type 0 where
  pub flags_fit : flags < 2 ^ 32
  pub argument_fits : FitsArgument vars a
  pub body_fits : length body ≤ SCRIPT_BODY_LIMIT

pub fields-suit : (vars : ℕ) (f : Fields) (flags : ℕ) (a : Argument) (body : List ℕ) → has_fields vars f flags a body ≡ true → Suit vars flags a body
fields-suit vars fields.KeyAlone flags a body e =
    let p = and_parts (eqb flags 0 && is_nothing a) (is_empty body) e in
    let q = and_parts (eqb flags 0) (is_nothing a) p.0 in
    record { flags_fit = omega (arith, eqb-true flags 0 q.0); argument_fits = nothing-fits vars a q.1; body_fits = no-body body p.1 }
fields-suit vars fields.Expiry flags a body e =
    let p = and_parts (eqb flags 0 && is_nothing a) (is_empty body) e in
    let q = and_parts (eqb flags 0) (is_nothing a) p.0 in
    record { flags_fit = omega (arith, eqb-true flags 0 q.0); argument_fits = nothing-fits vars a q.1; body_fits = no-body body p.1 }
fields-suit vars fields.Item flags a body e =
    let p = and_parts (leb flags MAX_32 && is_nothing a) (is_body body) e in
    let q = and_parts (leb flags MAX_32) (is_nothing a) p.0 in
    record { flags_fit = omega (arith, leb-true flags MAX_32 q.0); argument_fits = nothing-fits vars a q.1; body_fits = short-body body p.1 }
fields-suit vars fields.Swap flags a body e =
    let p = and_parts (leb flags MAX_32 && is_variable vars a) (is_body body) e in
    let q = and_parts (leb flags MAX_32) (is_variable vars a) p.0 in
    record { flags_fit = omega (arith, leb-true flags MAX_32 q.0); argument_fits = variable-fits vars a q.1; body_fits = short-body body p.1 }
fields-suit vars fields.Amount flags a body e =
    let p = and_parts (eqb flags 0 && is_amount vars a) (is_empty body) e in
    let q = and_parts (eqb flags 0) (is_amount vars a) p.0 in
    record { flags_fit = omega (arith, eqb-true flags 0 q.0); argument_fits = amount-fits vars a q.1; body_fits = no-body body p.1 }
