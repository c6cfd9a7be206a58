-- Templates: what is read was written, and may stand; and what was written is read again.
use Rattle.std.proofs.Common.{◌≡◌, ℕ, ◌^◌, ◌<◌, ◌≤◌, true, ltb, eqb, ◌&&◌, Option, Some, None, List, []}
use Rattle.std.proofs.Common.{◌∷◌, ◌++◌, length, All, refl, ap, subst, ◌∙◌, append_assoc, arith}
use Rattle.std.proofs.lemmas.Bool.{ltb-true, lt-ltb, eqb-true, eq-eqb, and_parts}
use Rattle.std.proofs.lemmas.List.Elements.{All-nil, All-push, All-head, All-tail}
use Rattle.std.specs.{Int.w32, Int.to_be_bytes, Int.Bits.bit_and}
use Rattle.mc_protocol.specs.{Fields.fields_of, declared.request.Verb.Verb, declared.limits.TheConstants.SCRIPT_BODY_LIMIT}
use Rattle.mc_script.specs.{declared.limits.TheConstants.VARIABLES_LIMIT, declared.step.Argument.Argument, declared.step.Template.Template}
use Rattle.mc_script.specs.{declared.version.Version.Version, Templates.has_fields, Templates.IsTemplate, Versions.flags_limit}
use Rattle.mc_code.specs.declared.limits.TheConstants.{TEMPLATES_LIMIT}
use Rattle.mc_image.specs.declared.read_template.Masks.{Masks}
use Rattle.mc_image.specs.Image.{verb_index, argument_bytes, masks_bytes, template_bytes, with_length, with_count}
use Rattle.mc_image.specs.ImageReading.{byte_in, number_in, sized_in, verb_in, argument_in, masks_in, template_of}
use Rattle.mc_image.specs.ImageReading.{are_masks, is_template, template_if_valid, template_in, templates_in}
use Rattle.mc_image.proofs.FieldLaws.{then-some, only-then, some-same, IsBytes, Takes, Takes-then, byte_takes, byte_again}
use Rattle.mc_image.proofs.FieldLaws.{wide32, number_takes, number_again, sized_takes, sized_again}
use Rattle.mc_image.proofs.TemplateFields.{verb_takes, verb_again, argument_takes, argument_again, masks_text, masks_take, masks_again, fields-suit}
use Rattle.mc_image.proofs.{ItemLaws.IsItem, ItemLaws.counted_takes, ItemLaws.counted_again, ImageRoom.mask-fits}

-- ---- the test

template-tested : (keys flags vars : ℕ) (t : Template) → is_template keys flags vars t ≡ true → IsTemplate keys flags vars t
unfolding is_template
template-tested keys flags vars t e =
    let p = and_parts (ltb t.key keys && has_fields vars (fields_of t.verb) t.flags t.argument t.body) (are_masks flags t) e in
    let q = and_parts (ltb t.key keys) (has_fields vars (fields_of t.verb) t.flags t.argument t.body) p.0 in
    let m6 = and_parts _ (eqb (bit_and t.sets t.clears) 0) p.1 in
    let m5 = and_parts _ (eqb (bit_and t.require_set t.require_clear) 0) m6.0 in
    let m4 = and_parts _ (ltb t.clears (2 ^ flags)) m5.0 in
    let m3 = and_parts _ (ltb t.sets (2 ^ flags)) m4.0 in
    let m2 = and_parts (ltb t.require_set (2 ^ flags)) (ltb t.require_clear (2 ^ flags)) m3.0 in
    record {
      key = ltb-true _ _ q.0;
      fields = q.1;
      require_set = ltb-true _ _ m2.0;
      require_clear = ltb-true _ _ m2.1;
      sets = ltb-true _ _ m3.1;
      clears = ltb-true _ _ m4.1;
      needs_apart = eqb-true _ _ m5.1;
      changes_apart = eqb-true _ _ m6.1;
    }

template-passes : (keys flags vars : ℕ) (t : Template) → IsTemplate keys flags vars t → is_template keys flags vars t ≡ true
unfolding is_template
template-passes keys flags vars t h =
    rw (
      lt-ltb t.key keys h.key,
      h.fields,
      lt-ltb t.require_set (2 ^ flags) h.require_set,
      lt-ltb t.require_clear (2 ^ flags) h.require_clear,
      lt-ltb t.sets (2 ^ flags) h.sets,
      lt-ltb t.clears (2 ^ flags) h.clears,
      eq-eqb (bit_and t.require_set t.require_clear) 0 h.needs_apart,
      eq-eqb (bit_and t.sets t.clears) 0 h.changes_apart,
    ) refl

-- ---- one template

record Allows (keys flags vars : ℕ) (v : Verb) (key item_flags : ℕ) (o : Option Argument) (body : List ℕ) (masks : Masks) (t : Template) : Type 0 where
  a : Argument
  is : o ≡ Some a
  made : template_of v key item_flags a body masks ≡ t
  stands : IsTemplate keys flags vars t

allowed-some : (keys flags vars : ℕ) (v : Verb) (key item_flags : ℕ) (o : Option Argument) (body : List ℕ) (masks : Masks) (t : Template)
    → template_if_valid keys flags vars v key item_flags o body masks ≡ Some t → Allows keys flags vars v key item_flags o body masks t
unfolding template_if_valid
allowed-some keys flags vars v key item_flags None body masks t e = absurd (cc)
allowed-some keys flags vars v key item_flags (Some a) body masks t e =
    let made = template_of v key item_flags a body masks in
    let g = only-then (is_template keys flags vars made) (Some made) t e in
    let same = some-same made t g.1 in
    record { a = a; is = refl; made = same; stands = subst (IsTemplate keys flags vars) same (template-tested keys flags vars made g.0) }

template_takes : (w : Version) (keys flags vars : ℕ) (bytes : List ℕ) (x : Template × List ℕ) → IsBytes bytes → template_in w keys flags vars bytes ≡ Some x
    → Takes bytes (template_bytes w x.0) x.1 × IsTemplate keys flags vars x.0
unfolding template_in
template_takes w keys flags vars bytes x fits e =
    let v = then-some (verb_in bytes) _ x e in
    let k = then-some (byte_in v.0.1) _ x v.2 in
    let f = then-some (number_in w32 k.0.1) _ x k.2 in
    let a = then-some (argument_in vars f.0.1) _ x f.2 in
    let b = then-some (sized_in 0 SCRIPT_BODY_LIMIT a.0.1) _ x a.2 in
    let m = then-some (masks_in w b.0.1) _ x b.2 in
    let t = then-some (template_if_valid keys flags vars v.0.0 k.0.0 f.0.0 a.0.0 b.0.0 m.0.0) _ x m.2 in
    let h = allowed-some keys flags vars v.0.0 k.0.0 f.0.0 a.0.0 b.0.0 m.0.0 t.0 t.1 in
    let tv = verb_takes bytes v.0 fits v.1 in
    let tk = byte_takes v.0.1 k.0 tv.fits k.1 in
    let tf = number_takes w32 (2 ^ 32) wide32 k.0.1 f.0 tk.0.fits f.1 in
    let ta = argument_takes vars f.0.1 a.0 tf.0.fits a.1 in
    let tb = sized_takes 0 SCRIPT_BODY_LIMIT a.0.1 b.0 ta.0 b.1 in
    let tm = masks_take w b.0.1 m.0 tb.fits m.1 in
    let front = verb_index v.0.0 ∷ k.0.0 ∷ to_be_bytes w32 f.0.0 in
    let two = Takes-then bytes (verb_index v.0.0 ∷ []) v.0.1 (k.0.0 ∷ []) k.0.1 tv tk.0 in
    let three : Takes bytes front f.0.1 = Takes-then bytes (verb_index v.0.0 ∷ k.0.0 ∷ []) k.0.1 (to_be_bytes w32 f.0.0) f.0.1 two tf.0 in
    let four = Takes-then bytes front f.0.1 (argument_bytes h.a) a.0.1 three (ta.1 h.a h.is) in
    let five = Takes-then bytes (front ++ argument_bytes h.a) a.0.1 (with_length b.0.0) b.0.1 four tb in
    let six = Takes-then bytes (front ++ argument_bytes h.a ++ with_length b.0.0) b.0.1 (masks_text w m.0.0) m.0.1 five tm in
    let made = template_of v.0.0 k.0.0 f.0.0 h.a b.0.0 m.0.0 in
    let whole : Takes bytes (template_bytes w made) m.0.1 = six in
    subst (λ (y : Template × List ℕ). Takes bytes (template_bytes w y.0) y.1 × IsTemplate keys flags vars y.0) (some-same (t.0, m.0.1) x t.2)
    (subst (λ (u : Template). Takes bytes (template_bytes w u) m.0.1) h.made whole, h.stands)

spread4 : (a b c d : List ℕ) → a ++ b ++ c ++ d ≡ a ++ (b ++ (c ++ d))
spread4 a b c d = simp append_assoc

spread : (w : Version) (t : Template) (rest : List ℕ) → template_bytes w t ++ rest
    ≡ verb_index t.verb ∷ t.key ∷ (to_be_bytes w32 t.flags ++ (argument_bytes t.argument ++ (with_length t.body ++ (masks_bytes w t ++ rest))))
spread w t rest =
    ap (λ (text : List ℕ). verb_index t.verb ∷ t.key ∷ (to_be_bytes w32 t.flags ++ text))
    (spread4 (argument_bytes t.argument) (with_length t.body) (masks_bytes w t) rest)

template_again : (w : Version) (keys flags vars : ℕ) (t : Template) (rest : List ℕ) → flags ≤ flags_limit w → vars ≤ VARIABLES_LIMIT
    → IsTemplate keys flags vars t
    → template_in w keys flags vars (template_bytes w t ++ rest) ≡ Some (t, rest)
unfolding template_in template_if_valid
template_again w keys flags vars t rest few-flags few-vars h =
    let s = fields-suit vars (fields_of t.verb) t.flags t.argument t.body h.fields in
    let masks : Masks = record { require_set = t.require_set; require_clear = t.require_clear; sets = t.sets; clears = t.clears } in
    let fit = λ (mask : ℕ) (below : mask < 2 ^ flags). mask-fits w flags mask few-flags below in
    let m = masks_again w masks rest (fit t.require_set h.require_set) (fit t.require_clear h.require_clear) (fit t.sets h.sets) (fit t.clears h.clears) in
    let b = sized_again 0 SCRIPT_BODY_LIMIT t.body (masks_text w masks ++ rest) (omega arith) s.body_fits in
    let a = argument_again vars t.argument (with_length t.body ++ (masks_text w masks ++ rest)) few-vars s.argument_fits in
    let f = number_again w32 (2 ^ 32) wide32 t.flags (argument_bytes t.argument ++ (with_length t.body ++ (masks_text w masks ++ rest))) s.flags_fit in
    let after = to_be_bytes w32 t.flags ++ (argument_bytes t.argument ++ (with_length t.body ++ (masks_text w masks ++ rest))) in
    let regrouped : template_bytes w t ++ rest ≡ verb_index t.verb ∷ t.key ∷ after = spread w t rest in
    ap (template_in w keys flags vars) regrouped
    ∙ rw (verb_again t.verb (t.key ∷ after), byte_again t.key after, f, a, b, m, template-passes keys flags vars t h) refl

-- ---- all templates

pub middle : {A : Type 0} (P : A → Type 0) (xs : List A) (x : A) (others : List A) → All P (xs ++ x ∷ others) → P x
middle P [] x others h = All-head P x others h
middle P (y ∷ xs) x others h = middle P xs x others (All-tail P y (xs ++ x ∷ others) h)

templates_law : (w : Version) (keys flags vars : ℕ) → flags ≤ flags_limit w → vars ≤ VARIABLES_LIMIT
    → IsItem (λ _. template_in w keys flags vars) (template_bytes w) (All (IsTemplate keys flags vars))
templates_law w keys flags vars few-flags few-vars = record {
  takes = λ ts bytes x fits h e. let t = template_takes w keys flags vars bytes x fits e in (t.0, All-push (IsTemplate keys flags vars) ts x.0 h t.1);
  again = λ ts t others rest h. template_again w keys flags vars t rest few-flags few-vars (middle (IsTemplate keys flags vars) ts t others h);
}

pub templates_take : (w : Version) (keys flags vars : ℕ) (bytes : List ℕ) (x : List Template × List ℕ) → flags ≤ flags_limit w → vars ≤ VARIABLES_LIMIT
    → IsBytes bytes → templates_in w keys flags vars bytes ≡ Some x
    → Takes bytes (with_count (template_bytes w) x.0) x.1 × (length x.0 ≤ TEMPLATES_LIMIT) × All (IsTemplate keys flags vars) x.0
unfolding templates_in
templates_take w keys flags vars bytes x few-flags few-vars fits e =
    let t = counted_takes (λ _. template_in w keys flags vars) (template_bytes w) (All (IsTemplate keys flags vars))
    (templates_law w keys flags vars few-flags few-vars)
    0 TEMPLATES_LIMIT bytes x fits (All-nil (IsTemplate keys flags vars)) e in
    (t.0, t.2, t.3)

pub templates_again : (w : Version) (keys flags vars : ℕ) (ts : List Template) (rest : List ℕ) → flags ≤ flags_limit w → vars ≤ VARIABLES_LIMIT
    → length ts ≤ TEMPLATES_LIMIT → All (IsTemplate keys flags vars) ts
    → templates_in w keys flags vars (with_count (template_bytes w) ts ++ rest) ≡ Some (ts, rest)
unfolding templates_in
templates_again w keys flags vars ts rest few-flags few-vars few h =
    counted_again (λ _. template_in w keys flags vars) (template_bytes w) (All (IsTemplate keys flags vars))
    (templates_law w keys flags vars few-flags few-vars)
    0 TEMPLATES_LIMIT ts rest h (omega arith) few
