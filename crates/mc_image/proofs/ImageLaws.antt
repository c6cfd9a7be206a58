-- The whole image: what is read was written, and is code; and the image of code is read again.
use Rattle.std.proofs.Common.{◌≡◌, ℕ, ◌≤◌, ◌==◌, Bool, true, false, not, Some, None, List, [], ◌∷◌, ◌++◌}
use Rattle.std.proofs.Common.{length, All, cond, refl, sym, ap, subst, ◌∙◌, append_assoc, arith}
use Rattle.std.proofs.{lemmas.List.append-nil, lemmas.Slice.Eq.bytes_eq-Decides}
use Rattle.std.specs.Str.{bytes_eq}
use Rattle.mc_protocol.specs.declared.limits.TheConstants.{KEYS_LIMIT, KEY_BYTES_LIMIT, REQUESTS_LIMIT, REQUEST_BYTES_LIMIT}
use Rattle.mc_protocol.specs.{declared.actor.Actor.Actor, declared.sections.Sections.Sections}
use Rattle.mc_protocol.specs.declared.actor.Actor.TheVariants as actor
use Rattle.mc_protocol.specs.Sections as sections
use Rattle.mc_script.specs.Chains.{◌>>=◌}
use Rattle.mc_script.specs.{declared.limits.TheConstants.VARIABLES_LIMIT, declared.section.Budget.Budget, declared.version.Version.Version}
use Rattle.mc_script.specs.{Script.may_be_declared, Versions.flags_limit, Versions.steps_limit}
use Rattle.mc_script.specs.declared.version.Version.TheVariants as version
use Rattle.mc_code.specs.{declared.instr.Instr.Instr, Code.IsInstr, Code.Section, Code.IsSection, Code.Code, Code.IsCode}
use Rattle.mc_image.specs.Image.{magic, with_length, with_count, budget_bytes, template_bytes, instr_bytes}
use Rattle.mc_image.specs.Image.{section_bytes, image_in, IsWithin, IsImageOf, ImagesAreOfOneCode}
use Rattle.mc_image.specs.ImageReading.{Field, bytes_in, small_in, keys_in, budget_in, templates_in, instructions_in, version_at}
use Rattle.mc_image.specs.ImageReading.{version_in, Declared, declared_in, each_in, code_of, at_end, code_in}
use Rattle.mc_image.proofs.FieldLaws.{then-some, some-same, IsBytes, Takes, Takes-then, bytes_take, bytes_again, small_takes, small_again}
use Rattle.mc_image.proofs.ImageRoom.{flags-within, steps-within, room-in, is-within}
use Rattle.mc_image.proofs.SectionLaws.{budget_takes, budget_again, instructions_take, instructions_again}
use Rattle.mc_image.proofs.{KeyLaws.keys_take, KeyLaws.keys_again, TemplateLaws.templates_take, TemplateLaws.templates_again}

-- ---- the first bytes

version-of : (bytes : List ℕ) (v : Version) → version_at bytes ≡ Some v → bytes ≡ magic v
unfolding version_at
version-of bytes v e = by-one (bytes_eq bytes (magic version.One)) refl (bytes_eq bytes (magic version.Two)) refl e
  where
    by-one : (one : Bool) → bytes_eq bytes (magic version.One) ≡ one → (two : Bool) → bytes_eq bytes (magic version.Two) ≡ two
        → cond one (Some version.One) (cond two (Some version.Two) None) ≡ Some v → bytes ≡ magic v
    by-one true is two _ e = subst (λ w. bytes ≡ magic w) (some-same version.One v e) ((bytes_eq-Decides bytes (magic version.One)).0 is)
    by-one false _ true is e = subst (λ w. bytes ≡ magic w) (some-same version.Two v e) ((bytes_eq-Decides bytes (magic version.Two)).0 is)
    by-one false _ false _ e = absurd (cc)

version_takes : (bytes : List ℕ) (x : Version × List ℕ) → IsBytes bytes → version_in bytes ≡ Some x → Takes bytes (magic x.0) x.1
unfolding version_in
version_takes bytes x fits e =
    let m = then-some (bytes_in 4 bytes) (λ m. version_at m.0 >>= λ v. Some (v, m.1)) x e in
    let v = then-some (version_at m.0.0) (λ v. Some (v, m.0.1)) x m.2 in
    let t = bytes_take 4 bytes m.0 fits m.1 in
    let text : Takes bytes (magic v.0) m.0.1 = subst (λ (text : List ℕ). Takes bytes text m.0.1) (version-of m.0.0 v.0 v.1) t.0 in
    subst (λ (y : Version × List ℕ). Takes bytes (magic y.0) y.1) (some-same (v.0, m.0.1) x v.2) text

version_again : (v : Version) (rest : List ℕ) → version_in (magic v ++ rest) ≡ Some (v, rest)
unfolding version_in version_at
version_again version.One rest = rw (bytes_again 4 (magic version.One) rest refl) refl
version_again version.Two rest = rw (bytes_again 4 (magic version.Two) rest refl) refl

-- ---- what is declared

abbrev declared_text : Declared → List ℕ
declared_text d = with_count with_length d.keys ++ d.flags ∷ d.vars ∷ []

record AreDeclared (v : Version) (d : Declared) : Type 0 where
  some_key : not (length d.keys == 0) ≡ true
  keys : may_be_declared KEYS_LIMIT KEY_BYTES_LIMIT d.keys ≡ true
  flags : d.flags ≤ flags_limit v
  vars : d.vars ≤ VARIABLES_LIMIT

declared_takes : (w : Version) (bytes : List ℕ) (x : Declared × List ℕ) → IsBytes bytes → declared_in w bytes ≡ Some x
    → Takes bytes (declared_text x.0) x.1 × AreDeclared w x.0
unfolding declared_in
declared_takes w bytes x fits e =
    let k = then-some (keys_in bytes) _ x e in
    let f = then-some (small_in 0 (flags_limit w) k.0.1) _ x k.2 in
    let v = then-some (small_in 0 VARIABLES_LIMIT f.0.1) _ x f.2 in
    let tk = keys_take bytes k.0 fits k.1 in
    let tf = small_takes 0 (flags_limit w) k.0.1 f.0 tk.0.fits f.1 in
    let tv = small_takes 0 VARIABLES_LIMIT f.0.1 v.0 tf.0.fits v.1 in
    let numbers = Takes-then k.0.1 (f.0.0 ∷ []) f.0.1 (v.0.0 ∷ []) v.0.1 tf.0 tv.0 in
    let all = Takes-then bytes (with_count with_length k.0.0) k.0.1 (f.0.0 ∷ v.0.0 ∷ []) v.0.1 tk.0 numbers in
    let made : Declared = record { keys = k.0.0; flags = f.0.0; vars = v.0.0 } in
    subst (λ (y : Declared × List ℕ). Takes bytes (declared_text y.0) y.1 × AreDeclared w y.0) (some-same (made, v.0.1) x v.2)
    (all, record { some_key = tk.1; keys = tk.2; flags = tf.2; vars = tv.2 })

declared_again : (w : Version) (d : Declared) (rest : List ℕ) → AreDeclared w d
    → declared_in w (with_count with_length d.keys ++ (d.flags ∷ d.vars ∷ rest)) ≡ Some (d, rest)
unfolding declared_in
declared_again w d rest h =
    rw (
      keys_again d.keys (d.flags ∷ d.vars ∷ rest) h.some_key h.keys,
      small_again 0 (flags_limit w) d.flags (d.vars ∷ rest) (omega arith) h.flags,
      small_again 0 VARIABLES_LIMIT d.vars rest (omega arith) h.vars,
    ) refl

-- ---- one for each section

record IsOne {A : Type 0} (one_in : List ℕ → Field A) (text : A → List ℕ) (P : A → Type 0) : Type 0 where
  takes : (bytes : List ℕ) (x : A × List ℕ) → IsBytes bytes → one_in bytes ≡ Some x → Takes bytes (text x.0) x.1 × P x.0
  again : (x : A) (rest : List ℕ) → P x → one_in (text x ++ rest) ≡ Some (x, rest)

each_takes : {A : Type 0} (one_in : List ℕ → Field A) (text : A → List ℕ) (P : A → Type 0) (law : IsOne one_in text P)
    → (bytes : List ℕ) (x : Sections A × List ℕ) → IsBytes bytes → each_in one_in bytes ≡ Some x
    → Takes bytes (text x.0.p ++ text x.0.a ++ text x.0.b) x.1 × P x.0.p × P x.0.a × P x.0.b
unfolding each_in
each_takes {A} one_in text P law bytes x fits e =
    let p = then-some (one_in bytes) _ x e in
    let a = then-some (one_in p.0.1) _ x p.2 in
    let b = then-some (one_in a.0.1) _ x a.2 in
    let tp = law.takes bytes p.0 fits p.1 in
    let ta = law.takes p.0.1 a.0 tp.0.fits a.1 in
    let tb = law.takes a.0.1 b.0 ta.0.fits b.1 in
    let two = Takes-then bytes (text p.0.0) p.0.1 (text a.0.0) a.0.1 tp.0 ta.0 in
    let three = Takes-then bytes (text p.0.0 ++ text a.0.0) a.0.1 (text b.0.0) b.0.1 two tb.0 in
    let made : Sections A × List ℕ = (record { p = p.0.0; a = a.0.0; b = b.0.0 }, b.0.1) in
    subst (λ (y : Sections A × List ℕ). Takes bytes (text y.0.p ++ text y.0.a ++ text y.0.b) y.1 × P y.0.p × P y.0.a × P y.0.b) (some-same made x b.2)
    (three, tp.1, ta.1, tb.1)

each_again : {A : Type 0} (one_in : List ℕ → Field A) (text : A → List ℕ) (P : A → Type 0) (law : IsOne one_in text P)
    → (p a b : A) (rest : List ℕ) → P p → P a → P b → each_in one_in (text p ++ (text a ++ (text b ++ rest))) ≡ Some (record { p = p; a = a; b = b }, rest)
unfolding each_in
each_again {A} one_in text P law p a b rest hp ha hb =
    rw (law.again p (text a ++ (text b ++ rest)) hp, law.again a (text b ++ rest) ha, law.again b rest hb) refl

for_each : (P : Section → Type 0) (all : Sections Section) → P all.p → P all.a → P all.b → (actor : Actor) → P (sections.section_of all actor)
for_each P all p a b actor.P = p
for_each P all p a b actor.A = a
for_each P all p a b actor.B = b

abbrev FitsBudget : Budget → Type 0
FitsBudget budget = (budget.requests ≤ REQUESTS_LIMIT) × (budget.bytes ≤ REQUEST_BYTES_LIMIT)

budgets_law : IsOne budget_in budget_bytes FitsBudget
budgets_law = record {
  takes = λ bytes x fits e. let t = budget_takes bytes x fits e in (t.0, (t.1, t.2));
  again = λ budget rest h. budget_again budget rest h.0 h.1;
}

abbrev AreInstructions : Version → List Instr → Type 0
AreInstructions v is = (length is ≤ steps_limit v) × All IsInstr is

sections_law : (v : Version) → IsOne (instructions_in v) (with_count instr_bytes) (AreInstructions v)
sections_law v = record {
  takes = λ bytes x fits e. let t = instructions_take v bytes x fits e in (t.0, (t.1, t.2));
  again = λ is rest h. instructions_again v is rest h.0 h.1;
}

-- ---- the whole

ended-nil : {A : Type 0} (x y : A) (rest : List ℕ) → at_end x rest ≡ Some y → (rest ≡ []) × (x ≡ y)
ended-nil x y [] e = (refl, some-same x y e)
ended-nil x y (byte ∷ rest) e = absurd (cc)

regroup : (b t p a s : List ℕ) → b ++ t ++ (p ++ a ++ s) ≡ b ++ t ++ p ++ a ++ s
regroup b t p a s = simp append_assoc

pub code-read : (bytes : List ℕ) (c : Code) → IsBytes bytes → code_in bytes ≡ Some c → IsImageOf bytes c × IsCode c
unfolding code_in
code-read bytes c fits e =
    let m = then-some (version_in bytes) _ c e in
    let w = m.0.0 in
    let d = then-some (declared_in w m.0.1) _ c m.2 in
    let u = then-some (each_in budget_in d.0.1) _ c d.2 in
    let t = then-some (templates_in w (length d.0.0.keys) d.0.0.flags d.0.0.vars u.0.1) _ c u.2 in
    let s = then-some (each_in (instructions_in w) t.0.1) _ c t.2 in
    let end = ended-nil (code_of d.0.0 u.0.0 t.0.0 s.0.0) c s.0.1 s.2 in
    let tm = version_takes bytes m.0 fits m.1 in
    let td = declared_takes w m.0.1 d.0 tm.fits d.1 in
    let h = td.1 in
    let tu = each_takes budget_in budget_bytes FitsBudget budgets_law d.0.1 u.0 td.0.fits u.1 in
    let ts = templates_take w (length d.0.0.keys) d.0.0.flags d.0.0.vars u.0.1 t.0 h.flags h.vars tu.0.fits t.1 in
    let ti = each_takes (instructions_in w) (with_count instr_bytes) (AreInstructions w) (sections_law w) t.0.1 s.0 ts.0.fits s.1 in
    let front = budget_bytes u.0.0.p ++ budget_bytes u.0.0.a ++ budget_bytes u.0.0.b in
    let templates = with_count (template_bytes w) t.0.0 in
    let sp = with_count instr_bytes s.0.0.p in
    let sa = with_count instr_bytes s.0.0.a in
    let sb = with_count instr_bytes s.0.0.b in
    let two = Takes-then d.0.1 front u.0.1 templates t.0.1 tu.0 ts.0 in
    let three = Takes-then d.0.1 (front ++ templates) t.0.1 (sp ++ sa ++ sb) s.0.1 two ti.0 in
    let four = Takes-then m.0.1 (declared_text d.0.0) d.0.1 (front ++ templates ++ (sp ++ sa ++ sb)) s.0.1 td.0 three in
    let five = Takes-then bytes (magic w) m.0.1 (declared_text d.0.0 ++ (front ++ templates ++ (sp ++ sa ++ sb))) s.0.1 tm four in
    let keys = with_count with_length d.0.0.keys in
    let tail : front ++ templates ++ (sp ++ sa ++ sb) ≡ front ++ templates ++ sp ++ sa ++ sb = regroup front templates sp sa sb in
    let declared : declared_text d.0.0 ++ (front ++ templates ++ (sp ++ sa ++ sb))
    ≡ keys ++ (d.0.0.flags ∷ d.0.0.vars ∷ (front ++ templates ++ sp ++ sa ++ sb)) =
    append_assoc keys (d.0.0.flags ∷ d.0.0.vars ∷ []) (front ++ templates ++ (sp ++ sa ++ sb))
    ∙ ap (λ (text : List ℕ). keys ++ (d.0.0.flags ∷ d.0.0.vars ∷ text)) tail in
    let made = code_of d.0.0 u.0.0 t.0.0 s.0.0 in
    let whole : bytes ≡ image_in w made =
    five.parts ∙ ap (λ (text : List ℕ). magic w ++ text ++ s.0.1) declared
    ∙ ap (λ (rest : List ℕ). image_in w made ++ rest) end.0 ∙ append-nil (image_in w made) in
    let few-p = ti.1.0 in
    let few-a = ti.2.0 in
    let few-b = ti.3.0 in
    let limit = steps-within w in
    let is : IsCode made = record {
      some_key = h.some_key;
      keys = h.keys;
      flags = omega (arith, h.flags, flags-within w);
      vars = h.vars;
      few = ts.1;
      templates = ts.2;
      sections = for_each IsSection made.sections
          (record { requests = tu.1.0; bytes = tu.1.1; few = omega (arith, few-p, limit); instructions = ti.1.1 })
          (record { requests = tu.2.0; bytes = tu.2.1; few = omega (arith, few-a, limit); instructions = ti.2.1 })
          (record { requests = tu.3.0; bytes = tu.3.1; few = omega (arith, few-b, limit); instructions = ti.3.1 });
    } in
    let within : IsWithin w made = is-within w made (record { flags = h.flags; p = few-p; a = few-a; b = few-b }) in
    subst (λ (k : Code). IsImageOf bytes k × IsCode k) end.1 ((w, within, sym whole), is)

spread : (t p a b : List ℕ) → t ++ p ++ a ++ b ≡ t ++ (p ++ (a ++ (b ++ [])))
spread t p a b = simp (append_assoc, append-nil)

pub code-again : (w : Version) (c : Code) → IsCode c → IsWithin w c → code_in (image_in w c) ≡ Some c
unfolding code_in
code-again w c h within =
    let room = room-in w c within in
    let d : Declared = record { keys = c.keys; flags = c.flags; vars = c.vars } in
    let templates = with_count (template_bytes w) c.templates in
    let p = c.sections.p in
    let a = c.sections.a in
    let b = c.sections.b in
    let sections = section_bytes p ++ (section_bytes a ++ (section_bytes b ++ [])) in
    let budgets = budget_bytes p.budget ++ (budget_bytes a.budget ++ (budget_bytes b.budget ++ (templates ++ sections))) in
    let kept-p = h.sections actor.P in
    let kept-a = h.sections actor.A in
    let kept-b = h.sections actor.B in
    let regrouped : image_in w c ≡ magic w ++ (with_count with_length c.keys ++ (c.flags ∷ c.vars ∷ budgets)) =
    ap (λ (text : List ℕ). magic w ++ (with_count with_length c.keys
    ++ (c.flags ∷ c.vars ∷ (budget_bytes p.budget ++ (budget_bytes a.budget ++ (budget_bytes b.budget ++ text))))))
    (spread templates (section_bytes p) (section_bytes a) (section_bytes b)) in
    ap code_in regrouped
    ∙ rw (
      version_again w (with_count with_length c.keys ++ (c.flags ∷ c.vars ∷ budgets)),
      declared_again w d budgets (record { some_key = h.some_key; keys = h.keys; flags = room.flags; vars = h.vars }),
      each_again budget_in budget_bytes FitsBudget budgets_law p.budget a.budget b.budget (templates ++ sections)
          (kept-p.requests, kept-p.bytes) (kept-a.requests, kept-a.bytes) (kept-b.requests, kept-b.bytes),
      templates_again w (length c.keys) c.flags c.vars c.templates sections room.flags h.vars h.few h.templates,
      each_again (instructions_in w) (with_count instr_bytes) (AreInstructions w) (sections_law w) p.instructions a.instructions b.instructions []
          (room.p, kept-p.instructions) (room.a, kept-a.instructions) (room.b, kept-b.instructions),
    ) refl

-- an image is read as the code that it is of
pub read-as : (bytes : List ℕ) (found : Code) → code_in bytes ≡ Some found → (code : Code) → IsCode code → IsImageOf bytes code → found ≡ code
read-as bytes found read code is (w, within, same) =
    some-same found code (sym read ∙ ap code_in (sym same) ∙ code-again w code is within)

-- bytes that can't be read are no image
pub unread : (bytes : List ℕ) → code_in bytes ≡ None → (code : Code) → IsCode code → IsImageOf bytes code → ⊥
unread bytes none code is (w, within, same) =
    let clash = sym none ∙ ap code_in (sym same) ∙ code-again w code is within in
    absurd (cc)

-- the version that an image begins with
begins-with : (w : Version) (c : Code) → (rest : List ℕ) × (version_in (image_in w c) ≡ Some (w, rest))
begins-with w c = (_, version_again w _)

pub one_code : ImagesAreOfOneCode
one_code v w c d hc hd in-v in-w same =
    let of-v = begins-with v c in
    let of-w = begins-with w d in
    let versions = some-same (v, of-v.0) (w, of-w.0) (sym of-v.1 ∙ ap version_in same ∙ of-w.1) in (
      ap (λ (x : Version × List ℕ). x.0) versions,
      some-same c d (sym (code-again v c hc in-v) ∙ ap code_in same ∙ code-again w d hd in-w),
    )
