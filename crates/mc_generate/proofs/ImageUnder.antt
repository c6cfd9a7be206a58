-- The image of code under a name: that of the code with another front.
use Rattle.std.proofs.Common.{◌≡◌, ℕ, ◌≤◌, true, List, [], ◌∷◌, ◌++◌, length, take, drop, refl, sym, ap, subst, ◌∙◌, arith, append_assoc}
use Rattle.std.proofs.{Common.append-nil, Common.length-append, lemmas.List.Prefix.front_rest}
use Rattle.std.specs.List.{concat}
use Rattle.mc_protocol.specs.{Lines.Word, declared.sections.Sections.Sections}
use Rattle.mc_script.specs.{declared.section.Budget.Budget, declared.version.Version.Version}
use Rattle.mc_script.specs.declared.version.Version.TheVariants as version
use Rattle.mc_code.specs.Code.{Code, IsCode}
use Rattle.mc_image.specs.Image.{CodesHaveImages, IsImageOf, image_in, image_of, version_of, magic, with_count, with_length, budget_bytes}
use Rattle.mc_image.specs.Image.{template_bytes, section_bytes}
use Rattle.mc_generate.specs.{ImageFronts.front_bytes, ImageFronts.budgets_of, ImageFronts.counts_of, CodesUnder.code_under}
use Rattle.mc_settings.specs.Namespaces.{is_namespace, AreShort}
use Rattle.mc_generate.proofs.CodeUnder.{code-stays}

-- ---- the parts of an image

-- what stands in an image from the templates on
tail_bytes : Version → Code → List ℕ
tail_bytes v c =
    with_count (template_bytes v) c.templates ++ (section_bytes c.sections.p ++ (section_bytes c.sections.a ++ section_bytes c.sections.b))

in-a-row : (k : List ℕ) (f v : ℕ) (p a b t x y z : List ℕ)
    → k ++ (f ∷ v ∷ ((((((p ++ a) ++ b) ++ t) ++ x) ++ y) ++ z)) ≡ (k ++ ((((f ∷ v ∷ []) ++ p) ++ a) ++ b)) ++ (t ++ (x ++ (y ++ z)))
in-a-row k f v p a b t x y z = simp append_assoc

-- the front of the code
front : Code → List ℕ
front c = front_bytes c.keys (counts_of c) (budgets_of c)

-- the image after its first bytes
fields-are : (v : Version) (c : Code) → image_in v c ≡ magic v ++ (front c ++ tail_bytes v c)
unfolding tail_bytes front
fields-are v c =
    ap (λ fields. magic v ++ fields)
    (in-a-row (with_count with_length c.keys) c.flags c.vars (budget_bytes c.sections.p.budget) (budget_bytes c.sections.a.budget)
    (budget_bytes c.sections.b.budget) (with_count (template_bytes v) c.templates) (section_bytes c.sections.p) (section_bytes c.sections.a)
    (section_bytes c.sections.b))

magic-first : (v : Version) (fields : List ℕ) → take 4 (magic v ++ fields) ≡ magic v
magic-first version.One fields = refl
magic-first version.Two fields = refl

magic-dropped : (v : Version) (fields : List ℕ) → drop 4 (magic v ++ fields) ≡ fields
magic-dropped version.One fields = refl
magic-dropped version.Two fields = refl

tail-same : (name : Word) (v : Version) (c : Code) → tail_bytes v (code_under name c) ≡ tail_bytes v c
unfolding tail_bytes
tail-same name v c = refl

-- ---- the written image

module _ (c : Code) (written : List ℕ) (is : written ≡ image_of c) where
  written-first : take 4 written ≡ magic (version_of c)
  written-first = ap (take 4) (is ∙ fields-are (version_of c) c) ∙ magic-first (version_of c) (front c ++ tail_bytes (version_of c) c)

  written-fields : drop 4 written ≡ front c ++ tail_bytes (version_of c) c
  written-fields = ap (drop 4) (is ∙ fields-are (version_of c) c) ∙ magic-dropped (version_of c) (front c ++ tail_bytes (version_of c) c)

  -- the front is no longer than what stands after the first bytes
  pub front-within : (old : List ℕ) → old ≡ front_bytes c.keys (counts_of c) (budgets_of c) → length old ≤ length (drop 4 written)
  unfolding front
  front-within old was =
      rw (was, written-fields) (omega (arith, length-append (front c) (tail_bytes (version_of c) c)))

  -- the first bytes of the written image, another front, and what stands after the old front
  pub image-joined : (name : Word) (old new out : List ℕ) → old ≡ front_bytes c.keys (counts_of c) (budgets_of c)
      → new ≡ front_bytes (code_under name c).keys (counts_of c) (budgets_of (code_under name c))
      → out ≡ concat (take 4 written ∷ new ∷ drop (length old) (drop 4 written) ∷ []) → out ≡ image_of (code_under name c)
  unfolding front
  image-joined name old new out was becomes joined =
      let v = version_of c in
      let left : drop (length old) (drop 4 written) ≡ tail_bytes v c
      = ap (λ o. drop (length o) (drop 4 written)) was ∙ front_rest (drop 4 written) (front c) (tail_bytes v c) written-fields in
      joined ∙ rw (written-first, left, becomes) (ap (λ t. magic v ++ (front (code_under name c) ++ t)) (append-nil (tail_bytes v c)))
      ∙ ap (λ t. magic v ++ (front (code_under name c) ++ t)) (sym (tail-same name v c)) ∙ sym (fields-are v (code_under name c))

-- what was written of a front
pub front-written : (keys : List Word) (counts : List ℕ) (budgets : Sections Budget) (start out : List ℕ) → start ≡ with_count with_length keys
    → out ≡ start ++ concat (counts ∷ budget_bytes budgets.p ∷ budget_bytes budgets.a ∷ budget_bytes budgets.b ∷ [])
    → out ≡ front_bytes keys counts budgets
front-written keys counts budgets start out first wrote =
    wrote ∙ rw first (ap (λ others. with_count with_length keys ++ others)
    (in-four counts (budget_bytes budgets.p) (budget_bytes budgets.a) (budget_bytes budgets.b)))
  where
    in-four : (w x y z : List ℕ) → w ++ (x ++ (y ++ (z ++ []))) ≡ ((w ++ x) ++ y) ++ z
    in-four w x y z = simp (append_assoc, append-nil)

-- ---- the code under the name has that image

pub code-imaged : (name : Word) (c : Code) (bytes : List ℕ) → IsCode c → is_namespace name ≡ true → AreShort name c.keys → CodesHaveImages
    → bytes ≡ image_of (code_under name c) → IsCode (code_under name c) × IsImageOf bytes (code_under name c)
code-imaged name c bytes is named short have e =
    let stays = code-stays name c named is short in (stays, subst (λ b. IsImageOf b (code_under name c)) (sym e) (have (code_under name c) stays))
