-- Images that are written: the pieces that make a template, and those that make an image.
use Rattle.std.proofs.Common.{◌≡◌, ℕ, List, [], ◌∷◌, ◌++◌, length, ap, ◌∙◌, append-nil, append_assoc}
use Rattle.std.specs.Int.{w32, w64, to_be_bytes}
use Rattle.mc_script.specs.{declared.step.Template.Template, declared.version.Version.Version}
use Rattle.mc_code.specs.Code.{Code}
use Rattle.mc_image.specs.Image.{magic, with_length, with_count, budget_bytes, verb_index, argument_bytes}
use Rattle.mc_image.specs.Image.{mask_bytes, masks_bytes, template_bytes, section_bytes, image_in}

-- ---- templates

-- the pieces after a front, one by one and together
pieces : (start names flags sort number size body a b c d : List ℕ)
    → ((((start ++ (names ++ (flags ++ (sort ++ (number ++ (size ++ (body ++ []))))))) ++ a) ++ b) ++ c) ++ d
    ≡ start ++ (names ++ (((flags ++ (sort ++ number)) ++ (size ++ body)) ++ (((a ++ b) ++ c) ++ d)))
pieces start names flags sort number size body a b c d = simp (append-nil, append_assoc)

-- what was written, piece by piece, is the template
pub template-written : (v : Version) (t : Template) (sort number : ℕ) (start first second third fourth : List ℕ)
    → sort ∷ to_be_bytes w64 number ≡ argument_bytes t.argument
    → first ≡ start ++ ((verb_index t.verb ∷ t.key ∷ [])
    ++ (to_be_bytes w32 t.flags ++ ((sort ∷ []) ++ (to_be_bytes w64 number ++ ((length t.body ∷ []) ++ (t.body ++ []))))))
    → second ≡ first ++ mask_bytes v t.require_set → third ≡ second ++ mask_bytes v t.require_clear → fourth ≡ third ++ mask_bytes v t.sets
    → fourth ++ mask_bytes v t.clears ≡ start ++ template_bytes v t
template-written v t sort number start first second third fourth argument e0 e1 e2 e3 =
    rw (e3, e2, e1, e0) (pieces start (verb_index t.verb ∷ t.key ∷ []) (to_be_bytes w32 t.flags) (sort ∷ []) (to_be_bytes w64 number)
    (length t.body ∷ []) t.body
    (mask_bytes v t.require_set) (mask_bytes v t.require_clear) (mask_bytes v t.sets) (mask_bytes v t.clears))
    ∙ ap (λ bytes. start ++ (verb_index t.verb ∷ t.key ∷ (to_be_bytes w32 t.flags ++ bytes ++ with_length t.body ++ masks_bytes v t))) argument

-- ---- images

-- lists after a front, one by one and together
in_a_row : (front m k : List ℕ) (f v : ℕ) (p a b t x y z : List ℕ)
    → (((((((((front ++ m) ++ k) ++ (f ∷ v ∷ [])) ++ p) ++ a) ++ b) ++ t) ++ x) ++ y) ++ z
    ≡ front ++ (m ++ (k ++ (f ∷ v ∷ ((((((p ++ a) ++ b) ++ t) ++ x) ++ y) ++ z))))
in_a_row front m k f v p a b t x y z = simp append_assoc

-- the pieces of an image
image-pieces : (v : Version) (front : List ℕ) (c : Code)
    → (((((((((front ++ magic v) ++ with_count with_length c.keys) ++ (c.flags ∷ c.vars ∷ [])) ++ budget_bytes c.sections.p.budget)
    ++ budget_bytes c.sections.a.budget)
    ++ budget_bytes c.sections.b.budget) ++ with_count (template_bytes v) c.templates) ++ section_bytes c.sections.p) ++ section_bytes c.sections.a)
    ++ section_bytes c.sections.b
    ≡ front ++ image_in v c
image-pieces v front c =
    in_a_row front (magic v) (with_count with_length c.keys) c.flags c.vars (budget_bytes c.sections.p.budget) (budget_bytes c.sections.a.budget)
    (budget_bytes c.sections.b.budget)
    (with_count (template_bytes v) c.templates) (section_bytes c.sections.p) (section_bytes c.sections.a) (section_bytes c.sections.b)

-- what was written, piece by piece, is the image
pub image-written : (v : Version) (c : Code) (start first second third fourth fifth sixth seventh last : List ℕ) → start ≡ [] → first ≡ start ++ magic v
    → second ≡ first ++ with_count with_length c.keys → third ≡ second ++ (c.flags ∷ c.vars ∷ [])
    → fourth ≡ ((third ++ budget_bytes c.sections.p.budget) ++ budget_bytes c.sections.a.budget) ++ budget_bytes c.sections.b.budget
    → fifth ≡ fourth ++ with_count (template_bytes v) c.templates
    → sixth ≡ fifth ++ section_bytes c.sections.p → seventh ≡ sixth ++ section_bytes c.sections.a → last ≡ seventh ++ section_bytes c.sections.b
    → last ≡ image_in v c
image-written v c start first second third fourth fifth sixth seventh last none e0 e1 e2 e3 e4 e5 e6 e7 =
    rw (e7, e6, e5, e4, e3, e2, e1, e0, none) (image-pieces v [] c)
