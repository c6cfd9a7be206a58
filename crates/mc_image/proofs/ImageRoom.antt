-- What an image of a version has room for, and which versions have room for a code.
use Rattle.std.proofs.Common.{◌≡◌, ◌⊎◌, inl, inr, ℕ, ◌^◌, ◌<◌, ◌≤◌, Bool, true, false, cond, leb, List, [], ◌∷◌, length, max, All, refl, sym, subst, arith}
use Rattle.std.proofs.lemmas.Bool.{cases_lt, leb-true, le-leb, and_parts, and_from}
use Rattle.std.proofs.lemmas.List.Elements.{All-nil, All-cons, All-head, All-tail}
use Rattle.std.proofs.{lemmas.Nat.pow_below, Math.Nat.le-max_left, Math.Nat.le-max_right, Math.Nat.max-le}
use Rattle.mc_protocol.specs.Fields.{fields_of}
use Rattle.mc_protocol.specs.declared.actor.Actor.TheVariants as actor
use Rattle.mc_script.specs.Versions.{flags_limit, steps_limit, has_room}
use Rattle.mc_script.specs.{declared.limits.TheConstants.FLAGS_LIMIT, declared.step.Template.Template, declared.version.Version.Version, Templates.IsTemplate}
use Rattle.mc_script.specs.declared.version.Version.TheVariants as version
use Rattle.mc_code.specs.{declared.limits.TheConstants.INSTRUCTIONS_LIMIT, Code.Code, Code.IsCode, Code.longest}
use Rattle.mc_image.specs.Image.{version_of, image_in, IsWithin, CodesHaveImages, ImagesAreWrittenAgain}
use Rattle.mc_image.specs.ImageWriting.{FitsMask, FitsImage}
use Rattle.mc_image.proofs.TemplateFields.{fields-suit}

-- ---- limits

pub flags-within : (v : Version) → flags_limit v ≤ FLAGS_LIMIT
flags-within version.One = omega arith
flags-within version.Two = omega arith

pub steps-within : (v : Version) → steps_limit v ≤ INSTRUCTIONS_LIMIT
steps-within version.One = omega arith
steps-within version.Two = omega arith

-- ---- codes

-- how much of anything a code has that keeps the limits of a version
pub record HasRoom (v : Version) (c : Code) : Type 0 where
  pub flags : c.flags ≤ flags_limit v
  pub p : length c.sections.p.instructions ≤ steps_limit v
  pub a : length c.sections.a.instructions ≤ steps_limit v
  pub b : length c.sections.b.instructions ≤ steps_limit v

pub room-in : (v : Version) (c : Code) → IsWithin v c → HasRoom v c
room-in v c within =
    let parts = and_parts (leb c.flags (flags_limit v)) (leb (longest c) (steps_limit v)) within in
    let all : longest c ≤ steps_limit v = leb-true _ _ parts.1 in
    let p = length c.sections.p.instructions in
    let a = length c.sections.a.instructions in
    let b = length c.sections.b.instructions in
    record {
      flags = leb-true _ _ parts.0;
      p = omega (arith, all, le-max_left p (max a b));
      a = omega (arith, all, le-max_right p (max a b), le-max_left a b);
      b = omega (arith, all, le-max_right p (max a b), le-max_right a b);
    }

pub is-within : (v : Version) (c : Code) → HasRoom v c → IsWithin v c
is-within v c room =
    and_from (leb c.flags (flags_limit v)) (leb (longest c) (steps_limit v)) (le-leb _ _ room.flags)
    (le-leb _ _ (max-le room.p (max-le room.a room.b)))

-- each code keeps the limits of version 2
within-two : (c : Code) → IsCode c → IsWithin version.Two c
within-two c h =
    is-within version.Two c
    (record { flags = h.flags; p = (h.sections actor.P).few; a = (h.sections actor.A).few; b = (h.sections actor.B).few })

-- whether version 1 has room decides which version is written
by-room : (c : Code) (P : Version → Type 0) (b : Bool) → (has_room version.One c.flags (longest c) ≡ b)
    → (b ≡ true → P version.One) → (b ≡ false → P version.Two) → P (version_of c)
by-room c P true is one two = subst (λ (b : Bool). P (cond b version.One version.Two)) is-back (one refl)
  where
    is-back : true ≡ has_room version.One c.flags (longest c)
    is-back = cc
by-room c P false is one two = subst (λ (b : Bool). P (cond b version.One version.Two)) is-back (two refl)
  where
    is-back : false ≡ has_room version.One c.flags (longest c)
    is-back = cc

pub code-within : (c : Code) → IsCode c → IsWithin (version_of c) c
code-within c h = by-room c (λ v. IsWithin v c) (has_room version.One c.flags (longest c)) refl (λ one. one) (λ _. within-two c h)

pub codes_have_images : CodesHaveImages
codes_have_images c h = (version_of c, code-within c h, refl)

-- ---- templates

-- a mask of declared flags has room where the flags have
pub mask-fits : (v : Version) (flags mask : ℕ) → flags ≤ flags_limit v → mask < 2 ^ flags → FitsMask v mask
mask-fits v flags mask few below =
    elim (cases_lt flags (flags_limit v)) [
      | inl lt ↦ omega (arith, below, pow_below flags (flags_limit v) lt)
      | inr le ↦ let same : flags ≡ flags_limit v = omega (arith, few, le) in subst (λ (n : ℕ). mask < 2 ^ n) same below
    ]

template-fits : (v : Version) (keys flags vars : ℕ) (t : Template) → flags ≤ flags_limit v → IsTemplate keys flags vars t → FitsImage v t
template-fits v keys flags vars t few h = record {
  body = (fields-suit vars (fields_of t.verb) t.flags t.argument t.body h.fields).body_fits;
  require_set = mask-fits v flags t.require_set few h.require_set;
  require_clear = mask-fits v flags t.require_clear few h.require_clear;
  sets = mask-fits v flags t.sets few h.sets;
  clears = mask-fits v flags t.clears few h.clears;
}

templates-fit : (v : Version) (keys flags vars : ℕ) (ts : List Template) → flags ≤ flags_limit v → All (IsTemplate keys flags vars) ts → All (FitsImage v) ts
templates-fit v keys flags vars [] few h = All-nil (FitsImage v)
templates-fit v keys flags vars (t ∷ ts) few h =
    All-cons (FitsImage v) t ts (template-fits v keys flags vars t few (All-head (IsTemplate keys flags vars) t ts h))
    (templates-fit v keys flags vars ts few (All-tail (IsTemplate keys flags vars) t ts h))

-- the templates of a code have room in the image that is written of it
pub written-fit : (c : Code) → IsCode c → All (FitsImage (version_of c)) c.templates
written-fit c h =
    templates-fit (version_of c) (length c.keys) c.flags c.vars c.templates (room-in (version_of c) c (code-within c h)).flags h.templates

-- ---- images that are written again

one-again : (c : Code) → IsWithin version.One c → version_of c ≡ version.One
one-again c within = by-room c (λ v. v ≡ version.One) (has_room version.One c.flags (longest c)) refl (λ _. refl) (λ no. absurd (cc))

pub written_again : ImagesAreWrittenAgain
written_again bytes c (version.One, within, is) = inl (subst (λ v. image_in v c ≡ bytes) (sym (one-again c within)) is)
written_again bytes c (version.Two, within, is) =
    by-room c (λ v. (image_in v c ≡ bytes) ⊎ ((image_in v c ≡ image_in version.One c) × (image_in version.Two c ≡ bytes)))
    (has_room version.One c.flags (longest c)) refl (λ _. inr (refl, is)) (λ _. inl is)
