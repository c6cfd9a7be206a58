-- The marks of a step as they are printed: words spell them, they may stand together, and they say the masks of its flags.
use Rattle.std.proofs.Common.{◌≡◌, ℕ, ◌+◌, ◌<◌, ◌==◌, nat_le, Bool, true, false, not, ◌&&◌, ◌||◌, Option, Some, None, List, [], ◌∷◌, ◌++◌, length, map}
use Rattle.std.proofs.Common.{refl, ap, ◌∙◌, arith, ◌^◌}
use Rattle.std.proofs.lemmas.Bool.{and_from, and_right, or_from, not_from_false, ne_eqb}
use Rattle.std.proofs.lemmas.Option.{slice_get_within}
use Rattle.std.specs.List.{list_all, list_any}
use Rattle.mc_protocol.specs.{Legal.is_legal, Names.is_name, Names.are_distinct, Words.class_word, Words.class_index, Spelling.SpellEach}
use Rattle.mc_script_text.specs.Values.{Verb, Class, Word, KEYS_LIMIT, KEY_BYTES_LIMIT, Mark, Sign, FLAGS_LIMIT, VARIABLES_LIMIT, NAME_BYTES_LIMIT, Label}
use Rattle.mc_script_text.specs.Marks.{sign_byte, jump_word, SpellsMark, are_twins, have_no_twins, may_stand, may_stand_together, is_bind}
use Rattle.mc_script_text.specs.PrintedScript.{name_at, label_at, jump_words, bind_words, mark_words}
use Rattle.mc_script_text.specs.{Values.Template, Marks.is_number_jump, Marks.mask_of}
use Rattle.mc_script_text.specs.Values.class
use Rattle.mc_script_text.specs.Values.mark
use Rattle.mc_script_text.specs.Values.sign
use Rattle.mc_script.specs.WellFormed.{IsAfter, AreJumps, MayBind, is_number_class, jumps_on_number}
use Rattle.mc_script.specs.{Script.Names, Script.AreDeclared, ScriptWords.is_label_name, WellFormed.label_names, WellFormed.shows_numbers, Templates.IsTemplate}
use Rattle.mc_script_text.proofs.PrintedNames.{named-plain, front-whole, name-has, index-found, names-length}
use Rattle.mc_script_text.proofs.PrintedLines.{is_plain, are_plain, is_whole}
use Rattle.mc_script_text.proofs.PrintedFlags.{With, each-append, any-append, all-append, are_apart, no-twins-append, apart-append, all_flag_marks}
use Rattle.mc_script_text.proofs.PrintedFlags.{all-flags-spell, all-flags-all, all-flags-distinct, flag_marks, others-silent, gathered-append, flags-say}
use Rattle.mc_script_text.proofs.{Lists.three, Lists.from-three, Lists.some-first, JumpLists.number-jump, Masks.gathered}

-- ---- declared names

pub record Known (names : Names) : Type 0 where
  pub keys : are_distinct names.keys ≡ true
  pub flags : are_distinct names.flags ≡ true
  pub vars : are_distinct names.vars ≡ true
  pub key_names : list_all (is_name KEY_BYTES_LIMIT) names.keys ≡ true
  pub flag_names : list_all (is_name NAME_BYTES_LIMIT) names.flags ≡ true
  pub var_names : list_all (is_name NAME_BYTES_LIMIT) names.vars ≡ true

pub known : (names : Names) → AreDeclared names → Known names
known names d =
    let k = three (nat_le (length names.keys) KEYS_LIMIT) (list_all (is_name KEY_BYTES_LIMIT) names.keys) (are_distinct names.keys) d.keys in
    let f = three (nat_le (length names.flags) FLAGS_LIMIT) (list_all (is_name NAME_BYTES_LIMIT) names.flags) (are_distinct names.flags) d.flags in
    let v = three (nat_le (length names.vars) VARIABLES_LIMIT) (list_all (is_name NAME_BYTES_LIMIT) names.vars) (are_distinct names.vars) d.vars in
    record { keys = k.2; flags = f.2; vars = v.2; key_names = k.1; flag_names = f.1; var_names = v.1 }

-- ---- jumps and `>`

abbrev pub jump_marks : List Label → List (Class × ℕ) → List Mark
jump_marks labels jumps = map (λ jump. mark.Jump jump.0 (label_at labels jump.1)) jumps

abbrev pub bind_marks : Option ℕ → List Mark
bind_marks None = []
bind_marks (Some variable) = mark.Bind variable ∷ []

-- the marks of a step
abbrev pub marks_of : List Word → List Label → Template → List (Class × ℕ) → Option ℕ → List Mark
marks_of flags labels t jumps bind = all_flag_marks flags t ++ jump_marks labels jumps ++ bind_marks bind

sign-plain : (s : Sign) → is_plain (sign_byte s) ≡ true
sign-plain sign.RequireSet = refl
sign-plain s = refl

class-plain : (c : Class) → are_plain (class_word c) ≡ true
class-plain class.Stored = refl
class-plain c = refl

middle-some : (xs : List ℕ) (byte : ℕ) (ys : List ℕ) → not (length (xs ++ byte ∷ ys) == 0) ≡ true
middle-some [] byte ys = some-first byte ys
middle-some (x ∷ xs) byte ys = some-first x (xs ++ byte ∷ ys)

jump-whole : (c : Class) (l : Word) → are_plain l ≡ true → is_whole (jump_word c l) ≡ true
jump-whole c l h =
    and_from (not (length (jump_word c l) == 0)) (are_plain (jump_word c l)) (middle-some (class_word c) 58 l)
    (all-append is_plain (class_word c) (58 ∷ l) (class-plain c) (and_from true (are_plain l) refl h))

pub behind-named : (labels : List Label) (place index : ℕ) → list_all is_label_name (label_names labels) ≡ true → IsAfter labels place index
    → is_label_name (label_at labels index) ≡ true
behind-named labels place index all (label, get, lt) =
    let inside = slice_get_within labels index label get in
    let e = names-length labels in
    name-has is_label_name (label_names labels) index all (omega (arith, inside, e))

jumps-spell : (names : Names) (v : Verb) (labels : List Label) (place least : ℕ) (jumps : List (Class × ℕ))
    → list_all is_label_name (label_names labels) ≡ true → AreJumps v labels place least jumps
    → SpellEach (With (SpellsMark names) is_whole) (jump_words labels jumps) (jump_marks labels jumps)
jumps-spell names v labels place least [] all h = tt
jumps-spell names v labels place least (jump ∷ jumps) all h = (
  (refl, jump-whole jump.0 (label_at labels jump.1) (named-plain NAME_BYTES_LIMIT (label_at labels jump.1) (behind-named labels place jump.1 all h.2))),
  jumps-spell names v labels place (class_index jump.0 + 1) jumps all h.3,
)

-- a byte, and a name that is declared
pub front-name : (byte : ℕ) (ns : List Word) (index : ℕ) → is_plain byte ≡ true → list_all (is_name NAME_BYTES_LIMIT) ns ≡ true → index < length ns
    → is_whole (byte ∷ name_at ns index) ≡ true
front-name byte ns index plain all lt =
    front-whole byte (name_at ns index) plain
    (named-plain NAME_BYTES_LIMIT (name_at ns index) (name-has (is_name NAME_BYTES_LIMIT) ns index all lt))

bind-spells : (names : Names) (v : Verb) (jumps : List (Class × ℕ)) (bind : Option ℕ) → Known names → MayBind names v jumps bind
    → SpellEach (With (SpellsMark names) is_whole) (bind_words names bind) (bind_marks bind)
bind-spells names v jumps None k h = tt
bind-spells names v jumps (Some variable) k h = (
  ((name_at names.vars variable, refl, index-found names.vars variable k.vars h.0), front-name 62 names.vars variable refl k.var_names h.0),
  tt,
)

pub marks-spell : (names : Names) (labels : List Label) (place : ℕ) (t : Template) (jumps : List (Class × ℕ)) (bind : Option ℕ) → Known names
    → list_all is_label_name (label_names labels) ≡ true → AreJumps t.verb labels place 0 jumps → MayBind names t.verb jumps bind
    → SpellEach (With (SpellsMark names) is_whole) (mark_words names labels t jumps bind) (marks_of names.flags labels t jumps bind)
marks-spell names labels place t jumps bind k all j b =
    let S = With (SpellsMark names) is_whole in
    let flags = all-flags-spell S names.flags t (λ s i lt. let e : i ≡ 0 + i = omega arith in
    ((name_at names.flags i, refl, index-found names.flags i k.flags lt ∙ ap Some e), front-name (sign_byte s) names.flags i (sign-plain s) k.flag_names lt)) in
    each-append S _ _ _ _ (each-append S _ _ _ _ flags (jumps-spell names t.verb labels place 0 jumps all j)) (bind-spells names t.verb jumps bind k b)

-- ---- they may stand together

jumps-stand : (v : Verb) (labels : List Label) (place least : ℕ) (jumps : List (Class × ℕ)) → AreJumps v labels place least jumps
    → list_all (may_stand v) (jump_marks labels jumps) ≡ true
jumps-stand v labels place least [] h = refl
jumps-stand v labels place least (jump ∷ jumps) h =
    and_from (is_legal v jump.0) (list_all (may_stand v) (jump_marks labels jumps)) h.1 (jumps-stand v labels place (class_index jump.0 + 1) jumps h.3)

bind-stands : (names : Names) (v : Verb) (jumps : List (Class × ℕ)) (bind : Option ℕ) → MayBind names v jumps bind
    → list_all (may_stand v) (bind_marks bind) ≡ true
bind-stands names v jumps None h = refl
bind-stands names v jumps (Some variable) h = and_from (shows_numbers v) true h.1 refl

later-jump : (v : Verb) (labels : List Label) (place least : ℕ) (c : Class) (l : Word) (jumps : List (Class × ℕ)) → AreJumps v labels place least jumps
    → class_index c < least → list_any (are_twins (mark.Jump c l)) (jump_marks labels jumps) ≡ false
later-jump v labels place least c l [] h lt = refl
later-jump v labels place least c l (jump ∷ jumps) h lt =
    let from = h.0 in
    or_from (class_index c == class_index jump.0) (list_any (are_twins (mark.Jump c l)) (jump_marks labels jumps))
    (ne_eqb (class_index c) (class_index jump.0) (λ e. absurd (omega (arith, from, lt, e))))
    (later-jump v labels place (class_index jump.0 + 1) c l jumps h.3 (omega (arith, from, lt)))

jumps-distinct : (v : Verb) (labels : List Label) (place least : ℕ) (jumps : List (Class × ℕ)) → AreJumps v labels place least jumps
    → have_no_twins (jump_marks labels jumps) ≡ true
jumps-distinct v labels place least [] h = refl
jumps-distinct v labels place least (jump ∷ jumps) h =
    and_from (not (list_any (are_twins (mark.Jump jump.0 (label_at labels jump.1))) (jump_marks labels jumps))) (have_no_twins (jump_marks labels jumps))
    (not_from_false _ (later-jump v labels place (class_index jump.0 + 1) jump.0 (label_at labels jump.1) jumps h.3 (omega arith)))
    (jumps-distinct v labels place (class_index jump.0 + 1) jumps h.3)

bind-distinct : (bind : Option ℕ) → have_no_twins (bind_marks bind) ≡ true
bind-distinct None = refl
bind-distinct (Some variable) = refl

flag-no-jump : (labels : List Label) (s : Sign) (f : ℕ) (jumps : List (Class × ℕ)) → list_any (are_twins (mark.Flag s f)) (jump_marks labels jumps) ≡ false
flag-no-jump labels s f [] = refl
flag-no-jump labels s f (jump ∷ jumps) = flag-no-jump labels s f jumps

flag-no-bind : (s : Sign) (f : ℕ) (bind : Option ℕ) → list_any (are_twins (mark.Flag s f)) (bind_marks bind) ≡ false
flag-no-bind s f None = refl
flag-no-bind s f (Some variable) = refl

jump-no-bind : (c : Class) (l : Word) (bind : Option ℕ) → list_any (are_twins (mark.Jump c l)) (bind_marks bind) ≡ false
jump-no-bind c l None = refl
jump-no-bind c l (Some variable) = refl

jumps-apart-bind : (labels : List Label) (jumps : List (Class × ℕ)) (bind : Option ℕ) → are_apart (jump_marks labels jumps) (bind_marks bind) ≡ true
jumps-apart-bind labels [] bind = refl
jumps-apart-bind labels (jump ∷ jumps) bind =
    and_from (not (list_any (are_twins (mark.Jump jump.0 (label_at labels jump.1))) (bind_marks bind))) (are_apart (jump_marks labels jumps) (bind_marks bind))
    (not_from_false _ (jump-no-bind jump.0 (label_at labels jump.1) bind)) (jumps-apart-bind labels jumps bind)

marks-distinct : (flags : List Word) (v : Verb) (labels : List Label) (place : ℕ) (t : Template) (jumps : List (Class × ℕ)) (bind : Option ℕ)
    → have_no_twins (all_flag_marks flags t) ≡ true → AreJumps v labels place 0 jumps → have_no_twins (marks_of flags labels t jumps bind) ≡ true
marks-distinct flags v labels place t jumps bind f j =
    let F = all_flag_marks flags t in
    let J = jump_marks labels jumps in
    let B = bind_marks bind in
    let fj = all-flags-all (λ m. not (list_any (are_twins m) J)) flags t (λ s i. not_from_false _ (flag-no-jump labels s i jumps)) in
    let fb = all-flags-all (λ m. not (list_any (are_twins m) B)) flags t (λ s i. not_from_false _ (flag-no-bind s i bind)) in
    no-twins-append (F ++ J) B (no-twins-append F J f (jumps-distinct v labels place 0 jumps j) fj) (bind-distinct bind)
    (apart-append F J B fb (jumps-apart-bind labels jumps bind))

abbrev pub is_flag_mark : Mark → Bool
is_flag_mark (mark.Flag s f) = true
is_flag_mark m = false

none-of-flags : (p : Mark → Bool) (ms : List Mark) → ((s : Sign) (f : ℕ) → p (mark.Flag s f) ≡ false) → list_all is_flag_mark ms ≡ true → list_any p ms ≡ false
none-of-flags p [] none h = refl
none-of-flags p (mark.Flag s f ∷ ms) none h = or_from (p (mark.Flag s f)) (list_any p ms) (none s f) (none-of-flags p ms none h)
none-of-flags p (m ∷ ms) none h = absurd (cc)

pub flags-are-flags : (flags : List Word) (t : Template) → list_all is_flag_mark (all_flag_marks flags t) ≡ true
flags-are-flags flags t = all-flags-all is_flag_mark flags t (λ s f. refl)

jumps-no-bind : (labels : List Label) (jumps : List (Class × ℕ)) → list_any is_bind (jump_marks labels jumps) ≡ false
jumps-no-bind labels [] = refl
jumps-no-bind labels (jump ∷ jumps) = jumps-no-bind labels jumps

number-jumps : (labels : List Label) (jumps : List (Class × ℕ)) → list_any is_number_jump (jump_marks labels jumps) ≡ jumps_on_number jumps
number-jumps labels [] = refl
number-jumps labels (jump ∷ jumps) =
    ap (λ b. b || list_any is_number_jump (jump_marks labels jumps)) (number-jump jump.0 (label_at labels jump.1))
    ∙ ap (λ b. is_number_class jump.0 || b) (number-jumps labels jumps)

marks-free : (names : Names) (labels : List Label) (v : Verb) (t : Template) (jumps : List (Class × ℕ)) (bind : Option ℕ) → MayBind names v jumps bind
    → (list_any is_bind (marks_of names.flags labels t jumps bind) && list_any is_number_jump (marks_of names.flags labels t jumps bind)) ≡ false
marks-free names labels v t jumps None h =
    let F = all_flag_marks names.flags t in
    let J = jump_marks labels jumps in
    let none = any-append is_bind (F ++ J) []
    (any-append is_bind F J (none-of-flags is_bind F (λ s f. refl) (flags-are-flags names.flags t)) (jumps-no-bind labels jumps)) refl in
    ap (λ b. b && list_any is_number_jump (marks_of names.flags labels t jumps None)) none
marks-free names labels v t jumps (Some variable) h =
    let F = all_flag_marks names.flags t in
    let J = jump_marks labels jumps in
    and_right (list_any is_bind (marks_of names.flags labels t jumps (Some variable))) _
    (any-append is_number_jump (F ++ J) (mark.Bind variable ∷ [])
    (any-append is_number_jump F J (none-of-flags is_number_jump F (λ s f. refl) (flags-are-flags names.flags t)) (number-jumps labels jumps ∙ h.2)) refl)

pub marks-together : (names : Names) (keys : ℕ) (labels : List Label) (place : ℕ) (t : Template) (jumps : List (Class × ℕ)) (bind : Option ℕ)
    → IsTemplate keys (length names.flags) (length names.vars) t → AreJumps t.verb labels place 0 jumps → MayBind names t.verb jumps bind
    → may_stand_together t.verb (marks_of names.flags labels t jumps bind) ≡ true
marks-together names keys labels place t jumps bind h j b =
    let v = t.verb in
    let F = all_flag_marks names.flags t in
    let J = jump_marks labels jumps in
    let M = marks_of names.flags labels t jumps bind in
    from-three (list_all (may_stand v) M) (have_no_twins M) (not (list_any is_bind M && list_any is_number_jump M))
    (all-append (may_stand v) (F ++ J) (bind_marks bind)
    (all-append (may_stand v) F J (all-flags-all (may_stand v) names.flags t (λ s f. refl)) (jumps-stand v labels place 0 jumps j))
    (bind-stands names v jumps bind b))
    (marks-distinct names.flags v labels place t jumps bind (all-flags-distinct names.flags t h.needs_apart h.changes_apart) j)
    (not_from_false _ (marks-free names labels v t jumps bind b))

-- ---- they say the masks

jumps-silent : (s : Sign) (mask : ℕ) (labels : List Label) (jumps : List (Class × ℕ)) → gathered s mask (jump_marks labels jumps) ≡ mask
jumps-silent s mask labels [] = refl
jumps-silent s mask labels (jump ∷ jumps) = jumps-silent s mask labels jumps

bind-silent : (s : Sign) (mask : ℕ) (bind : Option ℕ) → gathered s mask (bind_marks bind) ≡ mask
bind-silent s mask None = refl
bind-silent s mask (Some v) = refl

-- the flags of a template with this sign
abbrev pub mask_at : Template → Sign → ℕ
mask_at t sign.RequireSet = t.require_set
mask_at t sign.RequireClear = t.require_clear
mask_at t sign.Sets = t.sets
mask_at t sign.Clears = t.clears

abbrev marks_at : List Word → Template → Sign → List Mark
marks_at flags t s = flag_marks s (mask_at t s) 0 flags

four : (flags : List Word) (t : Template) (s : Sign) (i j k l : ℕ) → gathered s 0 (marks_at flags t sign.RequireSet) ≡ i
    → gathered s i (marks_at flags t sign.RequireClear) ≡ j → gathered s j (marks_at flags t sign.Sets) ≡ k
    → gathered s k (marks_at flags t sign.Clears) ≡ l → gathered s 0 (all_flag_marks flags t) ≡ l
four flags t s i j k l a b c d =
    let F = marks_at flags t in
    let x = F sign.RequireSet in
    let y = F sign.RequireClear in
    let z = F sign.Sets in
    let w = F sign.Clears in
    gathered-append s 0 (x ++ y ++ z) w ∙ ap (λ n. gathered s n w) (gathered-append s 0 (x ++ y) z
    ∙ ap (λ n. gathered s n z) (gathered-append s 0 x y ∙ ap (λ n. gathered s n y) a ∙ b) ∙ c) ∙ d

quiet : (flags : List Word) (t : Template) (s u : Sign) (n : ℕ) → (sign_byte s == sign_byte u) ≡ false → gathered s n (marks_at flags t u) ≡ n
quiet flags t s u n d = others-silent s u n (mask_at t u) 0 flags d

flags-gathered : (flags : List Word) (t : Template) (s : Sign) → gathered s 0 (marks_at flags t s) ≡ mask_at t s
    → gathered s 0 (all_flag_marks flags t) ≡ mask_at t s
flags-gathered flags t sign.RequireSet own =
    let q = quiet flags t sign.RequireSet in
    let m = t.require_set in
    four flags t sign.RequireSet m m m m own (q sign.RequireClear m refl) (q sign.Sets m refl) (q sign.Clears m refl)
flags-gathered flags t sign.RequireClear own =
    let q = quiet flags t sign.RequireClear in
    let m = t.require_clear in
    four flags t sign.RequireClear 0 m m m (q sign.RequireSet 0 refl) own (q sign.Sets m refl) (q sign.Clears m refl)
flags-gathered flags t sign.Sets own =
    let q = quiet flags t sign.Sets in
    four flags t sign.Sets 0 0 t.sets t.sets (q sign.RequireSet 0 refl) (q sign.RequireClear 0 refl) own (q sign.Clears t.sets refl)
flags-gathered flags t sign.Clears own =
    let q = quiet flags t sign.Clears in
    four flags t sign.Clears 0 0 0 t.clears (q sign.RequireSet 0 refl) (q sign.RequireClear 0 refl) (q sign.Sets 0 refl) own

pub says-mask : (flags : List Word) (labels : List Label) (t : Template) (jumps : List (Class × ℕ)) (bind : Option ℕ) (s : Sign)
    → mask_at t s < 2 ^ length flags → mask_of s (marks_of flags labels t jumps bind) ≡ mask_at t s
says-mask flags labels t jumps bind s small =
    let F = all_flag_marks flags t in
    let J = jump_marks labels jumps in
    gathered-append s 0 (F ++ J) (bind_marks bind) ∙ bind-silent s (gathered s 0 (F ++ J)) bind ∙ gathered-append s 0 F J
    ∙ jumps-silent s (gathered s 0 F) labels jumps ∙ flags-gathered flags t s (flags-say s (mask_at t s) flags small)
