-- The marks of a step as they are printed: they say its jumps, and what is bound.
use Rattle.std.proofs.Common.{◌≡◌, ℕ, ◌+◌, ◌<◌, ◌==◌, true, Option, Some, None, List, [], ◌∷◌, ◌++◌}
use Rattle.std.proofs.Common.{refl, ap, ◌∙◌, arith, ◌≤◌, cond, ◌⊎◌, inl, inr, ⊎_elim, sym, subst, append_assoc}
use Rattle.std.proofs.lemmas.Bool.{ne_eqb, eq-eqb, cond-true, cond-false, cases_order}
use Rattle.std.specs.List.{list_all}
use Rattle.mc_script_text.specs.{Values.Verb, Values.Class, Values.Word, Values.Mark, Values.Label, Values.Template, Marks.target_of, Marks.bound_by}
use Rattle.mc_script_text.specs.{PrintedScript.label_at, Steps.in_front, Steps.jump_before, Steps.jumps_on}
use Rattle.mc_script_text.specs.Values.class
use Rattle.mc_script_text.specs.Values.mark
use Rattle.mc_protocol.specs.{Names.are_distinct, Words.class_index, Words.all_classes}
use Rattle.mc_script.specs.Chains.{◌>>=◌}
use Rattle.mc_script.specs.{WellFormed.label_names, WellFormed.IsAfter, WellFormed.AreJumps}
use Rattle.mc_script_text.proofs.PrintedMarks.{jump_marks, bind_marks, marks_of, is_flag_mark, flags-are-flags}
use Rattle.mc_script_text.proofs.{JumpLists.class-same, PrintedNames.label-found, PrintedFlags.all_flag_marks}

-- ---- they say the jumps, and what is bound

target-skip : (c : Class) (ms rest : List Mark) → list_all is_flag_mark ms ≡ true → target_of c (ms ++ rest) ≡ target_of c rest
target-skip c [] rest h = refl
target-skip c (mark.Flag s f ∷ ms) rest h = target-skip c ms rest h
target-skip c (m ∷ ms) rest h = absurd (cc)

bound-skip : (ms rest : List Mark) → list_all is_flag_mark ms ≡ true → bound_by (ms ++ rest) ≡ bound_by rest
bound-skip [] rest h = refl
bound-skip (mark.Flag s f ∷ ms) rest h = bound-skip ms rest h
bound-skip (m ∷ ms) rest h = absurd (cc)

bound-jumps : (labels : List Label) (jumps : List (Class × ℕ)) (bind : Option ℕ) → bound_by (jump_marks labels jumps ++ bind_marks bind) ≡ bind
bound-jumps labels [] None = refl
bound-jumps labels [] (Some v) = refl
bound-jumps labels (jump ∷ jumps) bind = bound-jumps labels jumps bind

pub says-bind : (flags : List Word) (labels : List Label) (t : Template) (jumps : List (Class × ℕ)) (bind : Option ℕ)
    → bound_by (marks_of flags labels t jumps bind) ≡ bind
says-bind flags labels t jumps bind =
    ap bound_by (append_assoc (all_flag_marks flags t) (jump_marks labels jumps) (bind_marks bind))
    ∙ bound-skip (all_flag_marks flags t) (jump_marks labels jumps ++ bind_marks bind) (flags-are-flags flags t) ∙ bound-jumps labels jumps bind

bind-target : (c : Class) (bind : Option ℕ) → target_of c (bind_marks bind) ≡ None
bind-target c None = refl
bind-target c (Some v) = refl

-- the jumps after the flags decide
jumps-target : (c : Class) (labels : List Label) (jumps : List (Class × ℕ)) (bind : Option ℕ)
    → target_of c (jump_marks labels jumps ++ bind_marks bind) ≡ target_of c (jump_marks labels jumps)
jumps-target c labels [] bind = bind-target c bind
jumps-target c labels (jump ∷ jumps) bind =
    ap (λ o. cond (class_index c == class_index jump.0) (Some (label_at labels jump.1)) o) (jumps-target c labels jumps bind)

marks-target : (c : Class) (flags : List Word) (labels : List Label) (t : Template) (jumps : List (Class × ℕ)) (bind : Option ℕ)
    → target_of c (marks_of flags labels t jumps bind) ≡ target_of c (jump_marks labels jumps)
marks-target c flags labels t jumps bind =
    ap (target_of c) (append_assoc (all_flag_marks flags t) (jump_marks labels jumps) (bind_marks bind))
    ∙ target-skip c (all_flag_marks flags t) (jump_marks labels jumps ++ bind_marks bind) (flags-are-flags flags t) ∙ jumps-target c labels jumps bind

no-target : (v : Verb) (labels : List Label) (place least : ℕ) (c : Class) (jumps : List (Class × ℕ)) → AreJumps v labels place least jumps
    → class_index c < least
    → target_of c (jump_marks labels jumps) ≡ None
no-target v labels place least c [] h lt = refl
no-target v labels place least c (jump ∷ jumps) h lt =
    let from = h.0 in
    cond-false (class_index c == class_index jump.0) (Some (label_at labels jump.1)) (target_of c (jump_marks labels jumps))
    (ne_eqb (class_index c) (class_index jump.0) (λ e. absurd (omega (arith, from, lt, e))))
    ∙ no-target v labels place (class_index jump.0 + 1) c jumps h.3 (omega (arith, from, lt))

-- the classes are numbered from this on, up to the last
abbrev Numbered : ℕ → List Class → Type 0
Numbered n [] = n ≡ 10
Numbered n (c ∷ classes) = (class_index c ≡ n) × Numbered (n + 1) classes

all-numbered : Numbered 0 all_classes
all-numbered = (refl, (refl, (refl, (refl, (refl, (refl, (refl, (refl, (refl, (refl, refl))))))))))

below-ten : (c : Class) → class_index c < 10
below-ten class.Stored = omega arith
below-ten c = omega arith

-- a jump that comes first, or none on this class
first-jump : (v : Verb) (labels : List Label) (place n : ℕ) (c : Class) (jumps : List (Class × ℕ)) → class_index c ≡ n → AreJumps v labels place n jumps
    → AreJumps v labels place (n + 1) jumps
    ⊎ ((index : ℕ) × (js : List (Class × ℕ)) × (jumps ≡ (c, index) ∷ js) × IsAfter labels place index × AreJumps v labels place (n + 1) js)
first-jump v labels place n c [] e h = inl tt
first-jump v labels place n c ((d, index) ∷ js) e h =
    let from = h.0 in
    let P : ℕ → Type 0 = λ k. AreJumps v labels place k js in
    ⊎_elim
    (λ same.
    let k : class_index c ≡ class_index d = e ∙ same in
    let one : class_index d + 1 ≡ n + 1 = omega (arith, same) in
    let cd : c ≡ d = class-same c d (eq-eqb (class_index c) (class_index d) k) in
    inr (index, js, ap (λ x. (x, index) ∷ js) (sym cd), h.2, subst P one h.3))
    (λ o. ⊎_elim (λ lt. inl (omega (arith, lt), h.1, h.2, h.3)) (λ lt. absurd (omega (arith, lt, from))) o)
    (cases_order n (class_index d))

-- the marks have jumps on these classes
jumps-again : (v : Verb) (labels : List Label) (place n : ℕ) (marks : List Mark) (classes : List Class) (jumps : List (Class × ℕ))
    → are_distinct (label_names labels) ≡ true → Numbered n classes → AreJumps v labels place n jumps
    → ((c : Class) → n ≤ class_index c → target_of c marks ≡ target_of c (jump_marks labels jumps))
    → jumps_on labels place marks classes ≡ Some jumps
jumps-again v labels place n marks [] [] distinct numbered h target = refl
jumps-again v labels place n marks [] ((d, index) ∷ js) distinct numbered h target =
    let from = h.0 in
    let small = below-ten d in
    absurd (omega (arith, from, small, numbered))
jumps-again v labels place n marks (c ∷ classes) jumps distinct numbered h target =
    let here = numbered.0 in
    ⊎_elim
    (λ later.
    let none : target_of c marks ≡ None = target c (omega (arith, here)) ∙ no-target v labels place (n + 1) c jumps later (omega (arith, here)) in
    ap (λ o. jump_before labels place c o (jumps_on labels place marks classes)) none
    ∙ jumps-again v labels place (n + 1) marks classes jumps distinct numbered.1 later (λ d lt. target d (omega (arith, lt))))
    (λ (index, js, e, behind, rest).
    let name = label_at labels index in
    let some : target_of c marks ≡ Some name =
    target c (omega (arith, here)) ∙ ap (λ l. target_of c (jump_marks labels l)) e
    ∙ cond-true (class_index c == class_index c) (Some name) (target_of c (jump_marks labels js)) (eq-eqb (class_index c) (class_index c) refl) in
    let found = label-found labels place index behind.0 distinct behind.1 behind.2 in
    let others = jumps-again v labels place (n + 1) marks classes js distinct numbered.1 rest
    (λ d lt. target d (omega (arith, lt)) ∙ ap (λ l. target_of d (jump_marks labels l)) e
    ∙ cond-false (class_index d == class_index c) (Some name) (target_of d (jump_marks labels js))
    (ne_eqb (class_index d) (class_index c) (λ k. absurd (omega (arith, k, lt, here))))) in
    ap (λ o. jump_before labels place c o (jumps_on labels place marks classes)) some
    ∙ ap (λ o. in_front (o >>= λ l. Some (c, l)) (jumps_on labels place marks classes)) found
    ∙ ap (in_front (Some (c, index))) others ∙ ap Some (sym e))
    (first-jump v labels place n c jumps here h)

pub says-jumps : (v : Verb) (flags : List Word) (labels : List Label) (place : ℕ) (t : Template) (jumps : List (Class × ℕ)) (bind : Option ℕ)
    → are_distinct (label_names labels) ≡ true → AreJumps v labels place 0 jumps
    → jumps_on labels place (marks_of flags labels t jumps bind) all_classes ≡ Some jumps
says-jumps v flags labels place t jumps bind distinct h =
    jumps-again v labels place 0 (marks_of flags labels t jumps bind) all_classes jumps distinct all-numbered h
    (λ c _. marks-target c flags labels t jumps bind)
