-- The jumps of a step: found in the order of its marks, on legal classes in their order, to labels after the step.
use Rattle.std.proofs.Common.{◌≡◌, ℕ, ◌+◌, ◌≤◌, ◌==◌, nat_lt, true, false, ◌&&◌, ◌⊎◌, inl, inr, ⊎_elim, Option, Some, None, List, [], ◌∷◌, get_or, refl}
use Rattle.std.proofs.Common.{sym, ap, subst, ◌∙◌, arith, Bool, not, ◌||◌, cond, ◌++◌}
use Rattle.std.proofs.lemmas.Bool.{and_parts, or_left, or_right, or_from, eqb-true, ltb-true, false_from_ne_true, both_ways, not-true}
use Rattle.std.proofs.{lemmas.List.Quantifiers.position-Some, lemmas.Option.slice_get-get_or}
use Rattle.std.specs.{List.list_all, List.list_any, Str.bytes_eq}
use Rattle.mc_protocol.specs.{Legal.is_legal, Words.class_index, Words.all_classes}
use Rattle.mc_script_text.specs.Marks.{may_stand, is_number_jump, target_of, are_twins, have_no_twins}
use Rattle.mc_script_text.specs.{Values.Verb, Values.Class, Values.Word, Values.Mark, Values.Label, Steps.label_after, Steps.jump_named, Steps.jump_before}
use Rattle.mc_script_text.specs.{Steps.jumps_on, Steps.in_front, Reading.targets_in, Reading.label_for, Reading.one_jump, Reading.jumps_to}
use Rattle.mc_script_text.specs.Values.class
use Rattle.mc_script_text.specs.Values.mark
use Rattle.mc_script.specs.WellFormed.{IsAfter, AreJumps, is_number_class, jumps_on_number}
use Rattle.mc_script_text.proofs.Outcomes.{then-some, some-same, cond-cases, front-parts}

-- ---- classes

abbrev class_at : ℕ → Class
class_at n = get_or all_classes n class.Stored

class-at : (c : Class) → class_at (class_index c) ≡ c
class-at class.Stored = refl
class-at c = refl

pub class-same : (c d : Class) → (class_index c == class_index d) ≡ true → c ≡ d
class-same c d h = sym (class-at c) ∙ ap class_at (eqb-true (class_index c) (class_index d) h) ∙ class-at d

-- the classes are from this one on, in their order
abbrev Ascend : ℕ → List Class → Type 0
Ascend least [] = Unit {0}
Ascend least (c ∷ classes) = (least ≤ class_index c) × Ascend (class_index c + 1) classes

pub all-ascend : Ascend 0 all_classes
all-ascend =
    (omega arith, (omega arith, (omega arith, (omega arith, (omega arith, (omega arith, (omega arith, (omega arith, (omega arith, (omega arith, tt))))))))))

-- ---- where the marks go

target-legal : (v : Verb) (marks : List Mark) (c : Class) (name : Word) → list_all (may_stand v) marks ≡ true → target_of c marks ≡ Some name
    → is_legal v c ≡ true
target-legal v [] c name h g = absurd (cc)
target-legal v (mark.Flag s f ∷ marks) c name h g = target-legal v marks c name h g
target-legal v (mark.Bind w ∷ marks) c name h g =
    target-legal v marks c name (and_parts (may_stand v (mark.Bind w)) (list_all (may_stand v) marks) h).1 g
target-legal v (mark.Jump d l ∷ marks) c name h g =
    let p = and_parts (is_legal v d) (list_all (may_stand v) marks) h in
    cond-cases (class_index c == class_index d) (Some l) (target_of c marks) name (is_legal v c ≡ true) g
    (λ b _. rw (class-same c d b) p.0)
    (λ _ k. target-legal v marks c name p.1 k)

pub number-jump : (c : Class) (l : Word) → is_number_jump (mark.Jump c l) ≡ is_number_class c
number-jump class.Stored l = refl
number-jump c l = refl

target-number : (marks : List Mark) (c : Class) (name : Word) → is_number_class c ≡ true → target_of c marks ≡ Some name
    → list_any is_number_jump marks ≡ true
target-number [] c name h g = absurd (cc)
target-number (mark.Jump d l ∷ marks) c name h g =
    cond-cases (class_index c == class_index d) (Some l) (target_of c marks) name (list_any is_number_jump (mark.Jump d l ∷ marks) ≡ true) g
    (λ b _. or_left (is_number_jump (mark.Jump d l)) (list_any is_number_jump marks) (number-jump d l ∙ rw (← class-same c d b) h))
    (λ _ k. or_right (is_number_jump (mark.Jump d l)) (list_any is_number_jump marks) (target-number marks c name h k))
target-number (m ∷ marks) c name h g = target-number marks c name h g

-- ---- labels

pub label-after : (labels : List Label) (place index : ℕ) (name : Word) → label_after labels place name ≡ Some index → IsAfter labels place index
label-after labels place index name h =
    let none : Label = record { name = []; place = 0 } in
    let p = position-Some (λ (label : Label). bytes_eq label.name name && nat_lt place label.place) labels index none h in
    let label = get_or labels index none in
    (label, slice_get-get_or labels index none p.0, ltb-true place label.place (and_parts (bytes_eq label.name name) (nat_lt place label.place) p.1).1)

-- ---- jumps

-- no jump on the class, or one
abbrev pub Jumped : List Label → ℕ → Class → Option Word → Option (List (Class × ℕ)) → List (Class × ℕ) → Type 0
Jumped labels place c o rest jumps =
    (rest ≡ Some jumps) ⊎ ((name : Word) × (index : ℕ) × (js : List (Class × ℕ)) × (o ≡ Some name) × (label_after labels place name ≡ Some index)
    × (rest ≡ Some js) × (jumps ≡ (c, index) ∷ js))

pub jump-parts : (labels : List Label) (place : ℕ) (c : Class) (o : Option Word) (rest : Option (List (Class × ℕ))) (jumps : List (Class × ℕ))
    → jump_before labels place c o rest ≡ Some jumps → Jumped labels place c o rest jumps
jump-parts labels place c None rest jumps h = inl h
jump-parts labels place c (Some name) rest jumps h =
    let (jump, js, e, f, g) = front-parts (jump_named labels place c name) rest jumps h in
    let p = then-some (label_after labels place name) _ _ e in
    inr (name, p.0, js, refl, p.1, f, sym g ∙ ap (λ j. j ∷ js) (sym (some-same (c, p.0) jump p.2)))

weaker : (v : Verb) (labels : List Label) (place a b : ℕ) (jumps : List (Class × ℕ)) → a ≤ b → AreJumps v labels place b jumps → AreJumps v labels place a jumps
weaker v labels place a b [] le h = tt
weaker v labels place a b (jump ∷ jumps) le (from, legal, behind, rest) = (omega (arith, from, le), legal, behind, rest)

jumps-on-formed : (v : Verb) (labels : List Label) (place least : ℕ) (marks : List Mark) (classes : List Class) (jumps : List (Class × ℕ))
    → Ascend least classes → list_all (may_stand v) marks ≡ true → jumps_on labels place marks classes ≡ Some jumps
    → AreJumps v labels place least jumps
jumps-on-formed v labels place least marks [] jumps asc stand h =
    let P : List (Class × ℕ) → Type 0 = AreJumps v labels place least in
    subst P (some-same [] jumps h) tt
jumps-on-formed v labels place least marks (c ∷ classes) jumps asc stand h =
    let P : List (Class × ℕ) → Type 0 = AreJumps v labels place least in
    let from = asc.0 in
    ⊎_elim
    (λ e. weaker v labels place least (class_index c + 1) jumps (omega (arith, from))
    (jumps-on-formed v labels place (class_index c + 1) marks classes jumps asc.1 stand e))
    (λ (name, index, js, e, f, g, d). subst P (sym d) (
      from,
      target-legal v marks c name stand e,
      label-after labels place index name f,
      jumps-on-formed v labels place (class_index c + 1) marks classes js asc.1 stand g,
    ))
    (jump-parts labels place c (target_of c marks) (jumps_on labels place marks classes) jumps h)

pub jumps-formed : (v : Verb) (labels : List Label) (place : ℕ) (marks : List Mark) (jumps : List (Class × ℕ))
    → list_all (may_stand v) marks ≡ true → jumps_on labels place marks all_classes ≡ Some jumps → AreJumps v labels place 0 jumps
jumps-formed v labels place marks jumps stand h = jumps-on-formed v labels place 0 marks all_classes jumps all-ascend stand h

-- where no mark jumps on a number, none of the jumps does
pub no-number-jump : (labels : List Label) (place : ℕ) (marks : List Mark) (classes : List Class) (jumps : List (Class × ℕ))
    → list_any is_number_jump marks ≡ false → jumps_on labels place marks classes ≡ Some jumps → jumps_on_number jumps ≡ false
no-number-jump labels place marks [] jumps none h =
    let P : List (Class × ℕ) → Type 0 = λ js. jumps_on_number js ≡ false in
    subst P (some-same [] jumps h) refl
no-number-jump labels place marks (c ∷ classes) jumps none h =
    let P : List (Class × ℕ) → Type 0 = λ js. jumps_on_number js ≡ false in
    ⊎_elim
    (λ e. no-number-jump labels place marks classes jumps none e)
    (λ (name, index, js, e, f, g, d). subst P (sym d)
    (or_from (is_number_class c) (jumps_on_number js)
    (false_from_ne_true (is_number_class c) (λ y. both_ways (list_any is_number_jump marks) none (target-number marks c name y e)))
    (no-number-jump labels place marks classes js none g)))
    (jump-parts labels place c (target_of c marks) (jumps_on labels place marks classes) jumps h)

-- ---- where each target is found

-- what the marks say of a class, and what was found for it
abbrev Agree : List Label → ℕ → Option Word → Option ℕ → Type 0
Agree labels place None found = found ≡ None
Agree labels place (Some name) found = (label : ℕ) × (label_after labels place name ≡ Some label) × (found ≡ Some label)

found-parts : (labels : List Label) (place : ℕ) (d : Class) (name : Word) (xs : Option (List (Class × ℕ))) (ts : List (Class × ℕ))
    → in_front (jump_named labels place d name) xs ≡ Some ts
    → (label : ℕ) × (us : List (Class × ℕ)) × (label_after labels place name ≡ Some label) × (xs ≡ Some us) × (ts ≡ (d, label) ∷ us)
found-parts labels place d name xs ts h =
    let (jump, us, e, f, g) = front-parts (jump_named labels place d name) xs ts h in
    let p = then-some (label_after labels place name) _ _ e in
    (p.0, us, p.1, f, sym g ∙ ap (λ j. j ∷ us) (sym (some-same (d, p.0) jump p.2)))

agree-here : (labels : List Label) (place : ℕ) (b : Bool) (name : Word) (label : ℕ) (o : Option Word) (p : Option ℕ)
    → label_after labels place name ≡ Some label → Agree labels place o p → Agree labels place (cond b (Some name) o) (cond b (Some label) p)
agree-here labels place true name label o p e a = (label, e, refl)
agree-here labels place false name label o p e a = a

targets-agree : (labels : List Label) (place : ℕ) (c : Class) (marks : List Mark) (ts : List (Class × ℕ)) → targets_in labels place marks ≡ Some ts
    → Agree labels place (target_of c marks) (label_for c ts)
targets-agree labels place c [] ts h = ap (label_for c) (sym (some-same [] ts h))
targets-agree labels place c (mark.Jump d name ∷ marks) ts h =
    let (label, us, e, f, g) = found-parts labels place d name (targets_in labels place marks) ts h in
    let P : List (Class × ℕ) → Type 0 = λ xs. Agree labels place (target_of c (mark.Jump d name ∷ marks)) (label_for c xs) in
    subst P (sym g)
    (agree-here labels place (class_index c == class_index d) name label (target_of c marks) (label_for c us) e (targets-agree labels place c marks us f))
targets-agree labels place c (m ∷ marks) ts h = targets-agree labels place c marks ts h

jump-found : (labels : List Label) (place : ℕ) (c : Class) (o : Option Word) (p : Option ℕ) (jumps : List (Class × ℕ)) → Agree labels place o p
    → jump_before labels place c o (Some jumps) ≡ Some (one_jump c p ++ jumps)
jump-found labels place c None p jumps e = rw e refl
jump-found labels place c (Some name) p jumps (label, e, f) = rw (e, f) refl

pub jumps-found : (labels : List Label) (place : ℕ) (marks : List Mark) (ts : List (Class × ℕ)) (classes : List Class) → targets_in labels place marks ≡ Some ts
    → jumps_on labels place marks classes ≡ Some (jumps_to ts classes)
jumps-found labels place marks ts [] h = refl
jumps-found labels place marks ts (c ∷ classes) h =
    rw (jumps-found labels place marks ts classes h)
    (jump-found labels place c (target_of c marks) (label_for c ts) (jumps_to ts classes) (targets-agree labels place c marks ts h))

-- ---- where one is missing

same-index : (c : Class) → (class_index c == class_index c) ≡ true
same-index class.Stored = refl
same-index c = refl

target-twin : (d : Class) (label : Word) (marks : List Mark) (name : Word) → target_of d marks ≡ Some name
    → list_any (are_twins (mark.Jump d label)) marks ≡ true
target-twin d label [] name h = absurd (cc)
target-twin d label (mark.Jump c l ∷ marks) name h =
    let twin : Bool = class_index d == class_index c in
    let others : Bool = list_any (are_twins (mark.Jump d label)) marks in
    cond-cases twin (Some l) (target_of d marks) name ((twin || others) ≡ true) h
    (λ b _. or_left twin others b)
    (λ _ g. or_right twin others (target-twin d label marks name g))
target-twin d label (m ∷ marks) name h = target-twin d label marks name h

every-class : (c : Class) → list_any (λ d. class_index c == class_index d) all_classes ≡ true
every-class class.Stored = refl
every-class c = refl

-- the first mark on a class is the only one, since no two are twins; so each label is found, where those of all classes are
targets-found : (labels : List Label) (place : ℕ) (marks : List Mark) → have_no_twins marks ≡ true
    → ((c : Class) (name : Word) → target_of c marks ≡ Some name → (label : ℕ) × (label_after labels place name ≡ Some label))
    → (ts : List (Class × ℕ)) × (targets_in labels place marks ≡ Some ts)
targets-found labels place [] n found = ([], refl)
targets-found labels place (mark.Jump d name ∷ marks) n found =
    let p = and_parts (not (list_any (are_twins (mark.Jump d name)) marks)) (have_no_twins marks) n in
    let here = found d name (rw (same-index d) refl) in
    let other : (c : Class) (other : Word) → target_of c marks ≡ Some other → (class_index c == class_index d) ≡ false = λ c other t.
    false_from_ne_true (class_index c == class_index d) (λ same.
    both_ways (list_any (are_twins (mark.Jump d name)) marks) (not-true (list_any (are_twins (mark.Jump d name)) marks) p.0)
    (target-twin d name marks other (ap (λ x. target_of x marks) (sym (class-same c d same)) ∙ t))) in
    let rest = targets-found labels place marks p.1 (λ c name t. found c name (rw (other c name t) t)) in
    ((d, here.0) ∷ rest.0, rw (here.1, rest.1) refl)
targets-found labels place (m ∷ marks) n found =
    targets-found labels place marks (and_parts (not (list_any (are_twins m) marks)) (have_no_twins marks) n).1 found

label-found : (labels : List Label) (place : ℕ) (marks : List Mark) (c : Class) (name : Word) (classes : List Class) (js : List (Class × ℕ))
    → target_of c marks ≡ Some name → list_any (λ d. class_index c == class_index d) classes ≡ true → jumps_on labels place marks classes ≡ Some js
    → (label : ℕ) × (label_after labels place name ≡ Some label)
label-found labels place marks c name [] js t m h = absurd (cc)
label-found labels place marks c name (d ∷ classes) js t m h =
    go (class_index c == class_index d) refl (λ others k. label-found labels place marks c name classes others t k)
  where
    go : (b : Bool) → (class_index c == class_index d) ≡ b
        → ((others : List (Class × ℕ)) → list_any (λ x. class_index c == class_index x) classes ≡ true → jumps_on labels place marks classes ≡ Some others
        → (label : ℕ) × (label_after labels place name ≡ Some label))
        → (label : ℕ) × (label_after labels place name ≡ Some label)
    go true e onward =
        let here : target_of d marks ≡ Some name = ap (λ x. target_of x marks) (sym (class-same c d e)) ∙ t in
        let p = front-parts (jump_named labels place d name) (jumps_on labels place marks classes) js (rw here at h) in
        let q = then-some (label_after labels place name) _ _ p.2 in
        (q.0, q.1)
    go false e onward =
        let k : list_any (λ x. class_index c == class_index x) classes ≡ true = rw e at m in
        ⊎_elim (λ rest. onward js k rest) (λ (other, index, others, o, l, rest, all). onward others k rest)
        (jump-parts labels place d (target_of d marks) (jumps_on labels place marks classes) js h)

pub jumps-missing : (labels : List Label) (place : ℕ) (marks : List Mark) → targets_in labels place marks ≡ None → have_no_twins marks ≡ true
    → jumps_on labels place marks all_classes ≡ None
jumps-missing labels place marks h n = none (jumps_on labels place marks all_classes) refl
  where
    none : (o : Option (List (Class × ℕ))) → jumps_on labels place marks all_classes ≡ o → o ≡ None
    none None e = refl
    none (Some js) e =
        let found = targets-found labels place marks n (λ c name t. label-found labels place marks c name all_classes js t (every-class c) e) in
        let both = sym h ∙ found.1 in absurd (cc)
