-- The layout of a script leads forwards.
use Rattle.std.proofs.Common.{◌==◌, ◌≡◌, ◌⊎◌, inl, inr, ℕ, ◌+◌, ◌<◌, ◌≤◌, zero, suc, Bool, true, false, Option, Some, None, List, []}
use Rattle.std.proofs.Common.{◌∷◌, ◌++◌, map, option_map, length, take, slice_get, refl, ap, sym, subst, ◌∙◌, if◌then◌else◌, arith}
use Rattle.std.proofs.{lemmas.List.length-append, lemmas.Option.slice_get-map}
use Rattle.mc_protocol.specs.{Legal.is_legal, declared.actor.Actor.Actor, declared.request.Verb.Verb, declared.reply.Class.Class, Lines.Word, Words.class_index}
use Rattle.mc_protocol.specs.declared.actor.Actor.TheVariants as actor
use Rattle.mc_script.specs.WellFormed.{AreJumps, AreSteps, IsAfter, IsScript, IsStep, is_number_class}
use Rattle.mc_script.specs.{declared.section.Label.Label, declared.step.Step.Step, declared.step.Template.Template, Script.Names, Script.Script}
use Rattle.mc_script.specs.declared.step.Step.TheVariants as step
use Rattle.mc_assembler.specs.Layout.{request_of, requests_of, size_of, size_of_all, code_place, after_label, label_place, entry_for}
use Rattle.mc_assembler.specs.Layout.{entries, step_code, code_from, templates_of, first_template, instructions_of}
use Rattle.mc_assembler.specs.LayoutLaws.{EntriesAreLegal, LayoutsLeadForwards}
use Rattle.mc_assembler.specs.ScriptRuns.{clearing_steps, front_of, all_steps, shift_label, all_labels, jump_on}
use Rattle.mc_code.specs.{declared.instr.Instr.Instr, declared.limits.TheConstants.NO_ENTRY, Paths.LeadsForwards, Paths.Slides, Paths.Sends, Paths.entry_of}
use Rattle.mc_code.specs.declared.instr.Instr.TheVariants as instr
use Rattle.mc_code.proofs.LookUps.{some_is}
use Rattle.mc_assembler.proofs.StepCode.{code_length, requests_before, next_place}
use Rattle.mc_assembler.proofs.{Kept.code-length, Kept.place-below, StepFacts.IsLaid, StepFacts.entry_at, StepFacts.entry_is, WellLaid.script_laid}

-- ---- labels stand after their use

-- the labels of the step at this place stand after it
abbrev IsOnward : List Label → ℕ → Step → Type 0
IsOnward labels p (step.Send t jumps bind) = (class : Class) (index : ℕ) → jump_on class jumps ≡ Some index → IsAfter labels p index
IsOnward labels p (step.Bind variable) = Unit {0}
IsOnward labels p (step.Goto label) = IsAfter labels p label
IsOnward labels p step.Halt = Unit {0}

-- those of all steps, the first one at this place
abbrev AreOnward : List Label → ℕ → List Step → Type 0
AreOnward labels p [] = Unit {0}
AreOnward labels p (s ∷ steps) = IsOnward labels p s × AreOnward labels (p + 1) steps

onward_at : (labels : List Label) (steps : List Step) (p : ℕ) → AreOnward labels p steps → (k q : ℕ) (s : Step) → q ≡ p + k → slice_get steps k ≡ Some s
    → IsOnward labels q s
onward_at labels [] p onward k q s place at = absurd (cc)
onward_at labels (s ∷ steps) p onward zero q u place at =
    let here : p ≡ q = omega (arith, place) in
    subst (λ p. IsOnward labels p u) here (subst (IsOnward labels p) (some_is s u at) onward.0)
onward_at labels (s ∷ steps) p onward (suc k) q u place at = onward_at labels steps (p + 1) onward.1 k q u (omega (arith, place)) at

onward_append : (labels : List Label) (front steps : List Step) (p q : ℕ) → q ≡ p + length front → AreOnward labels p front → AreOnward labels q steps
    → AreOnward labels p (front ++ steps)
onward_append labels [] steps p q place front onward = subst (λ p. AreOnward labels p steps) (omega (arith, place)) onward
onward_append labels (s ∷ rest) steps p q place front onward =
    (front.0, onward_append labels rest steps (p + 1) q (omega (arith, place)) front.1 onward)

clearing_onward : (labels : List Label) (p key : ℕ) (keys : List Word) → AreOnward labels p (clearing_steps key keys)
clearing_onward labels p key [] = tt
clearing_onward labels p key (_ ∷ keys) = (λ c index e. absurd (cc), clearing_onward labels (p + 1) (key + 1) keys)

after_moved : (labels : List Label) (count p q index : ℕ) → q ≡ count + p → IsAfter labels p index → IsAfter (map (shift_label count) labels) q index
after_moved labels count p q index place (label, at, after) =
    (shift_label count label, slice_get-map (shift_label count) labels index ∙ ap (option_map (shift_label count)) at, omega (arith, place, after))

jump_after : (v : Verb) (labels : List Label) (place least : ℕ) (jumps : List (Class × ℕ)) → AreJumps v labels place least jumps
    → (c : Class) (index : ℕ) → jump_on c jumps ≡ Some index → IsAfter labels place index
jump_after v labels place least [] are c index on = absurd (cc)
jump_after v labels place least (jump ∷ jumps) are c index on =
    by_class (class_index c == class_index jump.0) on (jump_after v labels place (class_index jump.0 + 1) jumps are.3 c index)
  where
    by_class : (b : Bool) → (if b then Some jump.1 else jump_on c jumps) ≡ Some index → (jump_on c jumps ≡ Some index → IsAfter labels place index)
        → IsAfter labels place index
    by_class true on others = subst (IsAfter labels place) (some_is jump.1 index on) are.2
    by_class false on others = others on

step_onward : (names : Names) (labels : List Label) (count p q : ℕ) (s : Step) → q ≡ count + p → IsStep names labels p s
    → IsOnward (map (shift_label count) labels) q s
step_onward names labels count p q (step.Send t jumps bind) place is =
    λ c index on. after_moved labels count p q index place (jump_after t.verb labels p 0 jumps is.1 c index on)
step_onward names labels count p q (step.Bind variable) place is = tt
step_onward names labels count p q (step.Goto label) place is = after_moved labels count p q label place is
step_onward names labels count p q step.Halt place is = tt

steps_onward : (names : Names) (labels : List Label) (count p q : ℕ) (steps : List Step) → q ≡ count + p → AreSteps names labels p steps
    → AreOnward (map (shift_label count) labels) q steps
steps_onward names labels count p q [] place are = tt
steps_onward names labels count p q (s ∷ steps) place are =
    (step_onward names labels count p q s place are.0, steps_onward names labels count (p + 1) (q + 1) steps (omega (arith, place)) are.1)

section_onward : (s : Script) → IsScript s → (k : Actor) → AreOnward (all_labels s k) 0 (all_steps s k)
section_onward s is actor.P =
    let count = length (front_of s actor.P) in
    onward_append (all_labels s actor.P) (front_of s actor.P) s.sections.p.steps 0 count (omega arith) (clearing_onward (all_labels s actor.P) 0 0 s.names.keys)
    (steps_onward s.names s.sections.p.labels count 0 count s.sections.p.steps (omega arith) is.p.steps)
section_onward s is actor.A = steps_onward s.names s.sections.a.labels 0 0 0 s.sections.a.steps (omega arith) is.a.steps
section_onward s is actor.B = steps_onward s.names s.sections.b.labels 0 0 0 s.sections.b.steps (omega arith) is.b.steps

-- ---- places

-- the code of a later step begins after all that of an earlier one
place_after : (steps : List Step) (p q : ℕ) (s : Step) → slice_get steps p ≡ Some s → p < q → code_place steps p + size_of s ≤ code_place steps q
place_after [] p q s at less = absurd (cc)
place_after (s ∷ rest) p zero u at less = absurd (omega (arith, less))
place_after (s ∷ rest) zero (suc q) u at less = let same = ap size_of (some_is s u at) in omega (arith, same)
place_after (s ∷ rest) (suc p) (suc q) u at less = let more = place_after rest p q u at (omega (arith, less)) in omega (arith, more)

some_code : (s : Step) → 1 ≤ size_of s
some_code (step.Send t jumps None) = omega arith
some_code (step.Send t jumps (Some v)) = omega arith
some_code (step.Bind v) = omega arith
some_code (step.Goto label) = omega arith
some_code step.Halt = omega arith

-- a later place among those of the steps and the section's end
abbrev IsAhead : List Step → ℕ → ℕ → Type 0
IsAhead steps x y = (x < y) × (y ≤ size_of_all steps)

label_ahead : (labels : List Label) (steps : List Step) (p : ℕ) (s : Step) (index : ℕ) → slice_get steps p ≡ Some s → IsAfter labels p index
    → IsAhead steps (code_place steps p) (label_place labels steps index)
label_ahead labels steps p s index at (label, is, after) =
    subst (IsAhead steps (code_place steps p)) (sym (ap (after_label steps) is))
    (let more = place_after steps p label.place s at after in
    (omega (arith, more, some_code s), place-below steps label.place))

entry_ahead : (labels : List Label) (steps : List Step) (p : ℕ) (t : Template) (jumps : List (Class × ℕ)) (bind : Option ℕ) (c : Class) (to : Option ℕ)
    → slice_get steps p ≡ Some (step.Send t jumps bind) → ((index : ℕ) → to ≡ Some index → IsAfter labels p index)
    → IsAhead steps (code_place steps p) (entry_for labels steps p bind c to)
entry_ahead labels steps p t jumps bind c (Some index) at after = label_ahead labels steps p (step.Send t jumps bind) index at (after index refl)
entry_ahead labels steps p t jumps None c None at after =
    let next = next_place steps p (step.Send t jumps None) at in
    (omega (arith, next), place-below steps (p + 1))
entry_ahead labels steps p t jumps (Some v) c None at after = by_class (is_number_class c)
  where
    by_class : (b : Bool) → IsAhead steps (code_place steps p) (if b then code_place steps p + 1 else code_place steps (p + 1))
    by_class true =
        let next = next_place steps p (step.Send t jumps (Some v)) at in
        let most = place-below steps (p + 1) in
        (omega arith, omega (arith, next, most))
    by_class false =
        let next = next_place steps p (step.Send t jumps (Some v)) at in
        (omega (arith, next), place-below steps (p + 1))

-- ---- each instruction is part of a step, or the last

get_split : {X : Type 0} (xs ys : List X) (k : ℕ) (x : X) → slice_get (xs ++ ys) k ≡ Some x
    → (slice_get xs k ≡ Some x) ⊎ ((j : ℕ) × (k ≡ length xs + j) × (slice_get ys j ≡ Some x))
get_split [] ys k x e = inr (k, omega arith, e)
get_split (z ∷ xs) ys zero x e = inl e
get_split (z ∷ xs) ys (suc k) x e = by_part (get_split xs ys k x e)
  where
    by_part : (slice_get xs k ≡ Some x) ⊎ ((j : ℕ) × (k ≡ length xs + j) × (slice_get ys j ≡ Some x))
        → (slice_get xs k ≡ Some x) ⊎ ((j : ℕ) × (suc k ≡ length (z ∷ xs) + j) × (slice_get ys j ≡ Some x))
    by_part (inl e) = inl e
    by_part (inr (j, is, e)) = inr (j, omega (arith, is), e)

-- the instruction is this one of the step at this place, or ends the section
data IsPart (labels : List Label) (all : List Step) (n p : ℕ) (rest : List Step) (x : ℕ) (i : Instr) : Type 0 where
  last : i ≡ instr.Halt → IsPart labels all n p rest x i
  of_step : (k j m q : ℕ) (s : Step) → slice_get rest k ≡ Some s → x ≡ size_of_all (take k rest) + j → m ≡ n + requests_before rest k → q ≡ p + k
      → slice_get (step_code labels all m q s) j ≡ Some i → IsPart labels all n p rest x i

requests_cons : (s : Step) (rest : List Step) (k : ℕ) → requests_before (s ∷ rest) (suc k) ≡ length (request_of s) + requests_before rest k
requests_cons s rest k = length-append (request_of s) (requests_of (take k rest))

part_later : (labels : List Label) (all : List Step) (n p : ℕ) (s : Step) (rest : List Step) (x y : ℕ) (i : Instr) → x ≡ size_of s + y
    → IsPart labels all (n + length (request_of s)) (p + 1) rest y i → IsPart labels all n p (s ∷ rest) x i
part_later labels all n p s rest x y i place (last is) = last is
part_later labels all n p s rest x y i place (of_step k j m q u at within number here is) =
    of_step (suc k) j m q u at (omega (arith, place, within)) (omega (arith, number, requests_cons s rest k)) (omega (arith, here)) is

part_of : (labels : List Label) (all : List Step) (n p : ℕ) (rest : List Step) (x : ℕ) (i : Instr) → slice_get (code_from labels all n p rest) x ≡ Some i
    → IsPart labels all n p rest x i
part_of labels all n p [] zero i e = last (sym (some_is instr.Halt i e))
part_of labels all n p [] (suc x) i e = absurd (cc)
part_of labels all n p (s ∷ rest) x i e =
    by_part (get_split (step_code labels all n p s) (code_from labels all (n + length (request_of s)) (p + 1) rest) x i e)
    (part_of labels all (n + length (request_of s)) (p + 1) rest)
  where
    by_part : (slice_get (step_code labels all n p s) x ≡ Some i)
        ⊎ ((y : ℕ) × (x ≡ length (step_code labels all n p s) + y) × (slice_get (code_from labels all (n + length (request_of s)) (p + 1) rest) y ≡ Some i))
        → ((y : ℕ) (i : Instr) → slice_get (code_from labels all (n + length (request_of s)) (p + 1) rest) y ≡ Some i
        → IsPart labels all (n + length (request_of s)) (p + 1) rest y i)
        → IsPart labels all n p (s ∷ rest) x i
    by_part (inl e) others = of_step zero x n p s refl (omega arith) (omega arith) (omega arith) e
    by_part (inr (y, is, e)) others =
        let size = code_length labels all n p s in
        part_later labels all n p s rest x y i (omega (arith, is, size)) (others y i e)

-- ---- each part leads forwards

-- the instruction leads from one place to another
abbrev Leads : List Template → Instr → ℕ → ℕ → Type 0
Leads templates i x y = Slides i x y ⊎ ((t : Template) × (c : Class) × Sends templates i t c y)

part_ahead : (labels : List Label) (steps : List Step) (templates : List Template) (m p : ℕ) (s : Step) → slice_get steps p ≡ Some s
    → IsOnward labels p s → ((t : Template) → request_of s ≡ t ∷ [] → slice_get templates m ≡ Some t)
    → (j x y : ℕ) (i : Instr) → x ≡ code_place steps p + j → slice_get (step_code labels steps m p s) j ≡ Some i → Leads templates i x y → IsAhead steps x y
part_ahead labels steps templates m p (step.Send t jumps bind) at onward named zero x y i place is leads =
    let send = instr.Send m (entries labels steps p t jumps bind) in
    by_way (subst (λ i. Leads templates i x y) (sym (some_is send i is)) leads)
  where
    by_way : Leads templates (instr.Send m (entries labels steps p t jumps bind)) x y → IsAhead steps x y
    by_way (inl slides) = absurd slides
    by_way (inr (u, c, (there, legal, to))) =
        let same : u ≡ t = some_is u t (sym there ∙ named t refl) in
        let may = subst (λ (u : Template). is_legal u.verb c ≡ true) same legal in
        let goal = entry_ahead labels steps p t jumps bind c (jump_on c jumps) at (onward c) in
        let entry = to ∙ entry_is labels steps p t jumps bind c may in
        let here : code_place steps p ≡ x = omega (arith, place) in
        subst (λ x. IsAhead steps x y) here (subst (IsAhead steps (code_place steps p)) (sym entry) goal)
part_ahead labels steps templates m p (step.Send t jumps None) at onward named (suc j) x y i place is leads = absurd (cc)
part_ahead labels steps templates m p (step.Send t jumps (Some v)) at onward named (suc zero) x y i place is leads =
    by_way (subst (λ i. Leads templates i x y) (sym (some_is (instr.Bind v) i is)) leads)
  where
    by_way : Leads templates (instr.Bind v) x y → IsAhead steps x y
    by_way (inl to) =
        let next = next_place steps p (step.Send t jumps (Some v)) at in
        let most = place-below steps (p + 1) in
        (omega (arith, to), omega (arith, to, place, next, most))
    by_way (inr (u, c, sends)) = absurd sends
part_ahead labels steps templates m p (step.Send t jumps (Some v)) at onward named (suc (suc j)) x y i place is leads = absurd (cc)
part_ahead labels steps templates m p (step.Bind v) at onward named zero x y i place is leads =
    by_way (subst (λ i. Leads templates i x y) (sym (some_is (instr.Bind v) i is)) leads)
  where
    by_way : Leads templates (instr.Bind v) x y → IsAhead steps x y
    by_way (inl to) =
        let next = next_place steps p (step.Bind v) at in
        let most = place-below steps (p + 1) in
        (omega (arith, to), omega (arith, to, place, next, most))
    by_way (inr (u, c, sends)) = absurd sends
part_ahead labels steps templates m p (step.Bind v) at onward named (suc j) x y i place is leads = absurd (cc)
part_ahead labels steps templates m p (step.Goto label) at onward named zero x y i place is leads =
    by_way (subst (λ i. Leads templates i x y) (sym (some_is (instr.Goto (label_place labels steps label)) i is)) leads)
  where
    by_way : Leads templates (instr.Goto (label_place labels steps label)) x y → IsAhead steps x y
    by_way (inl to) =
        let ahead = label_ahead labels steps p (step.Goto label) label at onward in
        (omega (arith, to, place, ahead.0), omega (arith, to, ahead.1))
    by_way (inr (u, c, sends)) = absurd sends
part_ahead labels steps templates m p (step.Goto label) at onward named (suc j) x y i place is leads = absurd (cc)
part_ahead labels steps templates m p step.Halt at onward named zero x y i place is leads =
    by_way (subst (λ i. Leads templates i x y) (sym (some_is instr.Halt i is)) leads)
  where
    by_way : Leads templates instr.Halt x y → IsAhead steps x y
    by_way (inl slides) = absurd slides
    by_way (inr (u, c, sends)) = absurd sends
part_ahead labels steps templates m p step.Halt at onward named (suc j) x y i place is leads = absurd (cc)

all_ahead : (labels : List Label) (steps : List Step) (templates : List Template) (first : ℕ) → IsLaid labels steps templates first → AreOnward labels 0 steps
    → (i : Instr) (x y : ℕ) → Leads templates i x y → IsPart labels steps first 0 steps x i → IsAhead steps x y
all_ahead labels steps templates first laid onward i x y leads (last is) = by_way (subst (λ i. Leads templates i x y) is leads)
  where
    by_way : Leads templates instr.Halt x y → IsAhead steps x y
    by_way (inl slides) = absurd slides
    by_way (inr (u, c, sends)) = absurd sends
all_ahead labels steps templates first laid onward i x y leads (of_step k j m q s at within number here is) =
    let place : q ≡ k = omega (arith, here) in
    part_ahead labels steps templates m k s at (onward_at labels steps 0 onward k k s (omega arith) at)
    (λ t has. ap (slice_get templates) number ∙ laid.named k s t at has) j x y i within
    (ap (λ p. slice_get (step_code labels steps m p s) j) (sym place) ∙ is) leads

section_forwards : (s : Script) → IsScript s → (k : Actor) → LeadsForwards (templates_of s) (instructions_of s k)
section_forwards s is k i x y at leads =
    let labels = all_labels s k in
    let steps = all_steps s k in
    let first = first_template s k in
    let ahead = all_ahead labels steps (templates_of s) first (script_laid s is k) (section_onward s is k) i x y leads
    (part_of labels steps first 0 steps x i at) in
    let size = code-length labels steps first 0 steps in
    (ahead.0, omega (arith, ahead.1, size))

pub layouts_lead_forwards : LayoutsLeadForwards
layouts_lead_forwards s actor.P is = section_forwards s is actor.P
layouts_lead_forwards s actor.A is = section_forwards s is actor.A
layouts_lead_forwards s actor.B is = section_forwards s is actor.B

-- ---- entries

part_entry : (labels : List Label) (steps : List Step) (templates : List Template) (m p : ℕ) (s : Step)
    → ((t : Template) → request_of s ≡ t ∷ [] → slice_get templates m ≡ Some t)
    → (j n : ℕ) (next : List ℕ) (t : Template) (c : Class) → slice_get (step_code labels steps m p s) j ≡ Some (instr.Send n next)
    → slice_get templates n ≡ Some t → is_legal t.verb c ≡ false → entry_of next c ≡ NO_ENTRY
part_entry labels steps templates m p (step.Send u jumps bind) named zero n next t c is there legal =
    let same : instr.Send m (entries labels steps p u jumps bind) ≡ instr.Send n next =
    some_is (instr.Send m (entries labels steps p u jumps bind)) (instr.Send n next) is in
    let number : m ≡ n = cc in
    let entries_are : entries labels steps p u jumps bind ≡ next = cc in
    let template : u ≡ t = some_is u t (sym (named u refl) ∙ ap (slice_get templates) number ∙ there) in
    let never : is_legal u.verb c ≡ false = ap (λ (t : Template). is_legal t.verb c) template ∙ legal in
    ap (λ next. entry_of next c) (sym entries_are) ∙ entry_at labels steps p u jumps bind c ∙ rw never refl
part_entry labels steps templates m p (step.Send u jumps None) named (suc j) n next t c is there legal = absurd (cc)
part_entry labels steps templates m p (step.Send u jumps (Some v)) named (suc zero) n next t c is there legal =
    let same : instr.Bind v ≡ instr.Send n next = some_is (instr.Bind v) (instr.Send n next) is in absurd (cc)
part_entry labels steps templates m p (step.Send u jumps (Some v)) named (suc (suc j)) n next t c is there legal = absurd (cc)
part_entry labels steps templates m p (step.Bind v) named zero n next t c is there legal = absurd (cc)
part_entry labels steps templates m p (step.Bind v) named (suc j) n next t c is there legal = absurd (cc)
part_entry labels steps templates m p (step.Goto label) named zero n next t c is there legal = absurd (cc)
part_entry labels steps templates m p (step.Goto label) named (suc j) n next t c is there legal = absurd (cc)
part_entry labels steps templates m p step.Halt named zero n next t c is there legal = absurd (cc)
part_entry labels steps templates m p step.Halt named (suc j) n next t c is there legal = absurd (cc)

all_entries : (labels : List Label) (steps : List Step) (templates : List Template) (first : ℕ) → IsLaid labels steps templates first
    → (x n : ℕ) (next : List ℕ) (t : Template) (c : Class) → IsPart labels steps first 0 steps x (instr.Send n next)
    → slice_get templates n ≡ Some t → is_legal t.verb c ≡ false → entry_of next c ≡ NO_ENTRY
all_entries labels steps templates first laid x n next t c (last is) there legal = absurd (cc)
all_entries labels steps templates first laid x n next t c (of_step k j m q s at within number here is) there legal =
    part_entry labels steps templates m q s (λ t has. ap (slice_get templates) number ∙ laid.named k s t at has) j n next t c is there legal

section_entries : (s : Script) → IsScript s → (k : Actor) (x n : ℕ) (next : List ℕ) (t : Template) (c : Class)
    → slice_get (instructions_of s k) x ≡ Some (instr.Send n next) → slice_get (templates_of s) n ≡ Some t → is_legal t.verb c ≡ false
    → entry_of next c ≡ NO_ENTRY
section_entries s is k x n next t c at there legal =
    let labels = all_labels s k in
    let steps = all_steps s k in
    let first = first_template s k in
    all_entries labels steps (templates_of s) first (script_laid s is k) x n next t c (part_of labels steps first 0 steps x (instr.Send n next) at) there legal

pub entries_are_legal : EntriesAreLegal
entries_are_legal s actor.P p n next t class is at there legal = section_entries s is actor.P p n next t class at there legal
entries_are_legal s actor.A p n next t class is at there legal = section_entries s is actor.A p n next t class at there legal
entries_are_legal s actor.B p n next t class is at there legal = section_entries s is actor.B p n next t class at there legal
