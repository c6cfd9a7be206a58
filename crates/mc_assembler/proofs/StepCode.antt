-- Look-ups in the code of steps.
use Rattle.std.proofs.Common.{◌≡◌, ℕ, ◌+◌, zero, suc, Some, None, List, [], ◌∷◌, ◌++◌, length, take, slice_get, refl, ap, sym, ◌∙◌, arith}
use Rattle.mc_script.specs.{declared.section.Label.Label, declared.step.Step.Step, declared.step.Template.Template}
use Rattle.mc_script.specs.declared.step.Step.TheVariants as step
use Rattle.mc_code.specs.declared.instr.Instr.{Instr}
use Rattle.mc_assembler.specs.Layout.{request_of, requests_of, size_of, size_of_all, code_place, step_code, code_from}
use Rattle.mc_code.specs.declared.instr.Instr.TheVariants as instr
use Rattle.mc_code.proofs.LookUps.{some_is}

-- ---- lists

pub get_in_front : {X : Type 0} (xs ys : List X) (k : ℕ) (x : X) → slice_get xs k ≡ Some x → slice_get (xs ++ ys) k ≡ Some x
get_in_front [] ys k x e = absurd (cc)
get_in_front (_ ∷ xs) ys zero x e = e
get_in_front (_ ∷ xs) ys (suc k) x e = get_in_front xs ys k x e

pub get_after : {X : Type 0} (xs ys : List X) (k : ℕ) → slice_get (xs ++ ys) (length xs + k) ≡ slice_get ys k
get_after [] ys k = ap (slice_get ys) (omega arith)
get_after (x ∷ xs) ys k =
    let e : length (x ∷ xs) + k ≡ suc (length xs + k) = omega arith in
    ap (slice_get (x ∷ xs ++ ys)) e ∙ get_after xs ys k

length_append : {X : Type 0} (xs ys : List X) → length (xs ++ ys) ≡ length xs + length ys
length_append [] ys = omega arith
length_append (x ∷ xs) ys = let e = length_append xs ys in omega (arith, e)

-- ---- templates

-- how many templates stand before that of the step at this place
abbrev pub requests_before : List Step → ℕ → ℕ
requests_before steps p = length (requests_of (take p steps))

-- the request of a step has the template that its place says
pub template_found : (steps : List Step) (p : ℕ) (s : Step) (t : Template) → slice_get steps p ≡ Some s → request_of s ≡ t ∷ []
    → slice_get (requests_of steps) (requests_before steps p) ≡ Some t
template_found [] p s t at is = absurd (cc)
template_found (s ∷ steps) zero u t at is =
    let same : s ≡ u = some_is s u at in
    let first : request_of s ≡ t ∷ [] = ap request_of same ∙ is in
    get_in_front (request_of s) (requests_of steps) 0 t (ap (λ l. slice_get l 0) first)
template_found (s ∷ steps) (suc p) u t at is =
    ap (slice_get (request_of s ++ requests_of steps)) (length_append (request_of s) (requests_of (take p steps)))
    ∙ get_after (request_of s) (requests_of steps) (requests_before steps p)
    ∙ template_found steps p u t at is

-- ---- instructions

pub code_length : (labels : List Label) (steps : List Step) (n p : ℕ) (s : Step) → length (step_code labels steps n p s) ≡ size_of s
code_length labels steps n p (step.Send t jumps None) = refl
code_length labels steps n p (step.Send t jumps (Some v)) = refl
code_length labels steps n p (step.Bind v) = refl
code_length labels steps n p (step.Goto label) = refl
code_length labels steps n p step.Halt = refl

-- the code of the rest stands after that of the first step
code_after : (labels : List Label) (all : List Step) (n p : ℕ) (s : Step) (rest : List Step) (k : ℕ)
    → slice_get (code_from labels all n p (s ∷ rest)) (size_of s + k) ≡ slice_get (code_from labels all (n + length (request_of s)) (p + 1) rest) k
code_after labels all n p s rest k =
    let front = step_code labels all n p s in
    let back = code_from labels all (n + length (request_of s)) (p + 1) rest in
    ap (λ m. slice_get (front ++ back) (m + k)) (sym (code_length labels all n p s)) ∙ get_after front back k

-- each instruction of a step stands where the step's code is
code_found : (labels : List Label) (all : List Step) (n p : ℕ) (rest : List Step) (k : ℕ) (s : Step) → slice_get rest k ≡ Some s
    → (j : ℕ) (i : Instr) → slice_get (step_code labels all (n + requests_before rest k) (p + k) s) j ≡ Some i
    → slice_get (code_from labels all n p rest) (size_of_all (take k rest) + j) ≡ Some i
code_found labels all n p [] k s at j i is = absurd (cc)
code_found labels all n p (s ∷ rest) zero u at j i is =
    let same : s ≡ u = some_is s u at in
    let no_more : n + 0 ≡ n = omega arith in
    let here : p + 0 ≡ p = omega arith in
    let none : 0 + j ≡ j = omega arith in
    let first : slice_get (step_code labels all n p s) j ≡ Some i =
    ap (λ m. slice_get (step_code labels all m p s) j) (sym no_more)
    ∙ ap (λ m. slice_get (step_code labels all (n + 0) m s) j) (sym here)
    ∙ ap (λ m. slice_get (step_code labels all (n + 0) (p + 0) m) j) same ∙ is in
    ap (slice_get (code_from labels all n p (s ∷ rest))) none
    ∙ get_in_front (step_code labels all n p s) (code_from labels all (n + length (request_of s)) (p + 1) rest) j i first
code_found labels all n p (s ∷ rest) (suc k) u at j i is =
    let more = length_append (request_of s) (requests_of (take k rest)) in
    let number : n + length (requests_of (take (suc k) (s ∷ rest))) ≡ n + length (request_of s) + requests_before rest k = omega (arith, more) in
    let place : p + suc k ≡ p + 1 + k = omega arith in
    let after : slice_get (step_code labels all (n + length (request_of s) + requests_before rest k) (p + 1 + k) u) j ≡ Some i =
    ap (λ m. slice_get (step_code labels all m (p + 1 + k) u) j) (sym number)
    ∙ ap (λ m. slice_get (step_code labels all (n + length (requests_of (take (suc k) (s ∷ rest)))) m u) j) (sym place) ∙ is in
    let sum : size_of_all (take (suc k) (s ∷ rest)) + j ≡ size_of s + (size_of_all (take k rest) + j) = omega arith in
    ap (slice_get (code_from labels all n p (s ∷ rest))) sum
    ∙ code_after labels all n p s rest (size_of_all (take k rest) + j)
    ∙ code_found labels all (n + length (request_of s)) (p + 1) rest k u at j i after

-- after the last step stands the section's end
end_found : (labels : List Label) (all : List Step) (n p : ℕ) (rest : List Step) (k : ℕ) → slice_get rest k ≡ None
    → slice_get (code_from labels all n p rest) (size_of_all (take k rest)) ≡ Some instr.Halt
end_found labels all n p [] zero at = refl
end_found labels all n p [] (suc k) at = refl
end_found labels all n p (s ∷ rest) zero at = absurd (cc)
end_found labels all n p (s ∷ rest) (suc k) at =
    code_after labels all n p s rest (size_of_all (take k rest))
    ∙ end_found labels all (n + length (request_of s)) (p + 1) rest k at

-- ---- the code of all steps

-- the template's number of the step at this place
abbrev pub number_at : List Step → ℕ → ℕ → ℕ
number_at steps first p = first + requests_before steps p

abbrev pub code_of_all : List Label → List Step → ℕ → List Instr
code_of_all labels steps first = code_from labels steps first 0 steps

nth_of_step : (labels : List Label) (steps : List Step) (first p : ℕ) (s : Step) → slice_get steps p ≡ Some s
    → (j : ℕ) (i : Instr) → slice_get (step_code labels steps (number_at steps first p) p s) j ≡ Some i
    → slice_get (code_of_all labels steps first) (code_place steps p + j) ≡ Some i
nth_of_step labels steps first p s at j i is =
    let here : 0 + p ≡ p = omega arith in
    code_found labels steps first 0 steps p s at j i
    (ap (λ m. slice_get (step_code labels steps (number_at steps first p) m s) j) here ∙ is)

-- the first instruction of the step at this place
pub first_of_step : (labels : List Label) (steps : List Step) (first p : ℕ) (s : Step) → slice_get steps p ≡ Some s
    → (i : Instr) → slice_get (step_code labels steps (number_at steps first p) p s) 0 ≡ Some i
    → slice_get (code_of_all labels steps first) (code_place steps p) ≡ Some i
first_of_step labels steps first p s at i is =
    let here : code_place steps p ≡ code_place steps p + 0 = omega arith in
    ap (slice_get (code_of_all labels steps first)) here ∙ nth_of_step labels steps first p s at 0 i is

-- its second
pub second_of_step : (labels : List Label) (steps : List Step) (first p : ℕ) (s : Step) → slice_get steps p ≡ Some s
    → (i : Instr) → slice_get (step_code labels steps (number_at steps first p) p s) 1 ≡ Some i
    → slice_get (code_of_all labels steps first) (code_place steps p + 1) ≡ Some i
second_of_step labels steps first p s at i is = nth_of_step labels steps first p s at 1 i is

pub after_steps : (labels : List Label) (steps : List Step) (first p : ℕ) → slice_get steps p ≡ None
    → slice_get (code_of_all labels steps first) (code_place steps p) ≡ Some instr.Halt
after_steps labels steps first p at = end_found labels steps first 0 steps p at

-- where the code of the next step begins
pub next_place : (steps : List Step) (p : ℕ) (s : Step) → slice_get steps p ≡ Some s → code_place steps (p + 1) ≡ code_place steps p + size_of s
next_place steps p s at = let e : p + 1 ≡ suc p = omega arith in ap (code_place steps) e ∙ next steps p s at
  where
    next : (steps : List Step) (p : ℕ) (s : Step) → slice_get steps p ≡ Some s → code_place steps (suc p) ≡ code_place steps p + size_of s
    next [] p s at = absurd (cc)
    next (s ∷ rest) zero u at = let same = ap size_of (some_is s u at) in omega (arith, same)
    next (s ∷ rest) (suc p) u at = let e = next rest p u at in omega (arith, e)
