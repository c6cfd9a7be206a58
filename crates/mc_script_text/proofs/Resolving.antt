-- The steps of the entries that are left, one further on.
use Rattle.std.proofs.Common.{◌≡◌, ℕ, ◌+◌, ◌<◌, true, false, Option, Some, None, List, [], ◌∷◌, ◌++◌}
use Rattle.std.proofs.Common.{length, drop, get_or, refl, sym, ap, ◌∙◌, arith, length-append, append_assoc}
use Rattle.std.proofs.lemmas.List.{drop_more}
use Rattle.mc_script_text.specs.{Values.Entry, Values.Label, Values.Step, Steps.step_in, Steps.steps_from, Steps.in_front, Reading.onto, Reading.is_label}
use Rattle.mc_script_text.specs.Values.entry

onto-push : {A : Type 0} (xs : List A) (x : A) (ys : Option (List A)) → onto (xs ++ x ∷ []) ys ≡ onto xs (in_front (Some x) ys)
onto-push xs x (Some ys) = ap Some (append_assoc xs (x ∷ []) ys)
onto-push xs x None = refl

pushed-length : {A : Type 0} (xs : List A) (x : A) → length (xs ++ x ∷ []) ≡ length xs + 1
pushed-length xs x = omega (arith, length-append xs (x ∷ []))

steps-cons : (labels : List Label) (place : ℕ) (e : Entry) (entries : List Entry) → is_label e ≡ false
    → steps_from labels place (e ∷ entries) ≡ in_front (step_in labels place e) (steps_from labels (place + 1) entries)
steps-cons labels place (entry.Label name) entries h = absurd (cc)
steps-cons labels place e entries h = refl

label-cons : (labels : List Label) (place : ℕ) (e : Entry) (entries : List Entry) → is_label e ≡ true
    → steps_from labels place (e ∷ entries) ≡ steps_from labels place entries
label-cons labels place (entry.Label name) entries h = refl
label-cons labels place e entries h = absurd (cc)

-- the entries from this one on
from-entry : (entries : List Entry) (k : ℕ) (e : Entry) → k < length entries → e ≡ get_or entries k e → drop k entries ≡ e ∷ drop (k + 1) entries
from-entry entries k e below is = drop_more entries k e below ∙ ap (λ x. x ∷ drop (k + 1) entries) (sym is)

pub label-passed : (labels : List Label) (steps : List Step) (entries : List Entry) (k : ℕ) (e : Entry) (all : Option (List Step))
    → k < length entries → e ≡ get_or entries k e → is_label e ≡ true
    → onto steps (steps_from labels (length steps) (drop k entries)) ≡ all
    → onto steps (steps_from labels (length steps) (drop (k + 1) entries)) ≡ all
label-passed labels steps entries k e all below is label h =
    ap (onto steps) (sym (ap (steps_from labels (length steps)) (from-entry entries k e below is)
    ∙ label-cons labels (length steps) e (drop (k + 1) entries) label)) ∙ h

pub step-pushed : (labels : List Label) (steps more : List Step) (entries : List Entry) (k : ℕ) (e : Entry) (s : Step) (all : Option (List Step))
    → k < length entries → e ≡ get_or entries k e → is_label e ≡ false → step_in labels (length steps) e ≡ Some s → more ≡ steps ++ s ∷ []
    → onto steps (steps_from labels (length steps) (drop k entries)) ≡ all
    → onto more (steps_from labels (length more) (drop (k + 1) entries)) ≡ all
step-pushed labels steps more entries k e s all below is step made grown h =
    let rest = drop (k + 1) entries in
    rw (grown, pushed-length steps s) (onto-push steps s (steps_from labels (length steps + 1) rest)
    ∙ ap (λ o. onto steps (in_front o (steps_from labels (length steps + 1) rest))) (sym made)
    ∙ ap (onto steps) (sym (ap (steps_from labels (length steps)) (from-entry entries k e below is) ∙ steps-cons labels (length steps) e rest step)) ∙ h)
