-- The lines of a step list: what a text spells is what is read of it, line by line.
use Rattle.std.proofs.Common.{◌≡◌, ℕ, ◌+◌, ◌≤◌, List, [], ◌∷◌, ◌++◌, length, refl, sym, ap, subst, ◌∙◌, length-append, arith}
use Rattle.mc_protocol.specs.{Lines.words_of_text, Lines.Words, Spelling.SpellEach, declared.actor.Actor.Actor, declared.event.Event.Event}
use Rattle.mc_protocol.specs.declared.lines.Separator.TheVariants.{Space}
use Rattle.mc_protocol.proofs.FirstItems.{head_is, rest_is}
use Rattle.mc_history.specs.declared.step_text.TheConstants.{STEP_LIST_LIMIT}
use Rattle.mc_history.specs.StepText.{SpellsEvent, SpellsStep, SpellsSteps, SpellsOneStepList, steps_line}
use Rattle.mc_history.specs.{HistoryText.end_line, StepReading.steps, StepReading.AfterSteps, StepReading.SpellsOnward}
use Rattle.mc_history.proofs.Reading.{IsReadable, Along, after_listed, series_of, parts_of, one_series}
use Rattle.mc_history.proofs.{LineLemmas.one_line, StepLines.one_event, StepLines.step_is_not_end}

pub steps_are_readable : IsReadable steps AfterSteps
steps_are_readable = record {
  one = one_line SpellsEvent one_event;
  apart = λ all items line lines step spelled h. step_is_not_end line step spelled (head_is _ _ _ _ h.2);
  goes_on = λ all items h. let e = h.2 in cc;
}

-- of few steps there are few before each
along_few : (begun others : List (Actor × Event)) → length begun + length others ≤ STEP_LIST_LIMIT → Along steps begun others
along_few begun [] few = tt
along_few begun (step ∷ others) few = (omega arith, along_few (begun ++ step ∷ []) others (omega (arith, length-append begun (step ∷ []))))

-- a text is its first line, and what is spelled after it
pub onward_of_list : (text : List ℕ) (lines : List Words) (all : List (Actor × Event)) → words_of_text Space text ≡ steps_line ∷ lines
    → SpellsSteps text all → SpellsOnward lines all
onward_of_list text lines all e f =
    rw (rest_is _ _ _ _ (sym e ∙ f.text_is))
    (series_of steps (AfterSteps all) [] f.lines (end_line ∷ []) all f.spelled (along_few [] all (omega (arith, f.few)))
    (sym (after_listed _ _ [] all), f.few, refl))

pub list_of_onward : (text : List ℕ) (lines : List Words) (all : List (Actor × Event)) → words_of_text Space text ≡ steps_line ∷ lines
    → SpellsOnward lines all → SpellsSteps text all
list_of_onward text lines all e o =
    let p = parts_of steps (AfterSteps all) [] lines o in
    record {
      lines = p.their;
      text_is = e ∙ ap (λ ls. steps_line ∷ ls) (p.lines_are ∙ ap (λ ls. p.their ++ ls) p.followed.2);
      spelled = subst (SpellEach SpellsStep p.their) (sym (p.followed.0 ∙ after_listed _ _ [] p.items)) p.each;
      few = p.followed.1;
    }

-- a text spells at most one step list
pub text_spells_one_list : SpellsOneStepList
text_spells_one_list text s t f g =
    let lines = f.lines ++ end_line ∷ [] in
    let (_, _, x, y) = one_series steps_are_readable s t [] lines (onward_of_list text lines s f.text_is f) (onward_of_list text lines t f.text_is g) in
    x.0 ∙ sym y.0
