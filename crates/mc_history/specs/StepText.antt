-- The text of a step list.
use Rattle.std.specs.Prelude.{◌≡◌, ℕ, ◌≤◌, List, [], ◌∷◌, ◌++◌, length, codes}
use Rattle.mc_protocol.specs.declared.{actor.Actor.Actor, event.Event.Event, lines.Separator.TheVariants.Space}
use Rattle.mc_protocol.specs.{Decimals.SpellsNumber, Decimals.MAX_64, Lines.words_of_text, Lines.Word, Lines.Words}
use Rattle.mc_protocol.specs.{Faults.fault_number, Spelling.SpellEach}
use Rattle.mc_protocol.specs.declared.event.Event.TheVariants as event
use Rattle.mc_words.specs.Words.{SpellsReply}
use Rattle.mc_history.specs.declared.step_text.TheConstants.{STEP_LIST_LIMIT}
use Rattle.mc_history.specs.HistoryText.{SpellsLine, end_line}

-- `begin`; or `reply`, and the words of the reply; or `fail`, and the number of the fault
abbrev pub SpellsEvent : Words → Event → Type 0
SpellsEvent words event.Begin = words ≡ codes "begin" ∷ []
SpellsEvent words (event.Reply reply) = (others : Words) × (words ≡ codes "reply" ∷ others) × SpellsReply others reply
SpellsEvent words (event.Fail fault) =
    (number : Word) × (words ≡ codes "fail" ∷ number ∷ []) × SpellsNumber MAX_64 number (fault_number fault)

-- a step: the section, and what happens in it
abbrev pub SpellsStep : Words → Actor × Event → Type 0
SpellsStep line step = SpellsLine SpellsEvent line step

abbrev pub steps_line : Words
steps_line = codes "steps" ∷ []

-- the text is the line `steps`, a line for each step, and the line `end`; it has at most 1,000 steps
pub record SpellsSteps (text : List ℕ) (steps : List (Actor × Event)) : Type 0 where
  pub lines : List Words
  pub text_is : words_of_text Space text ≡ steps_line ∷ lines ++ end_line ∷ []
  pub spelled : SpellEach SpellsStep lines steps
  pub few : length steps ≤ STEP_LIST_LIMIT

-- a text spells at most one step list
abbrev pub SpellsOneStepList : Type 0
SpellsOneStepList = (text : List ℕ) (s t : List (Actor × Event)) → SpellsSteps text s → SpellsSteps text t → s ≡ t
