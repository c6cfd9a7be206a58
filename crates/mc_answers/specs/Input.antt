-- What reading the input does. No public contract cites these.
use Rattle.std.specs.Prelude.{◌≡◌, ◌⊎◌, ℕ, ◌<◌, ◌≤◌, Bool, true, Option, Result, MatchResult, List, [], ◌++◌, length, take}
use Rattle.mc_answers.specs.declared.input.InputFault.{InputFault}
use Rattle.mc_answers.specs.{Answers.INPUT_LIMIT, Answers.TIMELINE_LIMIT, Streams.Loses, TimelineAnswers.BeginsTimeline}
use Rattle.mc_answers.specs.declared.input.InputFault.TheVariants as fault

-- the input has failed where the fault is its
abbrev pub FailsBy : Bool → Bool → InputFault → Type 0
FailsBy before after fault.Broken = after ≡ true
FailsBy before after fault.OutOfMemory = after ≡ before

abbrev pub Fails : {T : Type 0} → Bool → Bool → Result T InputFault → Type 0
Fails before after result = MatchResult result (λ _. after ≡ before) (FailsBy before after)

-- some bytes were taken, and no more than `most`; the text grew by them, unless the call failed
abbrev pub TakesPiece : Option (List ℕ) → Option (List ℕ) → List ℕ → List ℕ → ℕ → Result ℕ InputFault → Type 0
TakesPiece old new before after most result = MatchResult result
    (λ count. (taken : List ℕ) × (length taken ≡ count) × (count ≤ most) × Loses old new taken × (after ≡ before ++ taken))
    (λ _. (after ≡ before) × Loses old new [])

-- the text grew by what was taken
abbrev pub Adds : Option (List ℕ) → Option (List ℕ) → List ℕ → List ℕ → Type 0
Adds old new before after = (taken : List ℕ) × (after ≡ before ++ taken) × Loses old new taken

-- of what is read as a history: a text that has no more bytes than it may have, and one that has more
abbrev pub IsHistoryInLimit : List ℕ → Type 0
IsHistoryInLimit text = (length text ≤ INPUT_LIMIT) ⊎ (BeginsTimeline (take INPUT_LIMIT text) × (length text ≤ TIMELINE_LIMIT))

abbrev pub IsTooLongHistory : List ℕ → Type 0
IsTooLongHistory text = (INPUT_LIMIT < length text) × (BeginsTimeline (take INPUT_LIMIT text) → TIMELINE_LIMIT < length text)
