-- What is answered to a text, whatever it is asked.
use Rattle.std.specs.Prelude.{◌≡◌, ◌⊎◌, ℕ, ◌<◌, ◌≤◌, Bool, true, false, Option, Some, None, List, length, codes, take}
use Rattle.mc_cli.specs.declared.question.Question.{Question}
use Rattle.mc_cli.specs.declared.question.Question.TheVariants as question
use Rattle.mc_answers.specs.{AsmAnswers.Assembles, CheckAnswers.ChecksAs, ConvertAnswers.Converts, DrawAnswers.Draws, DriveAnswers.Drives}
use Rattle.mc_answers.specs.{JoinAnswers.Joins, Judging.JudgesAs, Streams.Grows, Streams.TakesAtMost, TimelineAnswers.BeginsTimeline}
use Rattle.mc_answers.specs.{Writing.out_of_memory_text, declared.status.Status.Status}
use Rattle.mc_answers.specs.declared.status.Status.TheVariants as status

-- the most bytes of an input, and of one that begins as a timeline
abbrev pub INPUT_LIMIT : ℕ
INPUT_LIMIT = 1048576

abbrev pub TIMELINE_LIMIT : ℕ
TIMELINE_LIMIT = 67108864

-- the question is answered about the text: these bytes may be written, and this is the exit status with them
abbrev pub Does : Question → List ℕ → List ℕ → Status → Type 0
Does (question.Judge args) text output ended = JudgesAs args text output ended
Does (question.Check args) text output ended = ChecksAs args text output ended
Does (question.Asm why) text output ended = Assembles why text output ended
Does (question.Drive how) text output ended = Drives how.why text output ended
Does (question.Draw how) text output ended = Draws output ended
Does (question.Convert args) text output ended = Converts output ended
Does question.Join text output ended = Joins output ended

abbrev pub too_long_text : List ℕ
too_long_text = codes "refused input too long\n"

abbrev pub not_utf8_text : List ℕ
not_utf8_text = codes "error: the command line is not UTF-8\n"

-- what a text may be answered; or the text is too long, and that is written; or that memory ran out, which it may over any text
abbrev pub IsAnswerBy : (List ℕ → List ℕ → Status → Type 0) → List ℕ → List ℕ → Status → Type 0
IsAnswerBy does text output ended = ((length text ≤ INPUT_LIMIT) × does text output ended)
    ⊎ (((INPUT_LIMIT < length text) × (output ≡ too_long_text) × (ended ≡ status.Refused))
    ⊎ ((output ≡ out_of_memory_text) × (ended ≡ status.NoAnswer)))

-- a text that is judged, drawn or converted may be longer, if the bytes that any input may have begin as a timeline
abbrev pub MayBeLong : Question → List ℕ → Type 0
MayBeLong (question.Judge args) text = BeginsTimeline (take INPUT_LIMIT text)
MayBeLong (question.Draw how) text = BeginsTimeline (take INPUT_LIMIT text)
MayBeLong (question.Convert args) text = BeginsTimeline (take INPUT_LIMIT text)
MayBeLong _ text = ⊥

-- it has no more bytes than it may have, or more
abbrev pub IsInLimit : Question → List ℕ → Type 0
IsInLimit asked text = (length text ≤ INPUT_LIMIT) ⊎ (MayBeLong asked text × (length text ≤ TIMELINE_LIMIT))

abbrev pub IsTooLong : Question → List ℕ → Type 0
IsTooLong asked text = (INPUT_LIMIT < length text) × (MayBeLong asked text → TIMELINE_LIMIT < length text)

-- what a text is answered about which this is asked; or it is too long, and that is written; or that memory ran out
abbrev pub IsAnswerTo : Question → List ℕ → List ℕ → Status → Type 0
IsAnswerTo asked text output ended = (IsInLimit asked text × Does asked text output ended)
    ⊎ ((IsTooLong asked text × (output ≡ too_long_text) × (ended ≡ status.Refused))
    ⊎ ((output ≡ out_of_memory_text) × (ended ≡ status.NoAnswer)))

-- how many bytes are read at most
abbrev pub most_read : Question → ℕ
most_read (question.Judge args) = 67108865
most_read (question.Draw how) = 67108865
most_read (question.Convert args) = 67108865
most_read _ = 1048577

-- ---- inputs

-- the text is all that was left, where that is known
abbrev pub IsWhole : Option (List ℕ) → List ℕ → Type 0
IsWhole None text = Unit {0}
IsWhole (Some left) text = left ≡ text

-- what was written is right for the whole input, and so is the status
pub record AnswersBy (right_for : List ℕ → List ℕ → Status → Type 0) (left old new : Option (List ℕ)) (ended : Status) : Type 0 where
  pub text : List ℕ
  pub whole : IsWhole left text
  pub output : List ℕ
  pub right : right_for text output ended
  pub written : Grows old new output

-- a call that reads its input whole before it writes, and no more bytes than this: where no read and no write fails, what was written is
-- right for the input; else the status says so, and where a read failed nothing was written
pub record AnswersWhole {I O : Type 0} (left : I → Option (List ℕ)) (has_broken : I → Bool) (written : O → Option (List ℕ))
    (has_failed : O → Bool) (right_for : List ℕ → List ℕ → Status → Type 0) (most : ℕ) (input_old input_new : I) (old new : O)
    (ended : Status) : Type 0 where
  pub answered : has_broken input_old ≡ false → has_broken input_new ≡ false → has_failed old ≡ false → has_failed new ≡ false
      → AnswersBy right_for (left input_old) (written old) (written new) ended
  pub broken_input : has_broken input_old ≡ false → has_broken input_new ≡ true → (ended ≡ status.NoAnswer) × (new ≡ old)
  pub broken_output : has_failed old ≡ false → has_failed new ≡ true → ended ≡ status.NoAnswer
  pub taken : TakesAtMost most (left input_old) (left input_new)

-- for any input
abbrev pub AnswersRightly : {I O : Type 0} → (I → Option (List ℕ)) → (I → Bool) → (O → Option (List ℕ)) → (O → Bool)
    → (List ℕ → List ℕ → Status → Type 0) → I → I → O → O → Status → Type 0
AnswersRightly left has_broken written has_failed does =
    AnswersWhole left has_broken written has_failed (IsAnswerBy does) 1048577

-- for one about which this is asked
abbrev pub AnswersQuestion : {I O : Type 0} → (I → Option (List ℕ)) → (I → Bool) → (O → Option (List ℕ)) → (O → Bool)
    → Question → I → I → O → O → Status → Type 0
AnswersQuestion left has_broken written has_failed asked =
    AnswersWhole left has_broken written has_failed (IsAnswerTo asked) (most_read asked)
