-- How much of an input is read for a question, and that any input may be answered by want of memory.
use Rattle.std.proofs.Common.{arith, refl, ◌≡◌, ◌≤◌, ℕ, List, [], Option, Some, None, false, inl, inr, length}
use Rattle.mc_cli.specs.declared.question.Question.{Question}
use Rattle.mc_cli.specs.declared.question.Question.TheVariants as question
use Rattle.mc_cli.specs.declared.request.Request.TheVariants as request
use Rattle.mc_answers.specs.{Answers.IsAnswerTo, Answers.most_read, Command.reads_history, Streams.TakesAtMost}
use Rattle.mc_answers.proofs.Right.{MayLackMemory}

pub lacking_memory : (asked : Question) → MayLackMemory (IsAnswerTo asked)
lacking_memory asked text = inr (inr (refl, refl))

-- nothing is taken of an input that stays as it is
pub takes_nothing : (most : ℕ) (old : Option (List ℕ)) → TakesAtMost most old old
takes_nothing most None = ([], omega arith, tt)
takes_nothing most (Some old) = ([], omega arith, refl)

-- what takes few bytes takes no more than many
pub takes_as_many : (most more : ℕ) (old new : Option (List ℕ)) → most ≤ more → TakesAtMost most old new → TakesAtMost more old new
takes_as_many most more old new less takes = (takes.0, omega (arith, less, takes.1), takes.2)

pub most_is_small : (asked : Question) → most_read asked ≤ 67108865
most_is_small (question.Judge args) = omega arith
most_is_small (question.Check args) = omega arith
most_is_small (question.Asm why) = omega arith
most_is_small (question.Drive how) = omega arith
most_is_small (question.Draw how) = omega arith
most_is_small (question.Convert args) = omega arith
most_is_small question.Join = omega arith

-- of what isn't read as a history few bytes are taken
pub takes_few : (asked : Question) (old new : Option (List ℕ)) → reads_history (request.Question asked) ≡ false
    → TakesAtMost (most_read asked) old new → TakesAtMost 1048577 old new
takes_few (question.Judge args) old new is takes = absurd (cc (is))
takes_few (question.Check args) old new is takes = takes
takes_few (question.Asm why) old new is takes = takes
takes_few (question.Drive how) old new is takes = takes
takes_few (question.Draw how) old new is takes = absurd (cc (is))
takes_few (question.Convert args) old new is takes = absurd (cc (is))
takes_few question.Join old new is takes = takes
