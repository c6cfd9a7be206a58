-- What a line asks is one question.
use Rattle.std.proofs.Common.{◌≡◌}
use Rattle.mc_cli.specs.declared.question.Question.{Question}
use Rattle.mc_cli.specs.declared.request.Request.TheVariants as request

-- two questions that ask for the same are one
pub same_question : (one other : Question) → request.Question one ≡ request.Question other → one ≡ other
same_question one other is = cc (is)
