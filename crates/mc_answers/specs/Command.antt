-- Which lines are answered by the input alone, and which not.
use Rattle.std.specs.Prelude.{Bool, true, false}
use Rattle.mc_cli.specs.declared.question.Question.TheVariants as question
use Rattle.mc_cli.specs.declared.request.Request.{Request}
use Rattle.mc_cli.specs.declared.request.Request.TheVariants as request

-- a question about the input is asked
abbrev pub reads_input : Request → Bool
reads_input (request.Question question) = true
reads_input _ = false

-- a history is judged, drawn or converted, whose text may be longer than another input
abbrev pub reads_history : Request → Bool
reads_history (request.Question (question.Judge args)) = true
reads_history (request.Question (question.Draw how)) = true
reads_history (request.Question (question.Convert args)) = true
reads_history _ = false

-- what is asked for needs a network: lines of `test`, `run`, `campaign`, `stress`, `record`, `serve` and `selftest` do
abbrev pub needs_network : Request → Bool
needs_network (request.Run args) = true
needs_network (request.Serve service) = true
needs_network (request.Record args) = true
needs_network (request.Campaign args) = true
needs_network (request.Stress args) = true
needs_network (request.Test args) = true
needs_network request.Selftest = true
needs_network _ = false
