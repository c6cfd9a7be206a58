-- The words are read as a request exactly where they spell it.
use Rattle.std.proofs.Common.{map}
use Rattle.mc_words.specs.{Words.SpellsRequest, Reading.request_in}
use Rattle.mc_words.proofs.{Readings.IfOk-from_gives, Readings.IfErr-from_gives, RequestWords.request-spelled, RequestWords.request-read}
use Rattle.mc_words.proofs.words.read_request_words.Goals as goal

pub returns-clause-found : goal.returns-clause-found
returns-clause-found c =
    let words = map (λ w. w.now) c.args.words.now in
    IfOk-from_gives (SpellsRequest words) (request_in words) c.request_in.result (request-spelled words) c.request_in.ensures.exact

pub returns-clause-none : goal.returns-clause-none
returns-clause-none c =
    let words = map (λ w. w.now) c.args.words.now in
    IfErr-from_gives (SpellsRequest words) (request_in words) c.request_in.result (request-read words) c.request_in.ensures.exact
