-- The word is read as a body exactly where it spells it.
use Rattle.mc_words.specs.{Words.SpellsBody, Reading.body_in}
use Rattle.mc_words.proofs.{Readings.IfOk-from_gives, Readings.IfErr-from_gives, BodyWords.body-spelled, BodyWords.body-read}
use Rattle.mc_words.proofs.body.read_body.Goals as goal

pub returns-clause-found : goal.returns-clause-found
returns-clause-found c =
    let word = c.args.word.now in
    IfOk-from_gives (SpellsBody word) (body_in word) c.body_in.result (body-spelled word) c.body_in.ensures.exact

pub returns-clause-none : goal.returns-clause-none
returns-clause-none c =
    let word = c.args.word.now in
    IfErr-from_gives (SpellsBody word) (body_in word) c.body_in.result (body-read word) c.body_in.ensures.exact
