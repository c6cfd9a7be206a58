use Rattle.mc_protocol.proofs.OfWords.{verb-found}
use Rattle.mc_protocol.proofs.request.Verb.from_word.Goals as goal

pub returns-clause-word : goal.returns-clause-word
returns-clause-word c = verb-found c.args.word.now c.verb_of.result c.verb_of.ensures
