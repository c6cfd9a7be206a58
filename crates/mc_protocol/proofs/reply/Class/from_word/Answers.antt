use Rattle.mc_protocol.proofs.OfWords.{class-found}
use Rattle.mc_protocol.proofs.reply.Class.from_word.Goals as goal

pub returns-clause-word : goal.returns-clause-word
returns-clause-word c = class-found c.args.word.now c.class_of_word.result c.class_of_word.ensures
