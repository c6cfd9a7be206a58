use Rattle.mc_words.proofs.ReplyWords.{one_reply}
use Rattle.mc_words.proofs.word_laws.words_spell_one_reply.Goals as goal

pub returns : goal.returns
returns c = one_reply
