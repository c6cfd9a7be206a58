use Rattle.mc_history.proofs.lines.read_reply.Goals as goal

pub returns-in-Err-clause-word : goal.returns-in-Err-clause-word
returns-in-Err-clause-word g c = c.of_words.ensures.word _ c.in-Err.ensures.word
