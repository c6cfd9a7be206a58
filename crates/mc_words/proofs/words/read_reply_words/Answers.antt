-- The words are read as a reply exactly where they spell it.
use Rattle.std.proofs.Common.{map}
use Rattle.mc_words.specs.{Words.SpellsReply, Reading.reply_in}
use Rattle.mc_words.proofs.{Readings.IfOk-from_gives, Readings.IfErr-from_gives, ReplyWords.reply-spelled, ReplyWords.reply-read}
use Rattle.mc_words.proofs.words.read_reply_words.Goals as goal

pub returns-clause-found : goal.returns-clause-found
returns-clause-found c =
    let words = map (λ w. w.now) c.args.words.now in
    IfOk-from_gives (SpellsReply words) (reply_in words) c.reply_in.result (reply-spelled words) c.reply_in.ensures.exact

pub returns-clause-none : goal.returns-clause-none
returns-clause-none c =
    let words = map (λ w. w.now) c.args.words.now in
    IfErr-from_gives (SpellsReply words) (reply_in words) c.reply_in.result (reply-read words) c.reply_in.ensures.exact
