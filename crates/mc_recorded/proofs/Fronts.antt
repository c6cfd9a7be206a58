-- What stands at the front of received bytes, by what a reader answers.
use Rattle.std.specs.Prelude.{◌≡◌, ℕ, ◌≤◌, Option, Some, Ok, List, [], length, take}
use Rattle.std.proofs.Common.{subst}
use Rattle.mc_protocol.specs.{Lines.Word, declared.reply.Reply.Reply, declared.request.Verb.Verb}
use Rattle.mc_reader.specs.declared.reader.Fed.TheVariants.{More, Done}
use Rattle.mc_reader.specs.{Reading.Reading, Reading.IsAnswerAfter, Replies.Spells, Replies.IsUnfinished, declared.reader.Fed.Fed}

-- a reader that was fed nothing
abbrev fresh : Verb → Word → Reading
fresh verb key = record { verb = verb; key = key; fed = Some [] }

pub whole_reply : (verb : Verb) (key other : Word) (r : Reading) (bytes : List ℕ) (fed : Option (List ℕ)) (f : Fed) (reply : Reply) (used : ℕ)
    → other ≡ key → r ≡ fresh verb other → f ≡ Done reply used → IsAnswerAfter r.verb r.key r.fed bytes (Ok f) fed
    → (used ≤ length bytes) × Spells verb key (take used bytes) reply
whole_reply verb key other r bytes fed f reply used k_is r_is f_is answer =
    let first = subst (λ (x : Reading). IsAnswerAfter x.verb x.key x.fed bytes (Ok f) fed) r_is answer in
    let keyed = subst (λ (k : Word). IsAnswerAfter verb k (Some []) bytes (Ok f) fed) k_is first in
    let done = subst (λ (x : Fed). IsAnswerAfter verb key (Some []) bytes (Ok x) fed) f_is keyed in
    (done.1, done.2)

pub no_whole_reply : (verb : Verb) (key other : Word) (r : Reading) (bytes : List ℕ) (fed : Option (List ℕ)) (f : Fed)
    → other ≡ key → r ≡ fresh verb other → f ≡ More → IsAnswerAfter r.verb r.key r.fed bytes (Ok f) fed → IsUnfinished verb key bytes
no_whole_reply verb key other r bytes fed f k_is r_is f_is answer =
    let first = subst (λ (x : Reading). IsAnswerAfter x.verb x.key x.fed bytes (Ok f) fed) r_is answer in
    let keyed = subst (λ (k : Word). IsAnswerAfter verb k (Some []) bytes (Ok f) fed) k_is first in
    let more = subst (λ (x : Fed). IsAnswerAfter verb key (Some []) bytes (Ok x) fed) f_is keyed in
    more.1
