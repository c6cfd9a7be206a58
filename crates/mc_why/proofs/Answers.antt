-- What a cache holds after moves, and what it answers then.
use Rattle.std.proofs.Common.{◌≡◌, ℕ, ◌+◌, ◌<◌, Option, Some, List, [], ◌∷◌, ◌++◌, take, drop, length, get_or}
use Rattle.std.proofs.Common.{slice_get, take-append-drop, sym, ap, subst, ◌∙◌}
use Rattle.std.proofs.{lemmas.List.drop_more, lemmas.List.take_more, lemmas.Option.get_or_from_slice_get}
use Rattle.mc_protocol.specs.{declared.actor.Actor.Actor, declared.reply.Reply.Reply}
use Rattle.mc_protocol.specs.declared.actor.Actor.TheVariants as actor
use Rattle.mc_model.specs.{declared.sent.Sent.Sent, Contents.Contents, Sections.Sections, Sections.section_of}
use Rattle.mc_history.specs.{declared.explanation.Move.Move, Claim.Claim}
use Rattle.mc_why.specs.Answers.{ActsUnanswered, IsAnswerIn, IsAnswered, moved, moved_along, next_after}
use Rattle.mc_why.specs.{declared.answer.Answer.Answer, Answering.IsFirstUnanswered, Answering.IsNthMove}

-- one more move
pub moved_on : (s : Sections) (moves : List Move) (i : ℕ) (d : Move) (cache next : Contents) (whole : Contents) → i < length moves
    → next ≡ moved (next_after s (take i moves) (get_or moves i d).actor) (get_or moves i d) cache
    → moved_along s (take i moves) (drop i moves) cache ≡ whole
    → moved_along s (take (i + 1) moves) (drop (i + 1) moves) next ≡ whole
moved_on s moves i d cache next whole less e before =
    let by = get_or moves i d in
    let first : take (i + 1) moves ≡ take i moves ++ by ∷ [] = take_more moves i d less in
    let rest : drop i moves ≡ by ∷ drop (i + 1) moves = drop_more moves i d less in
    ap (λ (l : List Move). moved_along s l (drop (i + 1) moves) next) first
    ∙ ap (λ (c : Contents). moved_along s (take i moves ++ by ∷ []) (drop (i + 1) moves) c) e
    ∙ sym (ap (λ (l : List Move). moved_along s (take i moves) l cache) rest) ∙ before

-- the answer to a request that was not answered
pub acts_unanswered : (s : Sections) (claim : Claim) (section : Actor) (xs : List Sent) (moves : List Move) (place index : ℕ) (by : Move) (reply : Reply)
    → xs ≡ section_of s section → moves ≡ claim.order → (first : IsFirstUnanswered xs place) → IsNthMove moves section place index by
    → IsAnswered s claim (take index moves) first.sent by.choice reply → ActsUnanswered s claim section place reply
acts_unanswered s claim section xs moves place index by reply same order first nth answer =
    let rest : drop index moves ≡ by ∷ drop (index + 1) moves = drop_more moves index by nth.within
    ∙ ap (λ (m : Move). m ∷ drop (index + 1) moves) (get_or_from_slice_get moves index by by nth.there) in
    record {
      sent = first.sent;
      there = subst (λ (l : List Sent). slice_get l place ≡ Some first.sent) same first.there;
      unanswered = first.unanswered;
      front = take index moves;
      move = by;
      back = drop (index + 1) moves;
      moves = sym order ∙ sym (take-append-drop index moves) ∙ ap (λ (l : List Move). take index moves ++ l) rest;
      actor = nth.actor;
      earlier = nth.earlier;
      answer = answer;
    }

-- the answers to the three sections
pub each_section : (before up_to : Sections) (claim : Claim) (p a b : Option Answer) → IsAnswerIn before up_to claim actor.P p
    → IsAnswerIn before up_to claim actor.A a → IsAnswerIn before up_to claim actor.B b
    → (section : Actor) → IsAnswerIn before up_to claim section (section_of (record { p = p; a = a; b = b }) section)
each_section before up_to claim p a b in_p in_a in_b actor.P = in_p
each_section before up_to claim p a b in_p in_a in_b actor.A = in_a
each_section before up_to claim p a b in_p in_a in_b actor.B = in_b
