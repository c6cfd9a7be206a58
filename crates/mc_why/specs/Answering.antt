-- What private contracts say of answers and of moves.
use Rattle.std.specs.Prelude.{◌≡◌, ◌<◌, ℕ, true, Option, Some, None, is_some, List, length, slice_get, take}
use Rattle.mc_protocol.specs.declared.actor.Actor.{Actor}
use Rattle.mc_model.specs.{declared.sent.Sent.Sent, Sections.Sections}
use Rattle.mc_history.specs.{declared.explanation.Move.Move, Claim.Claim}
use Rattle.mc_claims.specs.ExplainsLaws.{move_count}
use Rattle.mc_why.specs.{declared.answer.Answer.Answer, Answers.ActsUnanswered, Answers.AreAnswered, Answers.ComesNext, Answers.next_after}
use Rattle.mc_why.specs.declared.answer.Answer.TheVariants as answer

-- an answer to a section's next request, where it has one
abbrev pub IsAnswerToNext : Sections → Claim → Actor → Option Answer → Type 0
IsAnswerToNext s claim section None = next_after s claim.order section ≡ None
IsAnswerToNext s claim section (Some (answer.Next place reply)) = ComesNext s claim section place reply
IsAnswerToNext s claim section (Some (answer.Acted place reply)) = ⊥

-- an answer to a section's request that was not answered and acts
abbrev pub IsAnswerToUnanswered : Sections → Claim → Actor → Option Answer → Type 0
IsAnswerToUnanswered s claim section None = AreAnswered s claim section
IsAnswerToUnanswered s claim section (Some (answer.Next place reply)) = ⊥
IsAnswerToUnanswered s claim section (Some (answer.Acted place reply)) = ActsUnanswered s claim section place reply

-- the move at the place is one of the section, with this many of the section before it
pub record IsNthMove (moves : List Move) (section : Actor) (count place : ℕ) (move : Move) : Type 0 where
  pub within : place < length moves
  pub there : slice_get moves place ≡ Some move
  pub actor : move.actor ≡ section
  pub earlier : count ≡ move_count section (take place moves)

-- the request at the place is the first of the section that was not answered
pub record IsFirstUnanswered (section : List Sent) (place : ℕ) : Type 0 where
  pub within : place < length section
  pub sent : Sent
  pub there : slice_get section place ≡ Some sent
  pub unanswered : sent.reply ≡ None
  pub earlier : (before : ℕ) (other : Sent) → before < place → slice_get section before ≡ Some other → is_some other.reply ≡ true

-- each request of the section was answered
abbrev pub EachIsAnswered : List Sent → Type 0
EachIsAnswered section = (place : ℕ) (sent : Sent) → slice_get section place ≡ Some sent → is_some sent.reply ≡ true
