-- What a cache answers to the requests that come next after an explanation, and to those in it that were not answered.
use Rattle.std.specs.Prelude.{◌≡◌, ◌<◌, ℕ, true, Option, Some, None, is_some, List, [], ◌∷◌, ◌++◌, slice_get}
use Rattle.mc_protocol.specs.{declared.actor.Actor.Actor, declared.reply.Reply.Reply}
use Rattle.mc_model.specs.Sections.{Sections, section_of}
use Rattle.mc_model.specs.{declared.act.Choice.Choice, declared.sent.Sent.Sent, Act.act, Contents.Contents}
use Rattle.mc_history.specs.{declared.explanation.Move.Move, Claim.Claim}
use Rattle.mc_claims.specs.{Explains.start_contents, ExplainsLaws.move_count}
use Rattle.mc_explain.specs.Choices.{plain}
use Rattle.mc_why.specs.declared.answer.Answer.{Answer}
use Rattle.mc_why.specs.declared.answer.Answer.TheVariants as answer

-- the section's next request after these moves, each of which lets the next request of its section act
abbrev pub next_after : Sections → List Move → Actor → Option Sent
next_after s moves section = slice_get (section_of s section) (move_count section moves)

-- what a cache holds after one more move
abbrev pub moved : Option Sent → Move → Contents → Contents
moved None move contents = contents
moved (Some sent) move contents = (act contents sent.request move.choice move.number).contents

-- what it holds after these moves, which come after earlier ones
abbrev pub moved_along : Sections → List Move → List Move → Contents → Contents
moved_along s earlier [] contents = contents
moved_along s earlier (move ∷ moves) contents =
    moved_along s (earlier ++ move ∷ []) moves (moved (next_after s earlier move.actor) move contents)

-- what a cache that begins as the claim says holds after these moves
abbrev pub contents_after : Sections → Claim → List Move → Contents
contents_after s claim moves = moved_along s [] moves (start_contents claim.start)

-- what such a cache answers to a request after these moves, whatever number a version gets that it makes
abbrev pub IsAnswered : Sections → Claim → List Move → Sent → Choice → Reply → Type 0
IsAnswered s claim moves sent choice reply =
    (number : ℕ) → reply ≡ (act (contents_after s claim moves) sent.request choice number).reply

-- a request that comes next: no move lets it act. The answer is that of a cache that pads nothing, and refuses no body that may
-- be a number
pub record ComesNext (s : Sections) (claim : Claim) (section : Actor) (place : ℕ) (reply : Reply) : Type 0 where
  pub sent : Sent
  pub there : slice_get (section_of s section) place ≡ Some sent
  pub next : place ≡ move_count section claim.order
  pub answer : IsAnswered s claim claim.order sent plain reply

-- a request that was not answered and acts by a move of the claim
pub record ActsUnanswered (s : Sections) (claim : Claim) (section : Actor) (place : ℕ) (reply : Reply) : Type 0 where
  pub sent : Sent
  pub there : slice_get (section_of s section) place ≡ Some sent
  pub unanswered : sent.reply ≡ None
  pub front : List Move
  pub move : Move
  pub back : List Move
  pub moves : claim.order ≡ front ++ move ∷ back
  pub actor : move.actor ≡ section
  pub earlier : place ≡ move_count section front
  pub answer : IsAnswered s claim front sent move.choice reply

-- each request of the section that acts was answered
abbrev pub AreAnswered : Sections → Claim → Actor → Type 0
AreAnswered s claim section =
    (place : ℕ) (sent : Sent) → place < move_count section claim.order → slice_get (section_of s section) place ≡ Some sent
    → is_some sent.reply ≡ true

-- What is answered to a section, of the requests that stand before a place, and of those up to it: to the next one of these, where
-- there is one; else to the one of those that was not answered and acts
abbrev pub IsAnswerIn : Sections → Sections → Claim → Actor → Option Answer → Type 0
IsAnswerIn before up_to claim section None = (next_after up_to claim.order section ≡ None) × AreAnswered before claim section
IsAnswerIn before up_to claim section (Some (answer.Next place reply)) = ComesNext up_to claim section place reply
IsAnswerIn before up_to claim section (Some (answer.Acted place reply)) =
    (next_after up_to claim.order section ≡ None) × ActsUnanswered before claim section place reply
