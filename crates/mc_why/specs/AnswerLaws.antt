-- What follows for the moves of an explanation: the cache that answers is that of its replay.
use Rattle.std.specs.Prelude.{◌≡◌, ℕ, Some, List, [], ◌∷◌, take, slice_get}
use Rattle.mc_model.specs.{Contents.Contents, Notes.History}
use Rattle.mc_history.specs.{Claim.Claim, Turns.Turn}
use Rattle.mc_claims.specs.{Explains.Explains, Explains.start_contents, Explains.steps_of, Replay.Step, Replay.after}
use Rattle.mc_why.specs.Answers.{contents_after, next_after}

-- what a cache holds after the steps, one after another
abbrev pub left_by : Contents → List Step → Contents
left_by contents [] = contents
left_by contents (step ∷ steps) = left_by (after contents step) steps

-- the first moves of an explanation leave what as many steps of its replay leave
abbrev pub MovesAreReplayed : Type 0
MovesAreReplayed =
    (h : History) (claim : Claim) (explains : Explains h claim) (n : ℕ)
    → contents_after h.sections claim (take n claim.order)
    ≡ left_by (start_contents claim.start) (take n (steps_of explains.order claim.order))

-- each turn of its order is the next request of a section after the moves before it
abbrev pub TurnsComeNext : Type 0
TurnsComeNext =
    (h : History) (claim : Claim) (explains : Explains h claim) (n : ℕ) (turn : Turn) → slice_get explains.order n ≡ Some turn
    → next_after h.sections (take n claim.order) turn.0 ≡ Some turn.1
