-- What one piece does to what was read before it.
use Rattle.std.specs.Prelude.{◌≡◌, ℕ, Result, Ok, Err, List, ◌++◌, length}
use Rattle.mc_reader.specs.declared.fault.ReadFault.TheVariants.{OutOfMemory, Failed}
use Rattle.mc_reader.specs.declared.step.Step.TheVariants.{More, Done}
use Rattle.mc_reader.specs.{Replies.Outcome, declared.fault.ReadFault.ReadFault, declared.step.Step.Step}

-- the text and a front of the piece end with this outcome, and `unread` bytes of the piece come after them
pub record EndsAt {O : Type 0} (E : List ℕ → O → Type 0) (text piece : List ℕ) (outcome : O) (unread : ℕ) : Type 0 where
  pub front : List ℕ
  pub back : List ℕ
  pub cut : front ++ back ≡ piece
  pub rest : length back ≡ unread
  pub ends : E (text ++ front) outcome

pub record EndsWithin (E : List ℕ → Outcome → Type 0) (text piece : List ℕ) (outcome : Outcome) : Type 0 where
  pub unread : ℕ
  pub at : EndsAt E text piece outcome unread

-- what comes of the piece where the text was read before: more is to come and what was read stands in `After`, or the text
-- ends
abbrev pub IsStep : {S : Type 0} → (List ℕ → Outcome → Type 0) → (S → List ℕ → Type 0) → List ℕ → List ℕ → Result (Step S) ReadFault
    → Type 0
IsStep E After text piece (Ok (More s)) = After s (text ++ piece)
IsStep E After text piece (Ok (Done reply unread)) = EndsAt E text piece (Ok reply) unread
IsStep E After text piece (Err OutOfMemory) = Unit {0}
IsStep E After text piece (Err Failed) = ⊥
IsStep E After text piece (Err fault) = EndsWithin E text piece (Err fault)
