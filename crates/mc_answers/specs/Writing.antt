-- What a call does that writes what is answered.
use Rattle.std.specs.Prelude.{◌≡◌, ◌⊎◌, ℕ, Bool, true, false, Option, List, codes}
use Rattle.mc_answers.specs.{Streams.Grows, declared.status.Status.Status}
use Rattle.mc_answers.specs.declared.status.Status.TheVariants as status

abbrev pub out_of_memory_text : List ℕ
out_of_memory_text = codes "out of memory\n"

-- what was written is right, or that memory ran out; and so is the status
pub record WritesBy (right_for : List ℕ → Status → Type 0) (old : Option (List ℕ)) (new : Option (List ℕ)) (ended : Status) : Type 0 where
  pub output : List ℕ
  pub right : right_for output ended ⊎ ((output ≡ out_of_memory_text) × (ended ≡ status.NoAnswer))
  pub written : Grows old new output

-- a call to a sink that had not failed: where it fails in none of its writes, what was written is right; else the status says so
pub record WritesRightly {O : Type 0} (written : O → Option (List ℕ)) (has_failed : O → Bool) (right_for : List ℕ → Status → Type 0)
    (old new : O) (ended : Status) : Type 0 where
  pub answered : has_failed old ≡ false → has_failed new ≡ false → WritesBy right_for (written old) (written new) ended
  pub broken : has_failed old ≡ false → has_failed new ≡ true → ended ≡ status.NoAnswer
