-- What is written of answers, and what of them is held back; private contracts alone cite it.
use Rattle.std.specs.Prelude.{◌≡◌, Result, Ok, Err, List, [], ◌++◌, ℕ}
use Rattle.mc_lane.specs.{Streams.StreamState, Streams.no_counts, Streams.a_failed_write, Streams.Carries, declared.stream.Counts.Counts}
use Rattle.mc_server.specs.declared.served.Why.{Why}
use Rattle.mc_server.specs.declared.served.Why.TheVariants as why

-- of what was held back, and of the text after it, the first bytes were written, and these are left
pub record IsPut (text held left : List ℕ) (before after : StreamState) (counts : Counts) : Type 0 where
  pub written : List ℕ
  pub carries : Carries before after [] written counts
  pub all : held ++ text ≡ written ++ left

-- a write failed before all was written
abbrev pub IsBroken : List ℕ → List ℕ → StreamState → StreamState → Type 0
IsBroken text held before after = (left : List ℕ) × IsPut text held left before after a_failed_write

-- all of the bytes were written, or a write failed
abbrev pub WritesAll : List ℕ → StreamState → StreamState → Result (Unit {0}) Why → Type 0
WritesAll bytes before after (Ok done) = Carries before after [] bytes no_counts
WritesAll bytes before after (Err why.WriteFailed) = IsBroken [] bytes before after
WritesAll bytes before after (Err _) = ⊥

-- A text of this kind was written or is held back, after what was held back before; or the front of one where there was no memory;
-- or a write failed.
abbrev pub Puts : (Whole Front : List ℕ → Type 0) → List ℕ → List ℕ → StreamState → StreamState → Result (Unit {0}) Why → Type 0
Puts Whole Front held left before after (Ok done) = (text : List ℕ) × Whole text × IsPut text held left before after no_counts
Puts Whole Front held left before after (Err why.Memory) = (text : List ℕ) × Front text × IsPut text held left before after no_counts
Puts Whole Front held left before after (Err why.WriteFailed) = (text : List ℕ) × Front text × IsBroken text held before after
Puts Whole Front held left before after (Err _) = ⊥
