-- How an answer is written or held back; private contracts alone cite it.
use Rattle.std.specs.Prelude.{◌≡◌, ℕ, Result, List, []}
use Rattle.mc_lane.specs.Streams.{StreamState}
use Rattle.mc_reader.specs.Asks.{Asking}
use Rattle.mc_server.specs.{Answers.MayWrite, Answers.MayBegin, Puts.Puts, declared.served.Why.Why}

-- this text alone
abbrev pub Is : List ℕ → List ℕ → Type 0
Is text other = other ≡ text

-- a text of this kind is put, or nothing of it
abbrev pub PutsWhole : (List ℕ → Type 0) → List ℕ → List ℕ → StreamState → StreamState → Result (Unit {0}) Why → Type 0
PutsWhole Whole held left before after result = Puts Whole (Is []) held left before after result

-- an answer to what is asked is put, or the front of one
abbrev pub PutsAnswer : Asking → List ℕ → List ℕ → StreamState → StreamState → Result (Unit {0}) Why → Type 0
PutsAnswer asked held left before after result = Puts (MayWrite asked) (MayBegin asked) held left before after result
