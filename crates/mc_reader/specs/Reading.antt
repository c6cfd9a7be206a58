-- A reader of replies, by the bytes that it was fed.
use Rattle.std.specs.Prelude.{◌≡◌, ℕ, ◌≤◌, Option, Some, None, Result, Ok, Err, true, List, ◌++◌, length, take}
use Rattle.mc_protocol.specs.{Legal.is_fit_for, Lines.Word, declared.request.Verb.Verb}
use Rattle.mc_reader.specs.declared.fault.ReadFault.TheVariants.{OutOfMemory, Failed}
use Rattle.mc_reader.specs.{Replies.Spells, Replies.IsUnfinished, Replies.HasFailed, declared.fault.ReadFault.ReadFault}
use Rattle.mc_reader.specs.{declared.reader.Fed.Fed, declared.reader.Fed.TheVariants.More, declared.reader.Fed.TheVariants.Done}

-- the request whose reply is read, and the joined bytes that were fed so far; none once a reply or a fault was answered
pub record Reading : Type 0 where
  pub verb : Verb
  pub key : Word
  pub fed : Option (List ℕ)

-- what a reader answers that was fed this text, and now the piece; and what it has been fed then
abbrev pub IsAnswer : Verb → Word → List ℕ → List ℕ → Result Fed ReadFault → Option (List ℕ) → Type 0
IsAnswer verb key text piece (Ok More) fed = (fed ≡ Some (text ++ piece)) × IsUnfinished verb key (text ++ piece)
IsAnswer verb key text piece (Ok (Done reply used)) fed =
    (fed ≡ None) × (used ≤ length piece) × Spells verb key (text ++ take used piece) reply × (is_fit_for verb reply ≡ true)
IsAnswer verb key text piece (Err OutOfMemory) fed = fed ≡ None
IsAnswer verb key text piece (Err Failed) fed = ⊥
IsAnswer verb key text piece (Err fault) fed = (fed ≡ None) × HasFailed verb key (text ++ piece) fault

-- the same of a reader that was fed this, or has answered a reply or a fault before
abbrev pub IsAnswerAfter : Verb → Word → Option (List ℕ) → List ℕ → Result Fed ReadFault → Option (List ℕ) → Type 0
IsAnswerAfter verb key None piece result fed = (result ≡ Err Failed) × (fed ≡ None)
IsAnswerAfter verb key (Some text) piece result fed = IsAnswer verb key text piece result fed
