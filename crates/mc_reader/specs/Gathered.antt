-- Lines that come in pieces.
use Rattle.std.specs.Prelude.{◌≡◌, ℕ, ◌+◌, ◌<◌, ◌≤◌, false, Option, Some, None, Result, Ok, Err, List, [], ◌∷◌, ◌++◌, length, take, drop}
use Rattle.mc_reader.specs.declared.fault.ReadFault.TheVariants.{LineTooLong, OutOfMemory}
use Rattle.mc_reader.specs.{Lines.LF, Lines.has_end, Lines.IsLine, Lines.IsTooLong, declared.fault.ReadFault.ReadFault}

-- the first LF of the piece stands here
pub record IsFirstEnd (piece : List ℕ) (at : ℕ) : Type 0 where
  pub within : at < length piece
  pub cut : take at piece ++ LF ∷ drop (at + 1) piece ≡ piece
  pub none_before : has_end (take at piece) ≡ false

-- the place of the first LF among the first `room` bytes; none where the piece has fewer bytes and no LF
abbrev pub IsLineEnd : ℕ → List ℕ → Result (Option ℕ) ReadFault → Type 0
IsLineEnd room piece (Ok None) = (length piece < room) × (has_end piece ≡ false)
IsLineEnd room piece (Ok (Some at)) = (at < room) × IsFirstEnd piece at
IsLineEnd room piece (Err LineTooLong) = (room ≤ length piece) × (has_end (take room piece) ≡ false)
IsLineEnd room piece (Err fault) = ⊥

-- the line whose LF was found after `front`: where nothing was gathered, it stands in the piece alone
abbrev pub joined : List ℕ → List ℕ → List ℕ
joined [] front = front
joined (byte ∷ start) front = byte ∷ start

-- what is gathered of a line that goes on to its LF
abbrev pub gathered : List ℕ → List ℕ → List ℕ
gathered [] front = []
gathered (byte ∷ start) front = byte ∷ start ++ front

-- a front of the piece makes the line too long
pub record GrowsTooLong (start piece : List ℕ) : Type 0 where
  pub front : List ℕ
  pub back : List ℕ
  pub cut : front ++ back ≡ piece
  pub long : IsTooLong (start ++ front)

-- the line goes on to the LF at this place of the piece
pub record IsGathered (start after piece : List ℕ) (at : ℕ) : Type 0 where
  pub end_at : IsFirstEnd piece at
  pub line : IsLine (start ++ take at piece)
  pub kept : after ≡ gathered start (take at piece)

-- what comes of the piece, where `start` was gathered before it and `after` then
abbrev pub Gathers : List ℕ → List ℕ → List ℕ → Result (Option ℕ) ReadFault → Type 0
Gathers start after piece (Ok None) = (after ≡ start ++ piece) × IsLine (start ++ piece)
Gathers start after piece (Ok (Some at)) = IsGathered start after piece at
Gathers start after piece (Err LineTooLong) = GrowsTooLong start piece
Gathers start after piece (Err OutOfMemory) = Unit {0}
Gathers start after piece (Err fault) = ⊥
