-- A reader of requests, by what it has read of the request at hand.
use Rattle.std.specs.Prelude.{◌≡◌, ℕ, ◌+◌, ◌<◌, ◌≤◌, Result, Ok, Err, List, [], ◌∷◌, ◌++◌, length, take, if◌then◌else◌, ◌⊎◌}
use Rattle.mc_reader.specs.declared.ask.Asked.TheVariants.{More, Done}
use Rattle.mc_reader.specs.declared.ask.AskFault.TheVariants.{OutOfMemory, Failed}
use Rattle.mc_reader.specs.{AskEnds.AskEnds, AskEnds.IsAskUnfinished, AskLines.Block, AskLines.Skips, AskLines.line_says, Asks.Asking}
use Rattle.mc_reader.specs.{Asks.closes, Asks.ask_of, Lines.CR, Lines.LF, Lines.IsLine, declared.ask.Asked.Asked}
use Rattle.mc_reader.specs.{declared.ask.AskFault.AskFault, declared.ask.Refuse.Refuse, declared.ask_said.StoreLine.StoreLine}

-- How far a reader has come: in a line, of which these bytes were read; after the line of a request that brings a body, of which
-- these; after the line of a refused request, where this number of bytes is still to be skipped; or nothing is read any more.
pub data Progress : Type 0 where
  InLine : List ℕ → Progress
  InBlock : StoreLine → List ℕ → Progress
  Skipping : Refuse → ℕ → Progress
  Over : Progress

-- a block that isn't ended: no more than its body, or its body and CR
abbrev pub IsBlockFront : StoreLine → List ℕ → Type 0
IsBlockFront line part =
    (length part ≤ line.body_len) ⊎ ((body : List ℕ) × (length body ≡ line.body_len) × (part ≡ body ++ CR ∷ []))

-- the text of a request of which `part` was read after the line
pub record HasReadBlock (store : StoreLine) (part text : List ℕ) : Type 0 where
  pub line : List ℕ
  pub whole : IsLine line
  pub says : line_says line ≡ Block store
  pub front : IsBlockFront store part
  pub cut : text ≡ line ++ LF ∷ part

-- the text of a refused request, of which `left` bytes are still to come
pub record HasSkipped (refuse : Refuse) (left : ℕ) (text : List ℕ) : Type 0 where
  pub line : List ℕ
  pub part : List ℕ
  pub whole : IsLine line
  pub some : 0 < left
  pub says : line_says line ≡ Skips refuse (length part + left)
  pub cut : text ≡ line ++ LF ∷ part

-- A reader that has read this text of a request has come so far. Bytes that are skipped aren't kept, so different texts lead to
-- one progress.
abbrev pub HasRead : Progress → List ℕ → Type 0
HasRead (InLine start) text = IsLine start × (text ≡ start)
HasRead (InBlock store part) text = HasReadBlock store part text
HasRead (Skipping refuse left) text = HasSkipped refuse left text
HasRead Over text = ⊥

-- where a reader goes on after what is asked: at the next line, or nowhere
abbrev pub goes_on : Asking → Progress
goes_on asked = if closes asked then Over else InLine []

-- what a reader answers that has read this text of a request, and now the piece; and how far it has come then
abbrev pub IsAskAnswer : List ℕ → List ℕ → Result Asked AskFault → Progress → Type 0
IsAskAnswer text piece (Ok More) new = HasRead new (text ++ piece) × IsAskUnfinished (text ++ piece)
IsAskAnswer text piece (Ok (Done ask used)) new =
    (new ≡ goes_on (ask_of ask)) × (0 < used) × (used ≤ length piece) × AskEnds (text ++ take used piece) (ask_of ask)
IsAskAnswer text piece (Err OutOfMemory) new = new ≡ Over
IsAskAnswer text piece (Err Failed) new = ⊥

-- A reader answers this to a piece, and comes so far: where nothing is read any more it fails; else it answers by the bytes of the
-- request that it has read, whichever led to its progress.
abbrev pub FeedsAsk : Progress → List ℕ → Result Asked AskFault → Progress → Type 0
FeedsAsk Over piece result new = (result ≡ Err Failed) × (new ≡ Over)
FeedsAsk old piece result new = (text : List ℕ) → HasRead old text → IsAskAnswer text piece result new
