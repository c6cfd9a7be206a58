-- How far a reader of requests has come, and what one piece does to it.
use Rattle.std.specs.Prelude.{◌≡◌, ℕ, ◌+◌, ◌<◌, ◌≤◌, Result, Ok, Err, List, [], ◌∷◌, ◌++◌, length}
use Rattle.mc_reader.specs.AskReading.{Progress, InLine, InBlock, Skipping, Over, HasRead, IsBlockFront}
use Rattle.mc_reader.specs.declared.ask.AskFault.TheVariants.{OutOfMemory, Failed}
use Rattle.mc_reader.specs.declared.ask_stage.AskStep.TheVariants.{More, Done}
use Rattle.mc_reader.specs.{AskEnds.AskEnds, AskEnds.ChunkEnds, AskLines.LineSays, AskLines.line_says, Asks.Asking, Asks.ask_of, Lines.CR}
use Rattle.mc_reader.specs.{Lines.LF, Lines.IsLine, Steps.EndsAt, declared.ask.AskFault.AskFault, declared.ask.Refuse.Refuse}
use Rattle.mc_reader.specs.{declared.ask_said.StoreLine.StoreLine, declared.ask_stage.AskStage.AskStage, declared.ask_stage.AskStep.AskStep}
use Rattle.mc_reader.specs.declared.ask.Ask.TheVariants as ask
use Rattle.mc_reader.specs.declared.ask_stage.AskStage.TheVariants as stage

abbrev pub progress_of : AskStage → Progress
progress_of (stage.Line start) = InLine start.items
progress_of (stage.Body line body) = InBlock line body.items
progress_of (stage.Cr line body) = InBlock line (body.items ++ CR ∷ [])
progress_of (stage.Skip refuse left) = Skipping refuse left
progress_of stage.Over = Over

-- a line that isn't whole; a body that isn't longer than its line says, or as long; or something to skip
abbrev pub IsAskStage : AskStage → Type 0
IsAskStage (stage.Line start) = IsLine start.items
IsAskStage (stage.Body line body) = length body.items ≤ line.body_len
IsAskStage (stage.Cr line body) = length body.items ≡ line.body_len
IsAskStage (stage.Skip refuse left) = 0 < left
IsAskStage stage.Over = Unit {0}

-- a stage at which this text of a request was read
pub record IsAskStageAt (s : AskStage) (text : List ℕ) : Type 0 where
  pub valid : IsAskStage s
  pub read : HasRead (progress_of s) text

-- a stage at which this text was read after the line of a request that brings a body
pub record IsChunkAt (line : StoreLine) (s : AskStage) (text : List ℕ) : Type 0 where
  pub valid : IsAskStage s
  pub read : progress_of s ≡ InBlock line text
  pub front : IsBlockFront line text

-- what comes of the piece where the text was read before: more is to come and what was read stands in `After`, or the text ends
abbrev pub StepsTo : (List ℕ → Asking → Type 0) → (AskStage → List ℕ → Type 0) → List ℕ → List ℕ → Result AskStep AskFault → Type 0
StepsTo E After text piece (Ok (More s)) = After s (text ++ piece)
StepsTo E After text piece (Ok (Done asked unread)) = EndsAt E text piece (ask_of asked) unread
StepsTo E After text piece (Err OutOfMemory) = Unit {0}
StepsTo E After text piece (Err Failed) = ⊥

-- the same of a request, and of what comes after its line
abbrev pub StepsAsk : List ℕ → List ℕ → Result AskStep AskFault → Type 0
StepsAsk text piece result = StepsTo AskEnds IsAskStageAt text piece result

abbrev pub StepsChunk : StoreLine → List ℕ → List ℕ → Result AskStep AskFault → Type 0
StepsChunk line text piece result = StepsTo (ChunkEnds line) (IsChunkAt line) text piece result

-- what comes of a piece of which the first `left` bytes are skipped
abbrev pub StepsSkip : Refuse → ℕ → List ℕ → AskStep → Type 0
StepsSkip refuse left piece (More (stage.Skip other more)) = (other ≡ refuse) × (0 < more) × (length piece + more ≡ left)
StepsSkip refuse left piece (Done (ask.Refused other) unread) = (other ≡ refuse) × (left + unread ≡ length piece)
StepsSkip refuse left piece step = ⊥

-- what comes of a piece after a line that says this
abbrev pub StepsAfterLine : LineSays → List ℕ → Result AskStep AskFault → Type 0
StepsAfterLine says piece result =
    (line : List ℕ) → IsLine line → line_says line ≡ says → StepsAsk (line ++ LF ∷ []) piece result

-- what comes of a piece after what was read
abbrev pub StepsFrom : Progress → List ℕ → Result AskStep AskFault → Type 0
StepsFrom Over piece result = result ≡ Err Failed
StepsFrom old piece result = (text : List ℕ) → HasRead old text → StepsAsk text piece result

-- a stage to go on from, or no more bytes left than the piece has
abbrev pub StepsValid : List ℕ → AskStep → Type 0
StepsValid piece (More s) = IsAskStage s
StepsValid piece (Done asked unread) = unread ≤ length piece
