-- How far a reader of replies has come.
use Rattle.std.specs.Prelude.{◌≡◌, ℕ, Option, Some, None, Result, Ok, Err, List, ◌∷◌, ◌++◌, Vec}
use Rattle.std.specs.declared.alloc.Global.{Global}
use Rattle.mc_protocol.specs.{Lines.Word, declared.request.Verb.Verb}
use Rattle.mc_reader.specs.{Block.block_read, Block.IsBlock, Lines.LF, Lines.IsLine, Lines.line_says, Replies.Ends, Steps.IsStep}
use Rattle.mc_reader.specs.{declared.block.Block.Block, declared.fault.ReadFault.ReadFault, declared.fault.ReadFault.TheVariants.Failed}
use Rattle.mc_reader.specs.{declared.said.Said.TheVariants.Hit, declared.stage.Stage.Stage, declared.step.Step.Step}
use Rattle.mc_reader.specs.{declared.step.Step.TheVariants.More, declared.step.Step.TheVariants.Done}
use Rattle.mc_reader.specs.declared.stage.Stage.TheVariants as stage

-- the bytes that were read, until a reply or a fault was answered
abbrev pub stage_fed : Stage → Option (List ℕ)
stage_fed (stage.Line start) = Some start.items
stage_fed (stage.Block line block) = Some (line.items ++ LF ∷ block_read block)
stage_fed stage.Over = None

-- a line that isn't whole; or the first line of a hit, and what was read after it
abbrev pub IsStage : Verb → Word → Stage → Type 0
IsStage verb key (stage.Line start) = IsLine start.items
IsStage verb key (stage.Block line block) =
    IsLine line.items × (line_says verb key line.items ≡ Ok (Hit block.hit)) × IsBlock block
IsStage verb key stage.Over = Unit {0}

-- a stage at which this text was read
pub record IsStageAt (verb : Verb) (key : Word) (s : Stage) (text : List ℕ) : Type 0 where
  pub valid : IsStage verb key s
  pub read : stage_fed s ≡ Some text

-- what comes of a piece after what was fed
abbrev pub IsStepFrom : Verb → Word → Option (List ℕ) → List ℕ → Result (Step Stage) ReadFault → Type 0
IsStepFrom verb key None piece result = result ≡ Err Failed
IsStepFrom verb key (Some text) piece result = IsStep (Ends verb key) (IsStageAt verb key) text piece result

-- what comes of a piece, by what comes of it after the first line of a hit
abbrev pub after_block : Vec ℕ Global → Step Block → Step Stage
after_block line (More block) = More (stage.Block line block)
after_block line (Done reply unread) = Done reply unread
