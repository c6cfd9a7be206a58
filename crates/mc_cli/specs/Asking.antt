-- What the words of a line ask for.
use Rattle.std.specs.Prelude.{◌≡◌, ◌⊎◌, ℕ, Option, Some, List, [], codes}
use Rattle.clap.specs.{Words.IsAmong, Words.Text, declared.error.kind.ErrorKind.ErrorKind}
use Rattle.clap.specs.declared.error.kind.ErrorKind.TheVariants as kind
use Rattle.mc_cli.specs.Args.{IsCampaignArgs, IsCheck, IsConvert, IsDraw, IsJob, IsJudge, IsRecordArgs, IsRunArgs}
use Rattle.mc_cli.specs.Line.{is_set, line_command, line_faults, line_value}
use Rattle.mc_cli.specs.declared.args.{CampaignArgs.CampaignArgs, RecordArgs.RecordArgs, RunArgs.RunArgs, StressArgs.StressArgs}
use Rattle.mc_cli.specs.declared.request.{LineFault.LineFault, Request.Request}
use Rattle.mc_cli.specs.{Args.IsSearch, Args.IsService, Args.IsStressArgs, Args.IsTestArgs, declared.args.TestArgs.TestArgs}
use Rattle.mc_cli.specs.declared.question.Question.TheVariants as question
use Rattle.mc_cli.specs.declared.request.LineFault.TheVariants as line_fault
use Rattle.mc_cli.specs.declared.request.Request.TheVariants as request

-- the name of the subcommand that asks for this
abbrev pub name_of : Request → Text
name_of (request.Question (question.Judge how)) = codes "judge"
name_of (request.Question (question.Check how)) = codes "check"
name_of (request.Question (question.Asm why)) = codes "asm"
name_of (request.Question (question.Drive how)) = codes "drive"
name_of (request.Question (question.Draw how)) = codes "draw"
name_of (request.Question (question.Convert how)) = codes "convert"
name_of (request.Question question.Join) = codes "join"
name_of (request.Run args) = codes "run"
name_of (request.Test args) = codes "test"
name_of (request.Generate seed job) = codes "generate"
name_of (request.Serve service) = codes "serve"
name_of (request.Record args) = codes "record"
name_of (request.Campaign args) = codes "campaign"
name_of (request.Stress args) = codes "stress"
name_of request.Selftest = codes "selftest"

-- what the values of its options ask for
abbrev pub IsAskedWith : (Text → Option Text) → Request → Type 0
IsAskedWith value (request.Question (question.Judge how)) = IsJudge value how
IsAskedWith value (request.Question (question.Check how)) = IsCheck value how
IsAskedWith value (request.Question (question.Asm why)) = why ≡ is_set (value (codes "why"))
IsAskedWith value (request.Question (question.Drive how)) = IsSearch value how
IsAskedWith value (request.Question (question.Draw how)) = IsDraw value how
IsAskedWith value (request.Question (question.Convert how)) = IsConvert value how
IsAskedWith value (request.Question question.Join) = Unit {0}
IsAskedWith value (request.Run args) = IsRunArgs value args
IsAskedWith value (request.Test args) = IsTestArgs value args
IsAskedWith value (request.Generate seed job) = IsJob value seed job
IsAskedWith value (request.Serve service) = IsService value service
IsAskedWith value (request.Record args) = IsRecordArgs value args
IsAskedWith value (request.Campaign args) = IsCampaignArgs value args
IsAskedWith value (request.Stress args) = IsStressArgs value args
IsAskedWith value request.Selftest = Unit {0}

-- a subcommand asks for this with the values of its options
abbrev pub IsAskedBy : Option Text → (Text → Option Text) → Request → Type 0
IsAskedBy command value wanted = (command ≡ Some (name_of wanted)) × IsAskedWith value wanted

-- the words ask for this: clap finds no fault in them, and reads this
abbrev pub AsksFor : List (List ℕ) → Request → Type 0
AsksFor words wanted = (line_faults words ≡ []) × IsAskedBy (line_command words) (line_value words) wanted

-- both ask for the same, if the server and how it is met don't count
abbrev pub IsLike : Request → Request → Type 0
IsLike (request.Run args) other = (more : RunArgs) × (other ≡ request.Run more) × (args.how ≡ more.how)
IsLike (request.Test args) other = (more : TestArgs) × (other ≡ request.Test more) × (args.seed ≡ more.seed)
IsLike (request.Record args) other = (more : RecordArgs) × (other ≡ request.Record more) × (args.port ≡ more.port)
    × (args.connections ≡ more.connections) × (args.time ≡ more.time) × (args.judge ≡ more.judge)
IsLike (request.Campaign args) other = (more : CampaignArgs) × (other ≡ request.Campaign more) × (args.plan ≡ more.plan)
IsLike (request.Stress args) other = (more : StressArgs) × (other ≡ request.Stress more) × (args.plan ≡ more.plan)
    × (args.rounds ≡ more.rounds) × (args.time ≡ more.time) × (args.limit ≡ more.limit)
IsLike one other = one ≡ other

-- the words have a fault: they ask for nothing
abbrev pub IsFaulty : List (List ℕ) → Type 0
IsFaulty words = (wanted : Request) → AsksFor words wanted → ⊥

-- help or the version, for which a line may call, and which clap has among its faults
abbrev pub IsShown : ErrorKind → Type 0
IsShown found = (found ≡ kind.DisplayHelp) ⊎ (found ≡ kind.DisplayVersion)

-- the words have a fault of this kind: one that clap finds; or, where it finds none, another that is no call for help
pub record HasFault (words : List (List ℕ)) (found : ErrorKind) : Type 0 where
  pub faulty : IsFaulty words
  pub which : IsAmong found (line_faults words) ⊎ ((line_faults words ≡ []) × (IsShown found → ⊥))

-- the words call for help or the version
abbrev pub MayShow : List (List ℕ) → Type 0
MayShow words = (found : ErrorKind) × HasFault words found × IsShown found

-- the words have a fault that is reported
abbrev pub MayTell : List (List ℕ) → Type 0
MayTell words = (found : ErrorKind) × HasFault words found × (IsShown found → ⊥)

-- what is answered for a fault of this kind
abbrev pub Says : ErrorKind → LineFault → Type 0
Says found (line_fault.Shown text) = IsShown found
Says found (line_fault.Wrong text) = IsShown found → ⊥
Says found line_fault.OutOfMemory = Unit {0}

-- so the line is answered in place of what it asks for; without memory nothing is known of it
abbrev pub IsFaultOf : List (List ℕ) → LineFault → Type 0
IsFaultOf words (line_fault.Shown text) = IsFaulty words × MayShow words
IsFaultOf words (line_fault.Wrong text) = IsFaulty words × MayTell words
IsFaultOf words line_fault.OutOfMemory = Unit {0}
