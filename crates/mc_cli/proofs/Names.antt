-- What a subcommand's name says of what is asked for.
use Rattle.std.proofs.Common.{◌≡◌, refl, subst, true, false, ℕ, Bool, bytes_eq, codes}
use Rattle.clap.specs.Words.{Text}
use Rattle.mc_cli.specs.{Asking.name_of, declared.args.CampaignArgs.CampaignArgs, declared.args.CheckArgs.CheckArgs, declared.args.ConvertArgs.ConvertArgs}
use Rattle.mc_cli.specs.{declared.args.DrawArgs.DrawArgs, declared.args.JudgeArgs.JudgeArgs, declared.args.RecordArgs.RecordArgs, declared.args.RunArgs.RunArgs}
use Rattle.mc_cli.specs.{declared.args.Search.Search, declared.args.ServeArgs.ServeArgs, declared.args.StressArgs.StressArgs, declared.args.TestArgs.TestArgs}
use Rattle.mc_cli.specs.{declared.request.Request.Request}
use Rattle.mc_cli.specs.declared.question.Question.TheVariants as question
use Rattle.mc_cli.specs.declared.request.Request.TheVariants as request

abbrev pub either : Bool → Type 0 → Type 0 → Type 0
either true one other = one
either false one other = other

-- what the subcommand with this name asks for is of its kind
abbrev pub IsOfName : Text → Request → Type 0
IsOfName name wanted =
    either (bytes_eq name (codes "judge")) ((args : JudgeArgs) × (wanted ≡ request.Question (question.Judge args))) (
    either (bytes_eq name (codes "check")) ((args : CheckArgs) × (wanted ≡ request.Question (question.Check args))) (
    either (bytes_eq name (codes "asm")) ((why : Bool) × (wanted ≡ request.Question (question.Asm why))) (
    either (bytes_eq name (codes "drive")) ((how : Search) × (wanted ≡ request.Question (question.Drive how))) (
    either (bytes_eq name (codes "draw")) ((how : DrawArgs) × (wanted ≡ request.Question (question.Draw how))) (
    either (bytes_eq name (codes "convert")) ((args : ConvertArgs) × (wanted ≡ request.Question (question.Convert args))) (
    either (bytes_eq name (codes "join")) (wanted ≡ request.Question question.Join) (
    either (bytes_eq name (codes "run")) ((args : RunArgs) × (wanted ≡ request.Run args)) (
    either (bytes_eq name (codes "test")) ((args : TestArgs) × (wanted ≡ request.Test args)) (
    either (bytes_eq name (codes "generate")) ((seed job : ℕ) × (wanted ≡ request.Generate seed job)) (
    either (bytes_eq name (codes "serve")) ((service : ServeArgs) × (wanted ≡ request.Serve service)) (
    either (bytes_eq name (codes "record")) ((args : RecordArgs) × (wanted ≡ request.Record args)) (
    either (bytes_eq name (codes "campaign")) ((args : CampaignArgs) × (wanted ≡ request.Campaign args)) (
    either (bytes_eq name (codes "stress")) ((args : StressArgs) × (wanted ≡ request.Stress args)) (
    wanted ≡ request.Selftest))))))))))))))

of_its_name : (wanted : Request) → IsOfName (name_of wanted) wanted
of_its_name (request.Question (question.Judge args)) = (args, refl)
of_its_name (request.Question (question.Check args)) = (args, refl)
of_its_name (request.Question (question.Asm why)) = (why, refl)
of_its_name (request.Question (question.Drive how)) = (how, refl)
of_its_name (request.Question (question.Draw how)) = (how, refl)
of_its_name (request.Question (question.Convert args)) = (args, refl)
of_its_name (request.Question question.Join) = refl
of_its_name (request.Run args) = (args, refl)
of_its_name (request.Test args) = (args, refl)
of_its_name (request.Generate seed job) = (seed, job, refl)
of_its_name (request.Serve service) = (service, refl)
of_its_name (request.Record args) = (args, refl)
of_its_name (request.Campaign args) = (args, refl)
of_its_name (request.Stress args) = (args, refl)
of_its_name request.Selftest = refl

pub of_name : (name : Text) (wanted : Request) → name_of wanted ≡ name → IsOfName name wanted
of_name name wanted same = subst (λ n. IsOfName n wanted) same (of_its_name wanted)
