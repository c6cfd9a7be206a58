-- What the values of a subcommand's options say.
use Rattle.std.specs.Prelude.{◌≡◌, ◌+◌, ◌-◌, ◌≤◌, ◌^◌, ◌&&◌, ◌||◌, ℕ, Bool, true, false, nat_lt, Option, Some, None, is_some, List}
use Rattle.std.specs.Prelude.{codes, option_map, if◌then◌else◌}
use Rattle.clap.specs.Words.{Text}
use Rattle.mc_protocol.specs.Decimals.{MAX_64}
use Rattle.mc_settings.specs.{JobKeys.NameFits, Namespaces.is_namespace, declared.meeting.Meeting.Meeting, declared.mix.Mix.Mix}
use Rattle.mc_settings.specs.declared.meeting.Meeting.TheVariants as meeting
use Rattle.mc_settings.specs.declared.mix.Mix.TheVariants as mix
use Rattle.mc_cli.specs.declared.args.{CampaignArgs.CampaignArgs, Plan.Plan, Repeat.Repeat, RunArgs.RunArgs, Search.Search}
use Rattle.mc_cli.specs.declared.args.{CheckArgs.CheckArgs, ConvertArgs.ConvertArgs, DrawArgs.DrawArgs, JudgeArgs.JudgeArgs}
use Rattle.mc_cli.specs.declared.args.{Notation.Notation, RecordArgs.RecordArgs, ServeArgs.ServeArgs, StressArgs.StressArgs}
use Rattle.mc_cli.specs.declared.args.{StressPlan.StressPlan, TestArgs.TestArgs, Until.Until}
use Rattle.mc_cli.specs.{Kinds.IsValue, Kinds.MayBeValue, Line.is_set, declared.rows.Kind.Kind}
use Rattle.mc_cli.specs.declared.args.Notation.TheVariants as notation
use Rattle.mc_cli.specs.declared.rows.Kind.TheVariants as kind

-- the most jobs that a line may name
abbrev pub GREATEST_JOBS : ℕ
GREATEST_JOBS = 10000

-- a decimal of at least 0, or of at least 1, and at most the greatest
abbrev pub number : ℕ → Kind
number greatest = kind.Number 0 greatest

abbrev pub count : ℕ → Kind
count greatest = kind.Number 1 greatest

-- the values of `--limit` and `--why` say how an explanation is searched for
pub record IsSearch (value : Text → Option Text) (how : Search) : Type 0 where
  pub limit : IsValue (number 1000000000) (Some 1000000) (value (codes "limit")) how.limit
  pub why : how.why ≡ is_set (value (codes "why"))

-- the values of the options of `judge` say how a history is judged; a job is one of what a campaign printed
pub record IsJudge (value : Text → Option Text) (args : JudgeArgs) : Type 0 where
  pub how : IsSearch value args.how
  pub limit : MayBeValue (number 1000000000) (value (codes "limit")) args.limit
  pub key : args.key ≡ value (codes "key")
  pub json : args.json ≡ is_set (value (codes "json"))
  pub run : args.run ≡ (is_set (value (codes "run")) || is_some args.job)
  pub job : MayBeValue (number MAX_64) (value (codes "job")) args.job

pub record IsCheck (value : Text → Option Text) (args : CheckArgs) : Type 0 where
  pub why : args.why ≡ is_set (value (codes "why"))
  pub json : args.json ≡ is_set (value (codes "json"))

abbrev pub notation_word : Notation → List ℕ
notation_word notation.Json = codes "json"
notation_word notation.Edn = codes "edn"

pub record IsConvert (value : Text → Option Text) (args : ConvertArgs) : Type 0 where
  pub to : value (codes "to") ≡ Some (notation_word args.to)
  pub job : MayBeValue (number MAX_64) (value (codes "job")) args.job

-- the values of the options of `draw` say how a history is drawn
pub record IsDraw (value : Text → Option Text) (how : DrawArgs) : Type 0 where
  pub text : how.text ≡ is_set (value (codes "text"))
  pub lines : how.lines ≡ is_set (value (codes "lines"))
  pub limit : IsValue (number 1000000000) (Some 1000000) (value (codes "limit")) how.limit
  pub job : MayBeValue (number MAX_64) (value (codes "job")) how.job
  pub key : how.key ≡ value (codes "key")

pub record IsJob (value : Text → Option Text) (n m : ℕ) : Type 0 where
  pub seed : IsValue (number MAX_64) (Some 1) (value (codes "seed")) n
  pub job : IsValue (number MAX_64) (Some 0) (value (codes "job")) m

pub record IsService (value : Text → Option Text) (service : ServeArgs) : Type 0 where
  pub port : IsValue (number 65535) None (value (codes "port")) service.port
  pub connections : IsValue (number MAX_64) (Some 1000000) (value (codes "connections")) service.connections
  pub racy : service.racy ≡ is_set (value (codes "racy"))

pub record IsRecordArgs (value : Text → Option Text) (args : RecordArgs) : Type 0 where
  pub port : IsValue (number 65535) None (value (codes "port")) args.port
  pub server : value (codes "target") ≡ Some args.server.now
  pub connections : MayBeValue (number MAX_64) (value (codes "connections")) args.connections
  pub time : MayBeValue kind.Time (value (codes "for")) args.time
  pub out : option_map (λ file. file.now) args.out ≡ value (codes "out")
  pub judge : args.judge ≡ is_set (value (codes "judge"))

-- the word of a meeting
abbrev pub meeting_word : Meeting → List ℕ
meeting_word meeting.Drawn = codes "drawn"
meeting_word meeting.Each = codes "each"
meeting_word meeting.First = codes "first"
meeting_word meeting.Never = codes "never"

-- the meeting that a word names, or the default if there is no word
abbrev pub IsMeeting : Option (List ℕ) → Meeting → Type 0
IsMeeting None wanted = wanted ≡ meeting.Drawn
IsMeeting (Some word) wanted = word ≡ meeting_word wanted

-- the name that a word is, if there is a word: one that keys may be put under
abbrev pub MayBeName : Option (List ℕ) → Option (List ℕ) → Type 0
MayBeName None name = name ≡ None
MayBeName (Some word) name = (is_namespace word ≡ true) × (name ≡ Some word)

-- the values of the options of `run` say how often the script is run: once; or repeatedly, if they name a number of runs or a time
abbrev pub IsRepeat : (Text → Option Text) → Option Repeat → Type 0
IsRepeat value None = (value (codes "times") ≡ None) × (value (codes "for") ≡ None) × (is_set (value (codes "keep-going")) ≡ false)
IsRepeat value (Some repeat) = MayBeValue (count 1000000) (value (codes "times")) repeat.times
    × MayBeValue kind.Time (value (codes "for")) repeat.time × ((is_some repeat.times || is_some repeat.time) ≡ true)
    × (repeat.keep_going ≡ is_set (value (codes "keep-going")))

-- the values of the options of `run` say this; a script that is run repeatedly is run as the jobs of a campaign are
pub record IsRunArgs (value : Text → Option Text) (args : RunArgs) : Type 0 where
  pub server : value (codes "target") ≡ Some args.server.now
  pub a : option_map (λ server. server.now) args.a ≡ value (codes "a")
  pub b : option_map (λ server. server.now) args.b ≡ value (codes "b")
  pub how : IsSearch value args.how
  pub meeting : IsMeeting (value (codes "meet")) args.meeting
  pub name : MayBeName (value (codes "name")) args.name
  pub timeout : MayBeValue kind.Time (value (codes "timeout")) (option_map (λ time. time.milliseconds) args.timeout)
  pub wait : MayBeValue kind.Time (value (codes "wait")) (option_map (λ time. time.milliseconds) args.wait)
  pub repeat : IsRepeat value args.repeat
  pub reconnect : args.reconnect ≡ is_set (value (codes "reconnect"))
  pub quiet : args.quiet ≡ is_set (value (codes "quiet"))
  pub stats : args.stats ≡ is_set (value (codes "stats"))
  pub json : args.json ≡ is_set (value (codes "json"))
  pub spread : IsValue (number 10000) (Some (if is_some args.repeat then 64 else 0)) (value (codes "spread")) args.spread

-- the values of the options of `test` say this, beside what those of `run` would
pub record IsTestArgs (value : Text → Option Text) (args : TestArgs) : Type 0 where
  pub run : IsRunArgs value args.run
  pub seed : MayBeValue (number MAX_64) (value (codes "seed")) args.seed
  pub only : option_map (λ names. names.now) args.only ≡ value (codes "only")
  pub skip : option_map (λ names. names.now) args.skip ≡ value (codes "skip")
  pub out : option_map (λ folder. folder.now) args.out ≡ value (codes "out")

-- the mix of verbs that a word names, or the default if there is no word
abbrev pub mix_word : Mix → List ℕ
mix_word mix.All = codes "all"
mix_word mix.Counters = codes "counters"
mix_word mix.Cas = codes "cas"
mix_word mix.Bodies = codes "bodies"
mix_word mix.Presence = codes "presence"

abbrev pub IsMix : Option (List ℕ) → Mix → Type 0
IsMix None wanted = wanted ≡ mix.All
IsMix (Some word) wanted = word ≡ mix_word wanted

-- the values of the options of `stress` say what the clients of each round send
pub record IsStressPlan (value : Text → Option Text) (plan : StressPlan) : Type 0 where
  pub clients : IsValue (kind.Number 2 64) (Some 8) (value (codes "clients")) plan.clients
  pub requests : IsValue (count 1000) (Some 50) (value (codes "requests")) plan.requests
  pub keys : IsValue (count 16) (Some 2) (value (codes "keys")) plan.keys
  pub mix : IsMix (value (codes "mix")) plan.mix
  pub seed : IsValue (number MAX_64) (Some 1) (value (codes "seed")) plan.seed

-- and how many rounds there are
pub record IsStressArgs (value : Text → Option Text) (args : StressArgs) : Type 0 where
  pub server : value (codes "target") ≡ Some args.server.now
  pub plan : IsStressPlan value args.plan
  pub rounds : MayBeValue (count 1000000) (value (codes "rounds")) args.rounds
  pub time : MayBeValue kind.Time (value (codes "for")) args.time
  pub keep_going : args.keep_going ≡ is_set (value (codes "keep-going"))
  pub whole : args.whole ≡ is_set (value (codes "whole"))
  pub smallest : args.smallest ≡ is_set (value (codes "smallest"))
  pub limit : MayBeValue (number 1000000000) (value (codes "limit")) args.limit
  pub why : args.why ≡ is_set (value (codes "why"))
  pub name : MayBeName (value (codes "name")) args.name
  pub timeout : MayBeValue kind.Time (value (codes "timeout")) (option_map (λ time. time.milliseconds) args.timeout)
  pub wait : MayBeValue kind.Time (value (codes "wait")) (option_map (λ time. time.milliseconds) args.wait)
  pub quiet : args.quiet ≡ is_set (value (codes "quiet"))
  pub stats : args.stats ≡ is_set (value (codes "stats"))
  pub json : args.json ≡ is_set (value (codes "json"))

-- the values of the options of `campaign` say what ends it before its last job, if they name a time or a number of unexplained jobs; a
-- time doesn't stand beside a number of jobs
abbrev pub IsUntil : (Text → Option Text) → Option Until → Type 0
IsUntil value None = (value (codes "for") ≡ None) × (value (codes "stop-after") ≡ None)
IsUntil value (Some until) = MayBeValue kind.Time (value (codes "for")) until.time
    × MayBeValue (count 10000) (value (codes "stop-after")) until.unexplained × ((is_some until.time || is_some until.unexplained) ≡ true)
    × (is_some until.time ≡ true → value (codes "jobs") ≡ None)

-- how many jobs there are at most if the first word names a time, should there be one, and the second one a number of jobs: with a time,
-- as many as have a number of 64 bits from the first on, but one less than all of them, as that number has 64 bits too
abbrev pub AreJobs : Option (List ℕ) → Option (List ℕ) → ℕ → ℕ → Type 0
AreJobs None word first jobs = IsValue (count GREATEST_JOBS) (Some 100) word jobs
AreJobs (Some time) word first jobs = jobs ≡ (if nat_lt 0 first then 2 ^ 64 - first else MAX_64)

-- whether a seed is drawn, for which the line names none
abbrev pub IsRandomSeed : (Text → Option Text) → Bool → Type 0
IsRandomSeed value random = (random ≡ is_set (value (codes "random-seed"))) × (random ≡ true → value (codes "seed") ≡ None)

-- whether a report is brief, JSON or JUnit's XML: one of these at most
abbrev pub AreForms : (Text → Option Text) → Bool → Bool → Bool → Type 0
AreForms value brief json junit = (brief ≡ is_set (value (codes "brief"))) × (json ≡ is_set (value (codes "json")))
    × (junit ≡ is_set (value (codes "junit"))) × (((brief && (json || junit)) || (json && junit)) ≡ false)

-- the values of the options of `campaign` name these jobs, the last of which has a number of 64 bits
pub record IsPlan (value : Text → Option Text) (plan : Plan) : Type 0 where
  pub seed : IsValue (number MAX_64) (Some 1) (value (codes "seed")) plan.seed
  pub random_seed : IsRandomSeed value plan.random_seed
  pub first : IsValue (number MAX_64) (Some 0) (value (codes "from")) plan.first
  pub until : IsUntil value plan.until
  pub jobs : AreJobs (value (codes "for")) (value (codes "jobs")) plan.first plan.jobs
  pub workers : IsValue (count 16) (Some 4) (value (codes "workers")) plan.workers
  pub limit : IsValue (number 1000000000) (Some 1000000) (value (codes "limit")) plan.limit
  pub tries : IsValue (count 1000) (Some 1) (value (codes "tries")) plan.tries
  pub last : plan.first + plan.jobs ≤ 2 ^ 64
  pub forms : AreForms value plan.brief plan.json plan.junit
  pub show : plan.show ≡ is_set (value (codes "show"))
  pub why : plan.why ≡ is_set (value (codes "why"))

-- the values of the options of `campaign` say this; the keys of all jobs are short under the name, if there is one, and `--why` stands
-- beside `--show`
pub record IsCampaignArgs (value : Text → Option Text) (args : CampaignArgs) : Type 0 where
  pub server : value (codes "target") ≡ Some args.server.now
  pub a : option_map (λ server. server.now) args.a ≡ value (codes "a")
  pub b : option_map (λ server. server.now) args.b ≡ value (codes "b")
  pub plan : IsPlan value args.plan
  pub meeting : IsMeeting (value (codes "meet")) args.meeting
  pub name : MayBeName (value (codes "name")) args.name
  pub timeout : MayBeValue kind.Time (value (codes "timeout")) (option_map (λ time. time.milliseconds) args.timeout)
  pub wait : MayBeValue kind.Time (value (codes "wait")) (option_map (λ time. time.milliseconds) args.wait)
  pub reconnect : args.reconnect ≡ is_set (value (codes "reconnect"))
  pub quiet : args.quiet ≡ is_set (value (codes "quiet"))
  pub stats : args.stats ≡ is_set (value (codes "stats"))
  pub spread : IsValue (number 10000) (Some 64) (value (codes "spread")) args.spread
  pub keys : NameFits (value (codes "name")) args.plan.first args.plan.jobs
  pub shown : args.plan.why ≡ true → args.plan.show ≡ true
