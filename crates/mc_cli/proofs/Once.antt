-- The words of a line say one thing at most.
use Rattle.std.proofs.Common.{◌≡◌, ◌∙◌, ◌||◌, ◌+◌, ◌-◌, ◌≤◌, ◌^◌, refl, ap, ap₂, sym, true, ℕ, nat_lt, List, [], Option, Some, None, codes}
use Rattle.std.proofs.Common.{bytes_eq, is_some, length, unwrap_or, if◌then◌else◌}
use Rattle.std.proofs.lemmas.Bool.{false≢true}
use Rattle.clap.specs.Words.{Text}
use Rattle.mc_protocol.specs.Decimals.{MAX_64}
use Rattle.mc_settings.specs.declared.mix.Mix.{Mix}
use Rattle.mc_settings.specs.declared.mix.Mix.TheVariants as mix
use Rattle.mc_cli.specs.Args.{AreJobs, GREATEST_JOBS, IsCheck, IsConvert, IsDraw, IsJudge, IsPlan, IsRepeat, IsSearch, IsService, IsUntil}
use Rattle.mc_cli.specs.{Args.IsMix, Args.IsStressPlan, Args.mix_word, Args.MayBeName, Args.count, Args.notation_word, Args.number, Kinds.IsValue}
use Rattle.mc_cli.specs.{Kinds.MayBeValue, Kinds.reads, Line.is_set, declared.args.CheckArgs.CheckArgs, declared.args.ConvertArgs.ConvertArgs}
use Rattle.mc_cli.specs.{declared.args.DrawArgs.DrawArgs, declared.args.JudgeArgs.JudgeArgs, declared.args.Notation.Notation, declared.args.Plan.Plan}
use Rattle.mc_cli.specs.{declared.args.Repeat.Repeat, declared.args.Search.Search, declared.args.ServeArgs.ServeArgs, declared.args.StressPlan.StressPlan}
use Rattle.mc_cli.specs.{declared.args.Until.Until, declared.rows.Kind.Kind}
use Rattle.mc_cli.specs.declared.args.Notation.TheVariants as notation
use Rattle.mc_cli.specs.declared.rows.Kind.TheVariants as kind

same : (one other : ℕ) → Some one ≡ Some other → one ≡ other
same one other is = ap (λ (o : Option ℕ). unwrap_or o 0) is

read_once : (k : Kind) (word : List ℕ) (one other : ℕ) → reads k word one → reads k word other → one ≡ other
read_once (kind.Number least greatest) word one other is also = sym is.0.value ∙ also.0.value
read_once kind.Time word one other is also = same one other (sym is ∙ also)
read_once kind.Meeting word one other is also = absurd is
read_once kind.Mix word one other is also = absurd is
read_once kind.Notation word one other is also = absurd is
read_once kind.Name word one other is also = absurd is
read_once kind.Address word one other is also = absurd is
read_once kind.Key word one other is also = absurd is
read_once kind.Names word one other is also = absurd is
read_once kind.Path word one other is also = absurd is
read_once kind.Switch word one other is also = absurd is

pub value_once : (k : Kind) (default : Option ℕ) (word : Option (List ℕ)) (one other : ℕ) → IsValue k default word one
    → IsValue k default word other → one ≡ other
value_once k default None one other is also = same one other (sym is ∙ also)
value_once k default (Some word) one other is also = read_once k word one other is also

pub maybe_once : (k : Kind) (word : Option (List ℕ)) (one other : Option ℕ) → MayBeValue k word one → MayBeValue k word other
    → one ≡ other
maybe_once k None one other is also = is ∙ sym also
maybe_once k (Some word) None other is also = absurd is
maybe_once k (Some word) (Some n) None is also = absurd also
maybe_once k (Some word) (Some n) (Some m) is also = ap Some (read_once k word n m is also)

-- two words bound nothing if there are none
no_bounds : (k l : Kind) (word other : Option (List ℕ)) (n m : Option ℕ) → word ≡ None → other ≡ None → MayBeValue k word n
    → MayBeValue l other m → (is_some n || is_some m) ≡ true → ⊥
no_bounds k l None None n m _ _ no_n no_m some = false≢true (ap₂ (λ a b. is_some a || is_some b) (sym no_n) (sym no_m) ∙ some)
no_bounds k l (Some word) other n m is _ _ _ _ = absurd (cc (is))
no_bounds k l None (Some other) n m _ is _ _ _ = absurd (cc (is))

pub search_once : (value : Text → Option Text) (one other : Search) → IsSearch value one → IsSearch value other → one ≡ other
search_once value one other is also =
    ap (λ n. record { limit = n; why = one.why }) (value_once (number 1000000000) _ _ one.limit other.limit is.limit also.limit)
    ∙ ap (λ b. record { limit = other.limit; why = b }) (is.why ∙ sym also.why)

pub judge_once : (value : Text → Option Text) (one other : JudgeArgs) → IsJudge value one → IsJudge value other → one ≡ other
judge_once value one other is also =
    let job = maybe_once (number MAX_64) _ one.job other.job is.job also.job in
    let run = is.run ∙ (ap (λ j. is_set (value (codes "run")) || is_some j) job ∙ sym also.run) in
    let limit = maybe_once (number 1000000000) _ one.limit other.limit is.limit also.limit in
    let key = is.key ∙ sym also.key in
    ap (λ h. record one { how = h }) (search_once value one.how other.how is.how also.how)
    ∙ (ap (λ n. record other { limit = n; key = one.key; json = one.json; run = one.run; job = one.job }) limit
    ∙ (ap (λ k. record other { key = k; json = one.json; run = one.run; job = one.job }) key
    ∙ (ap (λ b. record other { json = b; run = one.run; job = one.job }) (is.json ∙ sym also.json)
    ∙ (ap (λ b. record other { run = b; job = one.job }) run ∙ ap (λ n. record other { job = n }) job))))

pub check_once : (value : Text → Option Text) (one other : CheckArgs) → IsCheck value one → IsCheck value other → one ≡ other
check_once value one other is also =
    ap (λ b. record one { why = b }) (is.why ∙ sym also.why) ∙ ap (λ b. record other { json = b }) (is.json ∙ sym also.json)

notation_once : (one other : Notation) → notation_word one ≡ notation_word other → one ≡ other
notation_once notation.Json notation.Json is = refl
notation_once notation.Edn notation.Edn is = refl
notation_once notation.Json notation.Edn is = absurd (cc (ap length is))
notation_once notation.Edn notation.Json is = absurd (cc (ap length is))

pub convert_once : (value : Text → Option Text) (one other : ConvertArgs) → IsConvert value one → IsConvert value other → one ≡ other
convert_once value one other is also =
    let to = notation_once one.to other.to (ap (λ (o : Option Text). unwrap_or o []) (sym is.to ∙ also.to)) in
    ap (λ n. record one { to = n }) to
    ∙ ap (λ n. record other { job = n }) (maybe_once (number MAX_64) _ one.job other.job is.job also.job)

pub draw_once : (value : Text → Option Text) (one other : DrawArgs) → IsDraw value one → IsDraw value other → one ≡ other
draw_once value one other is also =
    ap (λ b. record one { text = b }) (is.text ∙ sym also.text)
    ∙ (ap (λ b. record other { lines = b; limit = one.limit; job = one.job; key = one.key }) (is.lines ∙ sym also.lines)
    ∙ (ap (λ n. record other { limit = n; job = one.job; key = one.key })
    (value_once (number 1000000000) _ _ one.limit other.limit is.limit also.limit)
    ∙ (ap (λ n. record other { job = n; key = one.key }) (maybe_once (number MAX_64) _ one.job other.job is.job also.job)
    ∙ ap (λ k. record other { key = k }) (is.key ∙ sym also.key))))

pub service_once : (value : Text → Option Text) (one other : ServeArgs) → IsService value one → IsService value other → one ≡ other
service_once value one other is also =
    ap (λ p. record { port = p; connections = one.connections; racy = one.racy }) (value_once (number 65535) _ _ one.port other.port is.port also.port)
    ∙ (ap (λ n. record { port = other.port; connections = n; racy = one.racy })
    (value_once (number MAX_64) _ _ one.connections other.connections is.connections also.connections)
    ∙ ap (λ b. record { port = other.port; connections = other.connections; racy = b }) (is.racy ∙ sym also.racy))

-- the mix with this word
abbrev mix_of : Text → Mix
mix_of word =
    if bytes_eq word (codes "counters") then mix.Counters else if bytes_eq word (codes "cas") then mix.Cas
    else if bytes_eq word (codes "bodies") then mix.Bodies else if bytes_eq word (codes "presence") then mix.Presence else mix.All

of_its_word : (m : Mix) → mix_of (mix_word m) ≡ m
of_its_word mix.All = refl
of_its_word mix.Counters = refl
of_its_word mix.Cas = refl
of_its_word mix.Bodies = refl
of_its_word mix.Presence = refl

mix_once : (word : Option (List ℕ)) (one other : Mix) → IsMix word one → IsMix word other → one ≡ other
mix_once None one other is also = is ∙ sym also
mix_once (Some word) one other is also = sym (of_its_word one) ∙ (ap mix_of (sym is ∙ also) ∙ of_its_word other)

pub stress_once : (value : Text → Option Text) (one other : StressPlan) → IsStressPlan value one → IsStressPlan value other → one ≡ other
stress_once value one other is also =
    ap (λ n. record one { clients = n }) (value_once (kind.Number 2 64) _ _ one.clients other.clients is.clients also.clients)
    ∙ (ap (λ n. record other { requests = n; keys = one.keys; mix = one.mix; seed = one.seed })
    (value_once (count 1000) _ _ one.requests other.requests is.requests also.requests)
    ∙ (ap (λ n. record other { keys = n; mix = one.mix; seed = one.seed }) (value_once (count 16) _ _ one.keys other.keys is.keys also.keys)
    ∙ (ap (λ m. record other { mix = m; seed = one.seed }) (mix_once _ one.mix other.mix is.mix also.mix)
    ∙ ap (λ n. record other { seed = n }) (value_once (number MAX_64) _ _ one.seed other.seed is.seed also.seed))))

pub repeat_once : (value : Text → Option Text) (one other : Option Repeat) → IsRepeat value one → IsRepeat value other → one ≡ other
repeat_once value None None is also = refl
repeat_once value None (Some other) is also =
    absurd (no_bounds (count 1000000) kind.Time _ _ other.times other.time is.0 is.1 also.0 also.1 also.2)
repeat_once value (Some one) None is also =
    absurd (no_bounds (count 1000000) kind.Time _ _ one.times one.time also.0 also.1 is.0 is.1 is.2)
repeat_once value (Some one) (Some other) is also =
    ap Some (ap (λ n. record one { times = n }) (maybe_once (count 1000000) _ one.times other.times is.0 also.0)
    ∙ (ap (λ n. record other { time = n; keep_going = one.keep_going }) (maybe_once kind.Time _ one.time other.time is.1 also.1)
    ∙ ap (λ b. record other { keep_going = b }) (is.3 ∙ sym also.3)))

pub until_once : (value : Text → Option Text) (one other : Option Until) → IsUntil value one → IsUntil value other → one ≡ other
until_once value None None is also = refl
until_once value None (Some other) is also =
    absurd (no_bounds kind.Time (count 10000) _ _ other.time other.unexplained is.0 is.1 also.0 also.1 also.2)
until_once value (Some one) None is also =
    absurd (no_bounds kind.Time (count 10000) _ _ one.time one.unexplained also.0 also.1 is.0 is.1 is.2)
until_once value (Some one) (Some other) is also =
    ap Some (ap (λ n. record one { time = n }) (maybe_once kind.Time _ one.time other.time is.0 also.0)
    ∙ ap (λ n. record other { unexplained = n }) (maybe_once (count 10000) _ one.unexplained other.unexplained is.1 also.1))

pub jobs_once : (time word : Option (List ℕ)) (first same_first one other : ℕ) → first ≡ same_first
    → AreJobs time word first one → AreJobs time word same_first other → one ≡ other
jobs_once None word first same_first one other same_as is also = value_once (count GREATEST_JOBS) _ _ one other is also
jobs_once (Some time) word first same_first one other same_as is also = is ∙ (ap (λ n. if nat_lt 0 n then 2 ^ 64 - n else MAX_64) same_as ∙ sym also)

pub plan_once : (value : Text → Option Text) (one other : Plan) → IsPlan value one → IsPlan value other → one ≡ other
plan_once value one other is also =
    let seed = value_once (number MAX_64) _ _ one.seed other.seed is.seed also.seed in
    let first = value_once (number MAX_64) _ _ one.first other.first is.first also.first in
    let jobs = jobs_once _ _ one.first other.first one.jobs other.jobs first is.jobs also.jobs in
    let workers = value_once (count 16) _ _ one.workers other.workers is.workers also.workers in
    let limit = value_once (number 1000000000) _ _ one.limit other.limit is.limit also.limit in
    let random = is.random_seed.0 ∙ sym also.random_seed.0 in
    let brief = is.forms.0 ∙ sym also.forms.0 in
    let json = is.forms.1 ∙ sym also.forms.1 in
    let junit = is.forms.2 ∙ sym also.forms.2 in
    let show = is.show ∙ sym also.show in
    let why = is.why ∙ sym also.why in
    let tries = value_once (count 1000) _ _ one.tries other.tries is.tries also.tries in
    let until = until_once value one.until other.until is.until also.until in
    ap (λ n. record one { seed = n }) seed
    ∙ (ap (λ b. record one { seed = other.seed; random_seed = b }) random
    ∙ (ap (λ n. record one { seed = other.seed; random_seed = other.random_seed; first = n }) first
    ∙ (ap (λ n. record one { seed = other.seed; random_seed = other.random_seed; first = other.first; jobs = n }) jobs
    ∙ (ap (λ n. record one { seed = other.seed; random_seed = other.random_seed; first = other.first; jobs = other.jobs; workers = n }) workers
    ∙ (ap (λ n. record other {
      limit = n;
      brief = one.brief;
      json = one.json;
      junit = one.junit;
      show = one.show;
      why = one.why;
      tries = one.tries;
      until = one.until;
    }) limit
    ∙ (ap (λ b. record other { brief = b; json = one.json; junit = one.junit; show = one.show; why = one.why; tries = one.tries; until = one.until }) brief
    ∙ (ap (λ b. record other { json = b; junit = one.junit; show = one.show; why = one.why; tries = one.tries; until = one.until }) json
    ∙ (ap (λ b. record other { junit = b; show = one.show; why = one.why; tries = one.tries; until = one.until }) junit
    ∙ (ap (λ b. record other { show = b; why = one.why; tries = one.tries; until = one.until }) show
    ∙ (ap (λ b. record other { why = b; tries = one.tries; until = one.until }) why
    ∙ (ap (λ n. record other { tries = n; until = one.until }) tries ∙ ap (λ u. record other { until = u }) until)))))))))))

-- ---- values that are refused

-- a number of runs, or a time, that is none
pub no_times : (value : Text → Option Text) → ((n : Option ℕ) → MayBeValue (count 1000000) (value (codes "times")) n → ⊥)
    → (repeat : Option Repeat) → IsRepeat value repeat → ⊥
no_times value none None is = none None (rw is.0 refl)
no_times value none (Some repeat) is = none repeat.times is.0

pub no_time : (value : Text → Option Text) → ((n : Option ℕ) → MayBeValue kind.Time (value (codes "for")) n → ⊥)
    → (until : Option Until) → IsUntil value until → ⊥
no_time value none None is = none None (rw is.0 refl)
no_time value none (Some until) is = none until.time is.0

-- a number of jobs that is none, or by which the last one has a greater number
pub no_jobs : (value : Text → Option Text) (first : ℕ) → IsValue (number MAX_64) (Some 0) (value (codes "from")) first
    → ((jobs : ℕ) → AreJobs (value (codes "for")) (value (codes "jobs")) first jobs → ⊥) → (plan : Plan) → IsPlan value plan → ⊥
no_jobs value first is_first none plan is =
    none plan.jobs (rw (value_once (number MAX_64) _ _ first plan.first is_first is.first) is.jobs)

pub no_last : (value : Text → Option Text) (first jobs : ℕ) → IsValue (number MAX_64) (Some 0) (value (codes "from")) first
    → AreJobs (value (codes "for")) (value (codes "jobs")) first jobs → (first + jobs ≤ 2 ^ 64 → ⊥) → (plan : Plan) → IsPlan value plan → ⊥
no_last value first jobs is_first are_jobs above plan is =
    let same_first = value_once (number MAX_64) _ _ first plan.first is_first is.first in
    above (rw (same_first, jobs_once _ _ first plan.first jobs plan.jobs same_first are_jobs is.jobs) is.last)

-- the name is the word
pub name_is : (word name : Option (List ℕ)) → MayBeName word name → name ≡ word
name_is None name is = is
name_is (Some word) name is = is.1
