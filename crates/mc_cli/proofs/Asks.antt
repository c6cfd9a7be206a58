-- A line asks for one thing at most, and what is answered to one that asks for nothing.
use Rattle.std.proofs.Common.{◌≡◌, ◌∙◌, ap, sym, inl, inr, ℕ, List, [], Option, Some, codes, unwrap_or}
use Rattle.clap.specs.{Words.IsAmong, Words.Text, declared.error.kind.ErrorKind.ErrorKind}
use Rattle.clap.specs.declared.error.kind.ErrorKind.TheVariants as kind
use Rattle.mc_protocol.specs.Decimals.{MAX_64}
use Rattle.mc_cli.proofs.Names as names
use Rattle.mc_cli.proofs.Once.{check_once, convert_once, draw_once, judge_once, maybe_once, plan_once, search_once, service_once}
use Rattle.mc_cli.proofs.Once.{stress_once, value_once}
use Rattle.mc_cli.specs.Asking.{AsksFor, HasFault, IsAskedBy, IsAskedWith, IsFaultOf, IsLike, IsShown, Says, name_of}
use Rattle.mc_cli.specs.Line.{line_command, line_faults, line_value}
use Rattle.mc_cli.specs.{Args.count, Args.number, declared.request.LineFault.LineFault, declared.request.Request.Request}
use Rattle.mc_cli.specs.declared.question.Question.TheVariants as question
use Rattle.mc_cli.specs.declared.request.LineFault.TheVariants as line_fault
use Rattle.mc_cli.specs.declared.request.Request.TheVariants as request
use Rattle.mc_cli.specs.declared.rows.Kind.TheVariants as kind_of

-- of two things that are asked for, each has the name of the subcommand
one_name : {command : Option Text} {one other : Text} → command ≡ Some one → command ≡ Some other → other ≡ one
one_name is also = ap (λ (o : Option Text). unwrap_or o []) (sym also ∙ is)

-- the values of options ask a subcommand for one thing
with_once : (value : Text → Option Text) (one other : Request) → name_of other ≡ name_of one → IsAskedWith value one
    → IsAskedWith value other → IsLike one other
with_once value (request.Question (question.Judge args)) other named is also =
    let found = names.of_name (codes "judge") other named in
    rw found.1 (ap (λ a. request.Question (question.Judge a)) (judge_once value args found.0 is (rw found.1 at also)))
with_once value (request.Question (question.Check args)) other named is also =
    let found = names.of_name (codes "check") other named in
    rw found.1 (ap (λ a. request.Question (question.Check a)) (check_once value args found.0 is (rw found.1 at also)))
with_once value (request.Question (question.Asm why)) other named is also =
    let found = names.of_name (codes "asm") other named in
    rw found.1 (ap (λ b. request.Question (question.Asm b)) (is ∙ sym (rw found.1 at also)))
with_once value (request.Question (question.Drive how)) other named is also =
    let found = names.of_name (codes "drive") other named in
    rw found.1 (ap (λ h. request.Question (question.Drive h)) (search_once value how found.0 is (rw found.1 at also)))
with_once value (request.Question (question.Draw how)) other named is also =
    let found = names.of_name (codes "draw") other named in
    rw found.1 (ap (λ h. request.Question (question.Draw h)) (draw_once value how found.0 is (rw found.1 at also)))
with_once value (request.Question (question.Convert args)) other named is also =
    let found = names.of_name (codes "convert") other named in
    rw found.1 (ap (λ a. request.Question (question.Convert a)) (convert_once value args found.0 is (rw found.1 at also)))
with_once value (request.Question question.Join) other named is also = sym (names.of_name (codes "join") other named)
with_once value (request.Run args) other named is also =
    let found = names.of_name (codes "run") other named in
    let more = rw found.1 at also in
    (found.0, found.1, search_once value args.how found.0.how is.how more.how)
with_once value (request.Test args) other named is also =
    let found = names.of_name (codes "test") other named in
    let more = rw found.1 at also in
    (found.0, found.1, maybe_once (number MAX_64) _ args.seed found.0.seed is.seed more.seed)
with_once value (request.Generate seed job) other named is also =
    let found = names.of_name (codes "generate") other named in
    let are = rw found.2 at also in
    rw found.2 (ap (λ n. request.Generate n job) (value_once (number MAX_64) _ _ seed found.0 is.seed are.seed)
    ∙ ap (request.Generate found.0) (value_once (number MAX_64) _ _ job found.1 is.job are.job))
with_once value (request.Serve service) other named is also =
    let found = names.of_name (codes "serve") other named in
    rw found.1 (ap request.Serve (service_once value service found.0 is (rw found.1 at also)))
with_once value (request.Record args) other named is also =
    let found = names.of_name (codes "record") other named in
    let more = rw found.1 at also in (
      found.0,
      found.1,
      value_once (number 65535) _ _ args.port found.0.port is.port more.port,
      maybe_once (number MAX_64) _ args.connections found.0.connections is.connections more.connections,
      maybe_once kind_of.Time _ args.time found.0.time is.time more.time,
      is.judge ∙ sym more.judge,
    )
with_once value (request.Campaign args) other named is also =
    let found = names.of_name (codes "campaign") other named in
    let more = rw found.1 at also in
    (found.0, found.1, plan_once value args.plan found.0.plan is.plan more.plan)
with_once value (request.Stress args) other named is also =
    let found = names.of_name (codes "stress") other named in
    let more = rw found.1 at also in (
      found.0,
      found.1,
      stress_once value args.plan found.0.plan is.plan more.plan,
      maybe_once (count 1000000) _ args.rounds found.0.rounds is.rounds more.rounds,
      maybe_once kind_of.Time _ args.time found.0.time is.time more.time,
      maybe_once (number 1000000000) _ args.limit found.0.limit is.limit more.limit,
    )
with_once value request.Selftest other named is also = sym (names.of_name (codes "selftest") other named)

pub asks_once : (words : List (List ℕ)) (one other : Request) → AsksFor words one → AsksFor words other → IsLike one other
asks_once words one other is also =
    with_once (line_value words) one other (one_name is.1.0 also.1.0) is.1.1 also.1.1

-- ---- faults

-- a line is answered in place of what it asks for, by a fault of this kind
faulty : (words : List (List ℕ)) (found : ErrorKind) (fault : LineFault) → HasFault words found → Says found fault
    → IsFaultOf words fault
faulty words found (line_fault.Shown text) is said = (is.faulty, (found, is, said))
faulty words found (line_fault.Wrong text) is said = (is.faulty, (found, is, said))
faulty words found line_fault.OutOfMemory is said = tt

-- one that clap finds
pub fault_by_clap : (words : List (List ℕ)) (found : ErrorKind) (fault : LineFault) → IsAmong found (line_faults words)
    → Says found fault → IsFaultOf words fault
fault_by_clap words found fault among said =
    faulty words found fault (record { faulty = λ wanted asks. rw asks.0 at among; which = inl among }) said

-- and one that the program finds: the subcommand that the words name asks for nothing with its options
pub fault_of_values : (words : List (List ℕ)) (fault : LineFault) → line_faults words ≡ []
    → ((wanted : Request) → IsAskedBy (line_command words) (line_value words) wanted → ⊥) → Says kind.ValueValidation fault
    → IsFaultOf words fault
fault_of_values words fault clear none said =
    faulty words kind.ValueValidation fault (record { faulty = λ wanted asks. none wanted asks.1; which = inr (clear, is_told) }) said
  where
    is_told : IsShown kind.ValueValidation → ⊥
    is_told (inl is) = absurd (cc)
    is_told (inr is) = absurd (cc)
