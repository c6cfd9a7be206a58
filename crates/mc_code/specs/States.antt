-- What a section knows: its variables, and the number that its last reply showed; and what it comes to then.
use Rattle.std.specs.Prelude.{ℕ, ◌==◌, Bool, true, false, Option, Some, None, List, slice_set, slice_index_or, if◌then◌else◌}
use Rattle.mc_protocol.specs.{declared.request.Verb.Verb, declared.reply.Reply.Reply}
use Rattle.mc_protocol.specs.declared.request.Verb.TheVariants as verb
use Rattle.mc_protocol.specs.declared.reply.Reply.TheVariants as reply
use Rattle.mc_script.specs.{declared.step.Argument.Argument, declared.step.Template.Template}
use Rattle.mc_script.specs.declared.step.Argument.TheVariants as argument
use Rattle.mc_code.specs.declared.kind.Kind.{Kind}
use Rattle.mc_code.specs.declared.kind.Kind.TheVariants as kind

-- ---- numbers with their kinds

-- a number, and what it is
abbrev pub Tagged : Type 0
Tagged = Kind × ℕ

abbrev pub nothing : Tagged
nothing = (kind.Unbound, 0)

-- what a reply shows of the key: the cas unique of a hit, a value, or nothing
abbrev pub shown_of : ℕ → Reply → Tagged
shown_of key (reply.Hit flags body (Some number)) = (kind.Cas key, number)
shown_of key (reply.Number number) = (kind.Num, number)
shown_of key _ = nothing

abbrev pub is_number : Kind → Bool
is_number kind.Unbound = false
is_number (kind.Cas key) = true
is_number kind.Num = true

abbrev pub is_same : Kind → Kind → Bool
is_same (kind.Cas key) (kind.Cas other) = key == other
is_same kind.Num kind.Num = true
is_same _ _ = false

-- ---- states

-- the variables, and what the last reply showed: nothing where there was none
pub record State : Type 0 where
  pub variables : List Tagged
  pub last : Tagged

-- the state before a section's first reply
abbrev pub initial_state : List Tagged → State
initial_state variables = record { variables = variables; last = nothing }

-- the state after the reply to the request
abbrev pub after_reply : Template → Reply → State → State
after_reply t r st = record { variables = st.variables; last = shown_of t.key r }

-- the variable takes what the last reply showed, and stays as it was where that was nothing
abbrev pub after_bind : ℕ → State → State
after_bind variable st =
    if is_number st.last.0 then record { variables = slice_set st.variables variable st.last; last = st.last } else st

-- ---- what a section comes to

pub data Outcome : Type 0 where
  -- it sends this request with this number
  call : Template → ℕ → Outcome
  -- the variable of the request has no number
  unbound : Template → Outcome
  -- it has one of another kind than the verb wants
  wrong_kind : Template → Outcome
  -- the last reply showed no number for this variable
  nothing_to_bind : ℕ → Outcome
  -- it has no instruction here
  outside : Outcome
  -- it is done
  ended : Outcome

-- a `cas` wants the cas unique of its key, and a verb that counts wants a value
abbrev pub wanted_by : Verb → ℕ → Kind
wanted_by verb.Cas key = kind.Cas key
wanted_by _ key = kind.Num

abbrev pub call_with : Template → Tagged → Outcome
call_with t (kind.Unbound, number) = unbound t
call_with t (kind.Cas key, number) = if is_same (kind.Cas key) (wanted_by t.verb t.key) then call t number else wrong_kind t
call_with t (kind.Num, number) = if is_same kind.Num (wanted_by t.verb t.key) then call t number else wrong_kind t

abbrev pub with_argument : Template → Argument → List Tagged → Outcome
with_argument t argument.Nothing variables = call t 0
with_argument t (argument.Number number) variables = call t number
with_argument t (argument.Variable variable) variables = call_with t (slice_index_or variables variable nothing)

-- what a send comes to: the request's number is its own, or its variable's
abbrev pub send_outcome : Template → State → Outcome
send_outcome t st = with_argument t t.argument st.variables

-- what a bind comes to, if anything
abbrev pub bind_outcome : ℕ → State → Option Outcome
bind_outcome variable st = if is_number st.last.0 then None else Some (nothing_to_bind variable)
