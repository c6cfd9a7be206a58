-- The numbers of calls are as long as their templates allow, where each number that was shown has at most 64 bits.
use Rattle.std.proofs.Common.{◌≡◌, ℕ, zero, suc, ◌<◌, ◌≤◌, ◌^◌, Bool, true, false, Some, List, [], ◌∷◌, length, decimal, replicate, slice_index_or}
use Rattle.std.proofs.Common.{slice_set, refl, ap, arith, length-append, if◌then◌else◌}
use Rattle.std.proofs.lemmas.Fmt.{length-decimal-le}
use Rattle.std.specs.{Fmt.digits, List.concat}
use Rattle.mc_protocol.specs.declared.request.Fields.{Fields}
use Rattle.mc_protocol.specs.{Decimals.MAX_64, Fields.fields_of, Texts.after_key, Texts.request_text, declared.reply.Reply.Reply}
use Rattle.mc_protocol.specs.declared.reply.Reply.TheVariants as reply
use Rattle.mc_protocol.specs.declared.request.Fields.TheVariants as fields
use Rattle.mc_script.specs.{declared.step.Argument.Argument, declared.step.Template.Template}
use Rattle.mc_script.specs.declared.step.Argument.TheVariants as argument
use Rattle.mc_code.specs.Runs.{Exchange, IsRun, rests, slides, sends, after_slide}
use Rattle.mc_code.specs.States.{Tagged, nothing, State, initial_state, is_number, shown_of, after_bind, call, wrong_kind, call_with, with_argument}
use Rattle.mc_code.specs.{Code.Code, Requests.request_with, Standing.no_variables, States.wanted_by, States.is_same, declared.instr.Instr.Instr}
use Rattle.mc_code.specs.declared.instr.Instr.TheVariants as instr
use Rattle.mc_code.specs.declared.kind.Kind.TheVariants as kind
use Rattle.mc_sound.specs.Costs.{longest_number}
use Rattle.mc_core.specs.Safety.{IsSmallReply}

-- ---- states

abbrev IsSmall : Tagged → Type 0
IsSmall x = x.1 < 2 ^ 64

-- no variable has a number of more than 64 bits, nor has the last reply
pub record IsSmallState (st : State) : Type 0 where
  pub variables : (v : ℕ) → IsSmall (slice_index_or st.variables v nothing)
  pub last : IsSmall st.last

abbrev pub IsSmallExchange : Exchange → Type 0
IsSmallExchange (t, given) = IsSmallReply given

abbrev pub AreSmallExchanges : List Exchange → Type 0
AreSmallExchanges [] = Unit {0}
AreSmallExchanges (x ∷ xs) = IsSmallExchange x × AreSmallExchanges xs

shown_small : (key : ℕ) (given : Reply) → IsSmallReply given → IsSmall (shown_of key given)
shown_small key (reply.Hit flags body (Some number)) small = small
shown_small key (reply.Number number) small = small
shown_small key _ small = omega arith

set_small : (xs : List Tagged) (i : ℕ) (x : Tagged) → ((v : ℕ) → IsSmall (slice_index_or xs v nothing)) → IsSmall x → (v : ℕ)
    → IsSmall (slice_index_or (slice_set xs i x) v nothing)
set_small [] i x small at v = small v
set_small (y ∷ xs) zero x small at zero = at
set_small (y ∷ xs) zero x small at (suc v) = small (suc v)
set_small (y ∷ xs) (suc i) x small at zero = small zero
set_small (y ∷ xs) (suc i) x small at (suc v) = set_small xs i x (λ v. small (suc v)) at v

bind_small : (variable : ℕ) (st : State) → IsSmallState st → IsSmallState (after_bind variable st)
bind_small variable st small = by_number (is_number st.last.0)
  where
    by_number : (b : Bool) → IsSmallState (if b then record { variables = slice_set st.variables variable st.last; last = st.last } else st)
    by_number true = record { variables = set_small st.variables variable st.last small.variables small.last; last = small.last }
    by_number false = small

slide_small : (i : Instr) (st : State) → IsSmallState st → IsSmallState (after_slide i st)
slide_small (instr.Bind variable) st small = bind_small variable st small
slide_small _ st small = small

pub run_small : {templates : List Template} {section : List Instr} {p q : ℕ} {st end : State} {xs : List Exchange}
    → IsRun templates section p st xs q end → IsSmallState st → AreSmallExchanges xs → IsSmallState end
run_small rests small all = small
run_small (slides {st = st} i at leads run) small all = run_small run (slide_small i st small) all
run_small (sends {st = st} {t = t} {reply = given} i at leads fit run) small all =
    run_small run (record { variables = small.variables; last = shown_small t.key given all.0 }) all.1

none_small : (n v : ℕ) → IsSmall (slice_index_or (replicate n nothing) v nothing)
none_small zero v = omega arith
none_small (suc n) zero = omega arith
none_small (suc n) (suc v) = none_small n v

-- before P's first reply
pub initial_small : (c : Code) → IsSmallState (initial_state (no_variables c))
initial_small c = record { variables = none_small c.vars; last = omega arith }

-- ---- texts

-- a number that a call with this argument may have
abbrev pub MayHave : Argument → ℕ → Type 0
MayHave argument.Nothing n = n ≡ 0
MayHave (argument.Number m) n = n ≡ m
MayHave (argument.Variable v) n = n < 2 ^ 64

longest_digits : length (decimal MAX_64) ≡ 20
unfolding digits
longest_digits = refl

digits_within : (a : Argument) (n : ℕ) → MayHave a n → length (decimal n) ≤ length (decimal (longest_number a))
digits_within argument.Nothing n is = let e = ap (λ n. length (decimal n)) is in omega (arith, e)
digits_within (argument.Number m) n is = let e = ap (λ n. length (decimal n)) is in omega (arith, e)
digits_within (argument.Variable v) n small =
    let few = length-decimal-le 20 n (omega arith) (omega arith) small in
    let most = longest_digits in
    omega (arith, few, most)

fields_within : (f : Fields) (t : Template) (key : List ℕ) (m n : ℕ) → length (decimal m) ≤ length (decimal n)
    → length (concat (after_key f (request_with t key m))) ≤ length (concat (after_key f (request_with t key n)))
fields_within fields.Swap t key m n less = simp length-append (omega arith)
fields_within fields.Amount t key m n less = simp length-append (omega arith)
fields_within _ t key m n less = omega arith

pub text_within : (t : Template) (key : List ℕ) (n : ℕ) → MayHave t.argument n
    → length (request_text (request_with t key n)) ≤ length (request_text (request_with t key (longest_number t.argument)))
text_within t key n has =
    let less = fields_within (fields_of t.verb) t key n (longest_number t.argument) (digits_within t.argument n has) in
    simp length-append (omega arith)

-- ---- numbers of calls

number_is : (t u : Template) (m n : ℕ) → call t m ≡ call u n → n ≡ m
number_is t u m n e = cc

-- what a send comes to, if it is a call, has a number that it may have
pub sent_number : (t u : Template) (a : Argument) (variables : List Tagged) (n : ℕ)
    → ((v : ℕ) → IsSmall (slice_index_or variables v nothing))
    → with_argument t a variables ≡ call u n → MayHave a n
sent_number t u argument.Nothing variables n small e = number_is t u 0 n e
sent_number t u (argument.Number m) variables n small e = number_is t u m n e
sent_number t u (argument.Variable v) variables n small e = by_given (slice_index_or variables v nothing) (small v) e
  where
    by_kind : (b : Bool) (m : ℕ) → m < 2 ^ 64 → (if b then call t m else wrong_kind t) ≡ call u n → n < 2 ^ 64
    by_kind true m small e = let same = number_is t u m n e in omega (arith, same)
    by_kind false m small e = absurd (cc)

    by_given : (x : Tagged) → IsSmall x → call_with t x ≡ call u n → n < 2 ^ 64
    by_given (kind.Unbound, m) small e = absurd (cc)
    by_given (kind.Cas key, m) small e = by_kind (is_same (kind.Cas key) (wanted_by t.verb t.key)) m small e
    by_given (kind.Num, m) small e = by_kind (is_same kind.Num (wanted_by t.verb t.key)) m small e
