-- What is known of the kinds of numbers, as a state of a run.
use Rattle.std.proofs.Common.{◌≡◌, ℕ, zero, suc, ◌<◌, ◌≤◌, Bool, true, false, Some, List, [], ◌∷◌, map, take, slice_index_or}
use Rattle.std.proofs.Common.{slice_set, replicate, refl, ap, sym, ◌∙◌, if◌then◌else◌, arith}
use Rattle.std.proofs.{Math.Seq.take-set-lt, lemmas.List.take-replicate, lemmas.List.map-set}
use Rattle.mc_script.specs.declared.step.Argument.TheVariants as argument
use Rattle.mc_script.specs.declared.step.Template.{Template}
use Rattle.mc_code.specs.States.{Tagged, State, nothing, initial_state, is_number, after_bind, with_argument}
use Rattle.mc_code.specs.{Code.Code, Standing.no_variables, declared.kind.Kind.Kind}
use Rattle.mc_code.specs.declared.kind.Kind.TheVariants as kind
use Rattle.mc_counterexample.specs.{KindReplays.number_of, KindReplays.state_of, declared.knowledge.Knowledge.Knowledge}
use Rattle.mc_verify.specs.VariableFaults.{is_outcome, is_wrong}
use Rattle.mc_sound.specs.declared.refusal_kind.RefusalKind.{RefusalKind}
use Rattle.mc_flow.specs.Kinds.{kind_index}
use Rattle.mc_verify.proofs.FaultKinds.{wrong_number}

map_replicate : (n : ℕ) (k : Kind) → map number_of (replicate n k) ≡ replicate n (number_of k)
map_replicate zero k = refl
map_replicate (suc n) k = ap (λ l. number_of k ∷ l) (map_replicate n k)

pub nothing_known : (c : Code) (known : Knowledge) (limit : ℕ) → c.vars ≤ limit → known.variables ≡ replicate limit kind.Unbound → known.last ≡ kind.Unbound
    → state_of c known ≡ initial_state (no_variables c)
nothing_known c known limit few variables last =
    ap (λ (variables : List Kind). let st : State = record { variables = map number_of (take c.vars variables); last = number_of known.last } in st) variables
    ∙ ap (λ (variables : List Kind). let st : State = record { variables = map number_of variables; last = number_of known.last } in st)
    (take-replicate c.vars limit kind.Unbound few)
    ∙ ap (λ (variables : List Tagged). let st : State = record { variables = variables; last = number_of known.last } in st) (map_replicate c.vars kind.Unbound)
    ∙ ap (λ (k : Kind). let st : State = record { variables = no_variables c; last = number_of k } in st) last

-- a variable of the code takes the number
set_known : (c : Code) (variables : List Kind) (v : ℕ) (k : Kind) → v < c.vars
    → map number_of (take c.vars (slice_set variables v k)) ≡ slice_set (map number_of (take c.vars variables)) v (number_of k)
set_known c variables v k below = ap (map number_of) (take-set-lt c.vars variables v k below) ∙ map-set number_of (take c.vars variables) v k

pub bound_known : (c : Code) (variables : List Kind) (last : Kind) (v : ℕ) → v < c.vars → (last ≡ kind.Unbound → ⊥)
    → state_of c (record { variables = slice_set variables v last; last = last }) ≡ after_bind v (state_of c (record { variables = variables; last = last }))
bound_known c variables kind.Unbound v below some = absurd (some refl)
bound_known c variables (kind.Cas key) v below some =
    ap (λ (variables : List Tagged). let st : State = record { variables = variables; last = number_of (kind.Cas key) } in st)
    (set_known c variables v (kind.Cas key) below)
bound_known c variables kind.Num v below some =
    ap (λ (variables : List Tagged). let st : State = record { variables = variables; last = number_of kind.Num } in st)
    (set_known c variables v kind.Num below)

pub unbound_known : (c : Code) (known : Knowledge) (v : ℕ) → known.last ≡ kind.Unbound → state_of c known ≡ after_bind v (state_of c known)
unbound_known c known v last = by_number (is_number known.last) (ap is_number last)
  where
    by_number : (b : Bool) → b ≡ false → state_of c known
        ≡ (if b then record { variables = slice_set (state_of c known).variables v (number_of known.last); last = number_of known.last } else state_of c known)
    by_number true e = absurd (cc)
    by_number false e = refl

-- ---- what stands in a variable

variable_in_front : (vars v : ℕ) (variables : List Kind) → v < vars
    → (slice_index_or (map number_of (take vars variables)) v nothing).0 ≡ slice_index_or variables v kind.Unbound
variable_in_front zero v variables below = absurd (omega (arith, below))
variable_in_front (suc vars) v [] below = refl
variable_in_front (suc vars) zero (k ∷ variables) below = refl
variable_in_front (suc vars) (suc v) (k ∷ variables) below = variable_in_front vars v variables (omega (arith, below))

pub wrong_known : (c : Code) (fault : RefusalKind) (t : Template) (v : ℕ) (known : Knowledge) (own : Kind) → t.argument ≡ argument.Variable v → v < c.vars
    → own ≡ slice_index_or known.variables v kind.Unbound
    → is_wrong fault t (kind_index own) ≡ is_outcome fault (Some (with_argument t t.argument (state_of c known).variables))
wrong_known c k t v known own is below own_is =
    ap (λ own. is_wrong k t (kind_index own)) (own_is ∙ sym (variable_in_front c.vars v known.variables below))
    ∙ sym (wrong_number k t (slice_index_or (state_of c known).variables v nothing))
    ∙ ap (λ a. is_outcome k (Some (with_argument t a (state_of c known).variables))) (sym is)
