-- Which kinds of numbers are a fault at an instruction. What private contracts cite.
use Rattle.std.specs.Prelude.{◌≡◌, ℕ, ◌≤◌, ◌<◌, ◌==◌, Bool, true, false, not, ◌&&◌, Option, Some, List, [], slice_index_or}
use Rattle.mc_script.specs.declared.step.Argument.TheVariants as argument
use Rattle.mc_script.specs.declared.step.Template.{Template}
use Rattle.mc_code.specs.States.{Outcome, unbound, wrong_kind, nothing_to_bind, wanted_by}
use Rattle.mc_flow.specs.{Kinds.kind_index, RunKinds.may_stand, declared.kind_pairs.KindPairs.KindPairs}
use Rattle.mc_sound.specs.{LeastFaults.kind_number, declared.refusal_kind.RefusalKind.RefusalKind}
use Rattle.mc_sound.specs.declared.refusal_kind.RefusalKind.TheVariants as refusal

-- a fault of variables, to which a run comes
abbrev pub IsOfVariables : RefusalKind → Type 0
IsOfVariables kind = (5 ≤ kind_number kind) × (kind_number kind < 8)

-- the outcome is a fault of this kind
abbrev pub is_outcome : RefusalKind → Option Outcome → Bool
is_outcome refusal.Unbound (Some (unbound t)) = true
is_outcome refusal.WrongKind (Some (wrong_kind t)) = true
is_outcome refusal.NothingToBind (Some (nothing_to_bind variable)) = true
is_outcome _ _ = false

-- a request with a number of this kind in its variable is such a fault
abbrev pub is_wrong : RefusalKind → Template → ℕ → Bool
is_wrong refusal.Unbound t own = own == 0
is_wrong refusal.WrongKind t own = not (own == 0) && not (own == kind_index (wanted_by t.verb t.key))
is_wrong _ t own = false

-- a bind is such a fault where no number was shown
abbrev pub is_of_binds : RefusalKind → Bool
is_of_binds refusal.NothingToBind = true
is_of_binds _ = false

-- by the tables, the variable of the request may have a number at the place that is such a fault
pub record IsWrongSend (kind : RefusalKind) (t : Template) (tables : List (List KindPairs)) (place : ℕ) : Type 0 where
  pub variable : ℕ
  pub own : ℕ
  pub shown : ℕ
  pub argument_is : t.argument ≡ argument.Variable variable
  pub wrong : is_wrong kind t own ≡ true
  pub may : may_stand (slice_index_or tables variable []) place own shown ≡ true

-- by the table, a bind at the place may be such a fault
pub record IsWrongBind (kind : RefusalKind) (table : List KindPairs) (place : ℕ) : Type 0 where
  pub own : ℕ
  pub of_binds : is_of_binds kind ≡ true
  pub may : may_stand table place own 0 ≡ true
