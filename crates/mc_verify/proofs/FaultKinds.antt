-- Faults of variables as what kinds come to at an instruction.
use Rattle.std.proofs.Common.{◌≡◌, inl, inr, ℕ, ◌+◌, ◌==◌, Bool, true, false, not, ◌&&◌, Option, Some, None, List, refl, ap, sym, ◌∙◌, arith, if◌then◌else◌}
use Rattle.std.proofs.{lemmas.Bool.eq-eqb, lemmas.Bool.Decides.eqb_tells}
use Rattle.mc_protocol.specs.declared.actor.Actor.{Actor}
use Rattle.mc_script.specs.declared.step.Template.{Template}
use Rattle.mc_code.specs.States.{Tagged, is_number, is_same, State, Outcome, call, unbound, wrong_kind, nothing_to_bind, outside, ended, wanted_by, call_with}
use Rattle.mc_code.specs.{Code.Code, Runs.Exchange, Standing.StandsAt, Standing.BeginsAfter, Standing.met_in, declared.kind.Kind.Kind}
use Rattle.mc_code.specs.declared.kind.Kind.TheVariants as kind
use Rattle.mc_verify.specs.VariableFaults.{is_outcome, IsOfVariables, is_wrong, is_of_binds}
use Rattle.mc_sound.specs.{Faults.MayComeTo, Faults.IsFault, declared.refusal_kind.RefusalKind.RefusalKind}
use Rattle.mc_flow.specs.Kinds.{kind_index}
use Rattle.mc_sound.specs.declared.refusal_kind.RefusalKind.TheVariants as refusal

-- ---- faults as outcomes

-- some run of the section comes to a fault of this kind at the place
pub record MayFail (c : Code) (kind : RefusalKind) (actor : Actor) (place : ℕ) : Type 0 where
  pub before : List Exchange
  pub variables : List Tagged
  pub exchanges : List Exchange
  pub st : State
  pub begins : BeginsAfter c before actor variables
  pub stands : StandsAt c actor variables exchanges place st
  pub fails : is_outcome kind (met_in c actor place st) ≡ true

fails_by : (c : Code) (kind : RefusalKind) (actor : Actor) (place : ℕ) (outcome : Outcome) → is_outcome kind (Some outcome) ≡ true
    → MayComeTo c actor place outcome → MayFail c kind actor place
fails_by c kind actor place outcome is may =
    record {
      before = may.before;
      variables = may.variables;
      exchanges = may.exchanges;
      st = may.st;
      begins = may.begins;
      stands = may.stands;
      fails = ap (is_outcome kind) may.meets ∙ is;
    }

pub fault_fails : (c : Code) (kind : RefusalKind) (actor : Actor) (place : ℕ) → IsOfVariables kind → IsFault c kind actor place
    → MayFail c kind actor place
fault_fails c refusal.Unbound actor place of (t, may) = fails_by c refusal.Unbound actor place (unbound t) refl may
fault_fails c refusal.WrongKind actor place of (t, may) = fails_by c refusal.WrongKind actor place (wrong_kind t) refl may
fault_fails c refusal.NothingToBind actor place of (v, may) = fails_by c refusal.NothingToBind actor place (nothing_to_bind v) refl may
fault_fails c refusal.BadTarget actor place of fault = absurd (omega (arith, of.0))
fault_fails c refusal.BadIndex actor place of fault = absurd (omega (arith, of.0))
fault_fails c refusal.NoHalt actor place of fault = absurd (omega (arith, of.0))
fault_fails c refusal.NotCleared actor place of fault = absurd (omega (arith, of.0))
fault_fails c refusal.FlagMayBeClear actor place of fault = absurd (omega (arith, of.1))
fault_fails c refusal.FlagMayBeSet actor place of fault = absurd (omega (arith, of.1))
fault_fails c refusal.TooManyRequests actor place of fault = absurd (omega (arith, of.1))
fault_fails c refusal.TooManyBytes actor place of fault = absurd (omega (arith, of.1))
fault_fails c refusal.OutOfMemory actor place of fault = absurd fault

pub some_unbound : (o : Option Outcome) → is_outcome refusal.Unbound o ≡ true → (t : Template) × (o ≡ Some (unbound t))
some_unbound (Some (unbound t)) e = (t, refl)
some_unbound (Some (call t n)) e = absurd (cc)
some_unbound (Some (wrong_kind t)) e = absurd (cc)
some_unbound (Some (nothing_to_bind v)) e = absurd (cc)
some_unbound (Some outside) e = absurd (cc)
some_unbound (Some ended) e = absurd (cc)
some_unbound None e = absurd (cc)

pub some_wrong_kind : (o : Option Outcome) → is_outcome refusal.WrongKind o ≡ true → (t : Template) × (o ≡ Some (wrong_kind t))
some_wrong_kind (Some (wrong_kind t)) e = (t, refl)
some_wrong_kind (Some (call t n)) e = absurd (cc)
some_wrong_kind (Some (unbound t)) e = absurd (cc)
some_wrong_kind (Some (nothing_to_bind v)) e = absurd (cc)
some_wrong_kind (Some outside) e = absurd (cc)
some_wrong_kind (Some ended) e = absurd (cc)
some_wrong_kind None e = absurd (cc)

pub some_nothing : (o : Option Outcome) → is_outcome refusal.NothingToBind o ≡ true → (v : ℕ) × (o ≡ Some (nothing_to_bind v))
some_nothing (Some (nothing_to_bind v)) e = (v, refl)
some_nothing (Some (call t n)) e = absurd (cc)
some_nothing (Some (unbound t)) e = absurd (cc)
some_nothing (Some (wrong_kind t)) e = absurd (cc)
some_nothing (Some outside) e = absurd (cc)
some_nothing (Some ended) e = absurd (cc)
some_nothing None e = absurd (cc)

comes_to : (c : Code) (kind : RefusalKind) (actor : Actor) (place : ℕ) (outcome : Outcome) (may : MayFail c kind actor place)
    → met_in c actor place may.st ≡ Some outcome → MayComeTo c actor place outcome
comes_to c kind actor place outcome may meets =
    record {
      before = may.before;
      variables = may.variables;
      exchanges = may.exchanges;
      st = may.st;
      begins = may.begins;
      stands = may.stands;
      meets = meets;
    }

pub fails_fault : (c : Code) (kind : RefusalKind) (actor : Actor) (place : ℕ) → MayFail c kind actor place → IsFault c kind actor place
fails_fault c refusal.Unbound actor place may =
    let found = some_unbound (met_in c actor place may.st) may.fails in
    (found.0, comes_to c refusal.Unbound actor place (unbound found.0) may found.1)
fails_fault c refusal.WrongKind actor place may =
    let found = some_wrong_kind (met_in c actor place may.st) may.fails in
    (found.0, comes_to c refusal.WrongKind actor place (wrong_kind found.0) may found.1)
fails_fault c refusal.NothingToBind actor place may =
    let found = some_nothing (met_in c actor place may.st) may.fails in
    (found.0, comes_to c refusal.NothingToBind actor place (nothing_to_bind found.0) may found.1)
fails_fault c refusal.BadTarget actor place may = let e : false ≡ true = may.fails in absurd (cc)
fails_fault c refusal.BadIndex actor place may = let e : false ≡ true = may.fails in absurd (cc)
fails_fault c refusal.NoHalt actor place may = let e : false ≡ true = may.fails in absurd (cc)
fails_fault c refusal.NotCleared actor place may = let e : false ≡ true = may.fails in absurd (cc)
fails_fault c refusal.FlagMayBeClear actor place may = let e : false ≡ true = may.fails in absurd (cc)
fails_fault c refusal.FlagMayBeSet actor place may = let e : false ≡ true = may.fails in absurd (cc)
fails_fault c refusal.TooManyRequests actor place may = let e : false ≡ true = may.fails in absurd (cc)
fails_fault c refusal.TooManyBytes actor place may = let e : false ≡ true = may.fails in absurd (cc)
fails_fault c refusal.OutOfMemory actor place may = let e : false ≡ true = may.fails in absurd (cc)

-- ---- kinds by their indexes

-- a kind of number is the wanted one where their indexes are equal
above : (n : ℕ) → n + 2 == 0 ≡ false
above n = elim (eqb_tells (n + 2) 0) [
  | inl zero_is ↦ absurd (let e : n + 2 ≡ 0 = zero_is.1 in omega arith)
  | inr apart ↦ apart.0
]

apart_from_one : (n : ℕ) → n + 2 == 1 ≡ false
apart_from_one n = elim (eqb_tells (n + 2) 1) [
  | inl one_is ↦ absurd (let e : n + 2 ≡ 1 = one_is.1 in omega arith)
  | inr apart ↦ apart.0
]

one_apart : (n : ℕ) → 1 == n + 2 ≡ false
one_apart n = elim (eqb_tells 1 (n + 2)) [
  | inl one_is ↦ absurd (let e : 1 ≡ n + 2 = one_is.1 in omega arith)
  | inr apart ↦ apart.0
]

same_keys : (m n : ℕ) → m == n ≡ (m + 2 == n + 2)
same_keys m n = elim (eqb_tells m n) [
  | inl equal ↦ equal.0 ∙ sym (eq-eqb (m + 2) (n + 2) (ap (λ k. k + 2) equal.1))
  | inr apart ↦ apart.0 ∙ sym (elim (eqb_tells (m + 2) (n + 2)) [
    | inl equal ↦ absurd (let e : m + 2 ≡ n + 2 = equal.1 in let f : m ≡ n = omega arith in apart.1 f)
    | inr other ↦ other.0
  ])
]

same_index : (k wanted : Kind) → is_number k ≡ true → is_same k wanted ≡ (kind_index k == kind_index wanted)
same_index kind.Unbound wanted e = absurd (cc)
same_index (kind.Cas key) kind.Unbound e = sym (above key)
same_index (kind.Cas key) (kind.Cas other) e = same_keys key other
same_index (kind.Cas key) kind.Num e = sym (apart_from_one key)
same_index kind.Num kind.Unbound e = refl
same_index kind.Num (kind.Cas other) e = sym (one_apart other)
same_index kind.Num kind.Num e = refl

-- ---- outcomes by kinds

-- a request with a number, if that is of the wanted kind
abbrev sent_if : Template → ℕ → Bool → Outcome
sent_if t number b = if b then call t number else wrong_kind t

not_unbound : (t : Template) (number : ℕ) (b : Bool) → is_outcome refusal.Unbound (Some (sent_if t number b)) ≡ false
not_unbound t number true = refl
not_unbound t number false = refl

wrong_unless : (t : Template) (number : ℕ) (b : Bool) → is_outcome refusal.WrongKind (Some (sent_if t number b)) ≡ not b
wrong_unless t number true = refl
wrong_unless t number false = refl

no_bind : (t : Template) (number : ℕ) (b : Bool) → is_outcome refusal.NothingToBind (Some (sent_if t number b)) ≡ false
no_bind t number true = refl
no_bind t number false = refl

-- the outcome of a request with a number
pub wrong_number : (kind : RefusalKind) (t : Template) (x : Tagged) → is_outcome kind (Some (call_with t x)) ≡ is_wrong kind t (kind_index x.0)
wrong_number refusal.Unbound t (kind.Unbound, n) = refl
wrong_number refusal.WrongKind t (kind.Unbound, n) = refl
wrong_number refusal.NothingToBind t (kind.Unbound, n) = refl
wrong_number refusal.Unbound t (kind.Cas key, n) = not_unbound t n (is_same (kind.Cas key) (wanted_by t.verb t.key)) ∙ sym (above key)
wrong_number refusal.WrongKind t (kind.Cas key, n) =
    wrong_unless t n (is_same (kind.Cas key) (wanted_by t.verb t.key))
    ∙ ap not (same_index (kind.Cas key) (wanted_by t.verb t.key) refl)
    ∙ ap (λ b. not b && not (key + 2 == kind_index (wanted_by t.verb t.key))) (sym (above key))
wrong_number refusal.NothingToBind t (kind.Cas key, n) = no_bind t n (is_same (kind.Cas key) (wanted_by t.verb t.key))
wrong_number refusal.Unbound t (kind.Num, n) = not_unbound t n (is_same kind.Num (wanted_by t.verb t.key))
wrong_number refusal.WrongKind t (kind.Num, n) =
    wrong_unless t n (is_same kind.Num (wanted_by t.verb t.key)) ∙ ap not (same_index kind.Num (wanted_by t.verb t.key) refl)
wrong_number refusal.NothingToBind t (kind.Num, n) = no_bind t n (is_same kind.Num (wanted_by t.verb t.key))
wrong_number refusal.BadTarget t x = refl
wrong_number refusal.BadIndex t x = refl
wrong_number refusal.NoHalt t x = refl
wrong_number refusal.NotCleared t x = refl
wrong_number refusal.FlagMayBeClear t x = refl
wrong_number refusal.FlagMayBeSet t x = refl
wrong_number refusal.TooManyRequests t x = refl
wrong_number refusal.TooManyBytes t x = refl
wrong_number refusal.OutOfMemory t x = refl

-- a request, the end and what leads on are no faults
pub no_fault_of_call : (kind : RefusalKind) (t : Template) (n : ℕ) → is_outcome kind (Some (call t n)) ≡ false
no_fault_of_call refusal.Unbound t n = refl
no_fault_of_call refusal.WrongKind t n = refl
no_fault_of_call refusal.NothingToBind t n = refl
no_fault_of_call _ t n = refl

pub no_fault_of_none : (kind : RefusalKind) → is_outcome kind None ≡ false
no_fault_of_none refusal.Unbound = refl
no_fault_of_none refusal.WrongKind = refl
no_fault_of_none refusal.NothingToBind = refl
no_fault_of_none _ = refl

fault_of_bind : (kind : RefusalKind) (v : ℕ) → is_outcome kind (Some (nothing_to_bind v)) ≡ is_of_binds kind
fault_of_bind refusal.Unbound v = refl
fault_of_bind refusal.WrongKind v = refl
fault_of_bind refusal.NothingToBind v = refl
fault_of_bind _ v = refl

and_false : (b : Bool) → false ≡ (b && false)
and_false true = refl
and_false false = refl

and_true : (b : Bool) → b ≡ (b && true)
and_true true = refl
and_true false = refl

pub unshown : (k : RefusalKind) (v : ℕ) (shown : Kind)
    → is_outcome k (if is_number shown then None else Some (nothing_to_bind v)) ≡ (is_of_binds k && (kind_index shown == 0))
unshown k v kind.Unbound = fault_of_bind k v ∙ and_true (is_of_binds k)
unshown k v (kind.Cas key) = no_fault_of_none k ∙ and_false (is_of_binds k) ∙ ap (λ b. is_of_binds k && b) (sym (above key))
unshown k v kind.Num = no_fault_of_none k ∙ and_false (is_of_binds k)
