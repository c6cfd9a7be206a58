-- What a section comes to without a further reply, and where a run that shows a fault of variables begins.
use Rattle.std.proofs.Common.{◌≡◌, ◌↔◌, ℕ, Bool, true, not, Some, List, [], ◌∷◌, ◌++◌, slice_get, refl, ap, sym, subst, ◌∙◌}
use Rattle.mc_protocol.specs.{declared.actor.Actor.Actor, declared.reply.Class.Class}
use Rattle.mc_protocol.specs.declared.actor.Actor.TheVariants as actor
use Rattle.mc_code.specs.States.{Tagged, State, Outcome, initial_state, unbound, wrong_kind, nothing_to_bind}
use Rattle.mc_code.specs.{Code.Code, Code.instructions_in, NumberLaws.HaveSameKinds, Paths.Slides, RunLaws.edges_of, Runs.Exchange, Runs.after_slide}
use Rattle.mc_code.specs.{Runs.IsRun, Runs.met_at, Standing.BeginsAfter, Standing.Leaves, Standing.no_variables, Standing.met_in}
use Rattle.mc_code.specs.declared.instr.Instr.TheVariants as instr
use Rattle.mc_code.proofs.Stopping.{RunBegins, rested, slid_first, sent_first, run_begins, slides_once}
use Rattle.mc_code.proofs.{LookUps.some_is, RunLemmas.run_slides, RunLemmas.ended_at_halt, SameKinds.kinds_follow_edges}
use Rattle.mc_counterexample.specs.{KindReplays.IsSlid, KindReplays.FailsAlong, KindReplays.ShowsFail, KindReplays.FailsOn, KindReplays.FailsBehind}
use Rattle.mc_counterexample.specs.{KindReplays.FailsWhere, Replays.RestsAt, Replays.is_branch}
use Rattle.mc_verify.specs.{Shown.replies_along, Shown.front, Shown.ComesAlong, Shown.IsShownBy, VariableFaults.is_outcome}
use Rattle.mc_sound.specs.{Faults.IsStructured, declared.refusal_kind.RefusalKind.RefusalKind, Interleavings.Stage, Interleavings.staged}
use Rattle.mc_sound.specs.declared.refusal_kind.RefusalKind.TheVariants as refusal
use Rattle.mc_verify.proofs.FaultKinds.{some_unbound, some_wrong_kind, some_nothing}
use Rattle.mc_counterexample.proofs.KindReplays.{met_alike}
use Rattle.mc_sound.proofs.Structured.{structured_forwards}

-- ---- slides

pub run_slid : (c : Code) (actor : Actor) (p from other : ℕ) (begin st after : State) → IsRun c.templates (instructions_in c actor) p begin [] from st
    → IsSlid c actor from st other after → IsRun c.templates (instructions_in c actor) p begin [] other after
run_slid c actor p from other begin st after run slid =
    subst (λ st. IsRun c.templates (instructions_in c actor) p begin [] other st) (sym slid.after_is) (run_slides run slid.i slid.at slid.leads)

-- a run without a reply to another place goes by where the instruction leads
by_slide : (c : Code) (actor : Actor) (place from other : ℕ) (st after end : State) → IsSlid c actor from st other after → (from ≡ place → ⊥)
    → RunBegins c.templates (instructions_in c actor) from st [] place end → IsRun c.templates (instructions_in c actor) other after [] place end
by_slide c actor place from other st after end slid apart (rested e f g) = absurd (apart e)
by_slide c actor place from other st after end slid apart (slid_first i q at leads run) =
    let section = instructions_in c actor in
    let same = some_is i slid.i (sym at ∙ slid.at) in
    let there = slides_once slid.i from q other (subst (λ i. Slides i from q) same leads) slid.leads in
    let state : after_slide i st ≡ after = ap (λ i. after_slide i st) same ∙ sym slid.after_is in
    subst (λ st. IsRun c.templates section other st [] place end) state
    (subst (λ q. IsRun c.templates section q (after_slide i st) [] place end) there run)
by_slide c actor place from other st after end slid apart (sent_first i q t given rest at leads fit run is) = absurd (cc)

pub run_by_slide : (c : Code) (actor : Actor) (place from other : ℕ) (st after end : State) → IsSlid c actor from st other after → (from ≡ place → ⊥)
    → IsRun c.templates (instructions_in c actor) from st [] place end → IsRun c.templates (instructions_in c actor) other after [] place end
run_by_slide c actor place from other st after end slid apart run = by_slide c actor place from other st after end slid apart (run_begins run)

no_slide : (c : Code) (actor : Actor) (place from : ℕ) (st end : State) → RestsAt c actor from → (from ≡ place → ⊥)
    → RunBegins c.templates (instructions_in c actor) from st [] place end → ⊥
no_slide c actor place from st end rests apart (rested e f g) = apart e
no_slide c actor place from st end rests apart (slid_first i q at leads run) = rests q (i, at, leads)
no_slide c actor place from st end rests apart (sent_first i q t given rest at leads fit run is) = absurd (cc)

pub rests_apart : (c : Code) (actor : Actor) (place from : ℕ) (st end : State) → RestsAt c actor from → (from ≡ place → ⊥)
    → IsRun c.templates (instructions_in c actor) from st [] place end → ⊥
rests_apart c actor place from st end rests apart run = no_slide c actor place from st end rests apart (run_begins run)

-- ---- the fault

no_exchanges : (actor : Actor) (xs : List Exchange) → [] ≡ replies_along (staged actor (edges_of xs)) → xs ≡ []
no_exchanges actor [] e = refl
no_exchanges actor (x ∷ xs) e = absurd (cc)

pub fails_there : (c : Code) (kind : RefusalKind) (actor : Actor) (place from : ℕ) (st there : State) (found : Bool) → IsStructured c actor
    → IsRun c.templates (instructions_in c actor) from st [] place there
    → (found ≡ true) ↔ (is_outcome kind (met_in c actor place there) ≡ true) → (found ≡ true) ↔ FailsOn c kind actor place from st []
fails_there c kind actor place from st there found structured run tells = (
  λ e. record { exchanges = []; end = there; run = run; fails = tells.0 e; shown_is = refl },
  λ fails.
      let section = instructions_in c actor in
      let none = no_exchanges actor fails.exchanges fails.shown_is in
      let other = subst (λ xs. IsRun c.templates section from st xs place fails.end) none fails.run in
      let same : HaveSameKinds fails.end there =
      kinds_follow_edges c.templates section from place st st fails.end there [] [] (structured_forwards c actor structured) (refl, refl) refl other run in
      tells.1 (sym (met_alike c kind actor place fails.end there same) ∙ fails.fails),
)

pub fails_never : (c : Code) (kind : RefusalKind) (actor : Actor) (place from : ℕ) (st : State)
    → ((end : State) → IsRun c.templates (instructions_in c actor) from st [] place end → ⊥) → FailsOn c kind actor place from st [] → ⊥
fails_never c kind actor place from st never fails =
    let none = no_exchanges actor fails.exchanges fails.shown_is in
    never fails.end (subst (λ xs. IsRun c.templates (instructions_in c actor) from st xs place fails.end) none fails.run)

-- ---- at the start

replies_append : (first second : List Stage) → replies_along (first ++ second) ≡ replies_along first ++ replies_along second
replies_append [] second = refl
replies_append (stage ∷ first) second = ap (λ l. (stage.0, stage.1.1) ∷ l) (replies_append first second)

-- a branch begins after P
left_before : (c : Code) (named : Actor) (before : List Exchange) (variables : List Tagged) → is_branch named ≡ true
    → BeginsAfter c before named variables → Leaves c before variables
left_before c actor.P before variables branch begins = absurd (cc)
left_before c actor.A before variables branch begins = begins
left_before c actor.B before variables branch begins = begins

front_of_branch : (named : Actor) (before : List Exchange) → is_branch named ≡ true → staged actor.P (edges_of before) ≡ front named (edges_of before)
front_of_branch actor.P before branch = absurd (cc)
front_of_branch actor.A before branch = refl
front_of_branch actor.B before branch = refl

behind_along : (c : Code) (kind : RefusalKind) (named : Actor) (place : ℕ) (interleaving : List Stage) (shown : List (Actor × Class)) → is_branch named ≡ true
    → shown ≡ replies_along interleaving → FailsAlong c kind named place interleaving → FailsBehind c kind named place 0 (initial_state (no_variables c)) shown
behind_along c kind named place interleaving shown branch shown_is along =
    let leaves = left_before c named along.before along.variables branch along.begins in
    let comes = leaves.1 in
    let own = staged named (edges_of along.exchanges) in
    record {
      before = along.before;
      halt = comes.0;
      end = leaves.0;
      rest = replies_along own;
      run = comes.1;
      halts = ended_at_halt c.templates (slice_get (instructions_in c actor.P) comes.0) leaves.0 comes.2;
      fails = record {
        exchanges = along.exchanges;
        end = along.st;
        run = subst (λ variables. IsRun c.templates (instructions_in c named) 0 (initial_state variables) along.exchanges place along.st) leaves.2
            along.stands;
        fails = along.fails;
        shown_is = refl;
      };
      shown_is = shown_is ∙ ap replies_along along.interleaving_is
          ∙ ap (λ prefix. replies_along (prefix ++ own)) (sym (front_of_branch named along.before branch))
          ∙ replies_append (staged actor.P (edges_of along.before)) own;
    }

-- the branch begins with what P leaves
begins_behind : (c : Code) (named : Actor) (before : List Exchange) (halt : ℕ) (end : State) → is_branch named ≡ true
    → IsRun c.templates (instructions_in c actor.P) 0 (initial_state (no_variables c)) before halt end
    → slice_get (instructions_in c actor.P) halt ≡ Some instr.Halt → BeginsAfter c before named end.variables
begins_behind c actor.P before halt end branch run halts = absurd (cc)
begins_behind c actor.A before halt end branch run halts = (end, (halt, run, ap (λ o. met_at c.templates o end) halts), refl)
begins_behind c actor.B before halt end branch run halts = (end, (halt, run, ap (λ o. met_at c.templates o end) halts), refl)

along_behind : (c : Code) (kind : RefusalKind) (named : Actor) (place : ℕ) (shown : List (Actor × Class)) → is_branch named ≡ true
    → FailsBehind c kind named place 0 (initial_state (no_variables c)) shown → ShowsFail c kind named place shown
along_behind c kind named place shown branch behind =
    let own = staged named (edges_of behind.fails.exchanges) in
    let prefix = staged actor.P (edges_of behind.before) in (
      prefix ++ own,
      behind.shown_is ∙ ap (λ rest. replies_along prefix ++ rest) behind.fails.shown_is ∙ sym (replies_append prefix own),
      record {
        before = behind.before;
        variables = behind.end.variables;
        exchanges = behind.fails.exchanges;
        st = behind.fails.end;
        begins = begins_behind c named behind.before behind.halt behind.end branch behind.run behind.halts;
        stands = behind.fails.run;
        fails = behind.fails.fails;
        interleaving_is = ap (λ prefix. prefix ++ own) (front_of_branch named behind.before branch);
      },
    )

pub fails_from_first : (c : Code) (kind : RefusalKind) (named : Actor) (place : ℕ) (shown : List (Actor × Class)) (begun : Bool) (from : ℕ) (st : State)
    → begun ≡ not (is_branch named) → from ≡ 0 → st ≡ initial_state (no_variables c)
    → ShowsFail c kind named place shown ↔ FailsWhere begun c kind named place from st shown
fails_from_first c kind named place shown begun from st begun_is from_is st_is =
    subst (λ begun. ShowsFail c kind named place shown ↔ FailsWhere begun c kind named place from st shown) (sym begun_is)
    (subst (λ from. ShowsFail c kind named place shown ↔ FailsWhere (not (is_branch named)) c kind named place from st shown) (sym from_is)
    (subst (λ st. ShowsFail c kind named place shown ↔ FailsWhere (not (is_branch named)) c kind named place 0 st shown) (sym st_is) (at_start named)))
  where
    at_start : (named : Actor)
        → ShowsFail c kind named place shown ↔ FailsWhere (not (is_branch named)) c kind named place 0 (initial_state (no_variables c)) shown
    at_start actor.P = (
      λ (interleaving, shown_is, along). record {
        exchanges = along.exchanges;
        end = along.st;
        run = subst (λ variables. IsRun c.templates (instructions_in c actor.P) 0 (initial_state variables) along.exchanges place along.st) along.begins
            along.stands;
        fails = along.fails;
        shown_is = shown_is ∙ ap replies_along along.interleaving_is;
      },
      λ fails. (
        staged actor.P (edges_of fails.exchanges),
        fails.shown_is,
        record {
          before = [];
          variables = no_variables c;
          exchanges = fails.exchanges;
          st = fails.end;
          begins = refl;
          stands = fails.run;
          fails = fails.fails;
          interleaving_is = refl;
        },
      ),
    )
    at_start actor.A = (
      λ
          (interleaving, shown_is, along). behind_along c kind actor.A place interleaving shown refl shown_is along,
      along_behind c kind actor.A place shown refl,
    )
    at_start actor.B = (
      λ
          (interleaving, shown_is, along). behind_along c kind actor.B place interleaving shown refl shown_is along,
      along_behind c kind actor.B place shown refl,
    )

-- ---- the kinds

comes_fails : (c : Code) (kind : RefusalKind) (actor : Actor) (place : ℕ) (interleaving : List Stage) (outcome : Outcome)
    → is_outcome kind (Some outcome) ≡ true
    → ComesAlong c actor place outcome interleaving → FailsAlong c kind actor place interleaving
comes_fails c kind actor place interleaving outcome is comes = record {
  before = comes.before;
  variables = comes.variables;
  exchanges = comes.exchanges;
  st = comes.st;
  begins = comes.begins;
  stands = comes.stands;
  fails = ap (is_outcome kind) comes.meets ∙ is;
  interleaving_is = comes.interleaving_is;
}

fails_comes : (c : Code) (kind : RefusalKind) (actor : Actor) (place : ℕ) (interleaving : List Stage) (outcome : Outcome)
    (fails : FailsAlong c kind actor place interleaving)
    → met_in c actor place fails.st ≡ Some outcome → ComesAlong c actor place outcome interleaving
fails_comes c kind actor place interleaving outcome fails meets = record {
  before = fails.before;
  variables = fails.variables;
  exchanges = fails.exchanges;
  st = fails.st;
  begins = fails.begins;
  stands = fails.stands;
  meets = meets;
  interleaving_is = fails.interleaving_is;
}

pub shown_unbound : (c : Code) (actor : Actor) (place : ℕ) (shown : List (Actor × Class))
    → ShowsFail c refusal.Unbound actor place shown ↔ IsShownBy c refusal.Unbound actor place shown
shown_unbound c actor place shown = (
  λ (interleaving, shown_is, fails).
      let found = some_unbound (met_in c actor place fails.st) fails.fails in
      (interleaving, shown_is, (found.0, fails_comes c refusal.Unbound actor place interleaving (unbound found.0) fails found.1)),
  λ (interleaving, shown_is, (t, comes)). (interleaving, shown_is, comes_fails c refusal.Unbound actor place interleaving (unbound t) refl comes),
)

pub shown_wrong_kind : (c : Code) (actor : Actor) (place : ℕ) (shown : List (Actor × Class))
    → ShowsFail c refusal.WrongKind actor place shown ↔ IsShownBy c refusal.WrongKind actor place shown
shown_wrong_kind c actor place shown = (
  λ (interleaving, shown_is, fails).
      let found = some_wrong_kind (met_in c actor place fails.st) fails.fails in
      (interleaving, shown_is, (found.0, fails_comes c refusal.WrongKind actor place interleaving (wrong_kind found.0) fails found.1)),
  λ (interleaving, shown_is, (t, comes)). (interleaving, shown_is, comes_fails c refusal.WrongKind actor place interleaving (wrong_kind t) refl comes),
)

pub shown_nothing : (c : Code) (actor : Actor) (place : ℕ) (shown : List (Actor × Class))
    → ShowsFail c refusal.NothingToBind actor place shown ↔ IsShownBy c refusal.NothingToBind actor place shown
shown_nothing c actor place shown = (
  λ (interleaving, shown_is, fails).
      let found = some_nothing (met_in c actor place fails.st) fails.fails in
      (interleaving, shown_is, (found.0, fails_comes c refusal.NothingToBind actor place interleaving (nothing_to_bind found.0) fails found.1)),
  λ (interleaving, shown_is, (v, comes)). (interleaving, shown_is, comes_fails c refusal.NothingToBind actor place interleaving (nothing_to_bind v) refl comes),
)
