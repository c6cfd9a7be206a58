-- Runs: joined, longer by a move, what holds along them, and which are paths.
use Rattle.std.proofs.Common.{◌≡◌, ℕ, Bool, true, false, ◌&&◌, Option, Some, None, List, [], ◌∷◌, ◌++◌, slice_get}
use Rattle.std.proofs.Common.{slice_index_or, refl, ap, sym, subst, ◌∙◌, if◌then◌else◌}
use Rattle.mc_protocol.specs.Legal.{class_of, is_legal, suits, is_fit_for}
use Rattle.mc_protocol.specs.{declared.request.Verb.Verb, declared.reply.Class.Class, declared.reply.Reply.Reply}
use Rattle.mc_protocol.specs.declared.request.Verb.TheVariants as verb
use Rattle.mc_protocol.specs.declared.reply.Class.TheVariants as class
use Rattle.mc_protocol.specs.declared.reply.Reply.TheVariants as reply
use Rattle.mc_script.specs.{declared.step.Argument.Argument, declared.step.Template.Template}
use Rattle.mc_script.specs.declared.step.Argument.TheVariants as argument
use Rattle.mc_code.specs.Runs.{Exchange, after_slide, IsRun, rests, slides, sends, met_by_send, met_at}
use Rattle.mc_code.specs.RunLaws.{edges_of, CompletePathsEnd, EndsAreComplete, PathsAreRuns}
use Rattle.mc_code.specs.States.{Tagged, nothing, is_number, State, initial_state, after_reply, call, wrong_kind, nothing_to_bind}
use Rattle.mc_code.specs.States.{ended, call_with, with_argument, send_outcome, wanted_by, is_same}
use Rattle.mc_code.specs.{declared.instr.Instr.Instr, Code.instructions_in, Paths.Edge, Paths.Slides, Paths.Sends, Paths.IsPath}
use Rattle.mc_code.specs.declared.instr.Instr.TheVariants as instr
use Rattle.mc_code.specs.declared.kind.Kind.TheVariants as kind
use Rattle.mc_code.specs.Paths as path

-- ---- longer runs

pub run_slides : {templates : List Template} {section : List Instr} {p q r : ℕ} {st end : State} {xs : List Exchange}
    → IsRun templates section p st xs q end → (i : Instr) → slice_get section q ≡ Some i → Slides i q r
    → IsRun templates section p st xs r (after_slide i end)
run_slides rests i at leads = slides i at leads rests
run_slides (slides j here on run) i at leads = slides j here on (run_slides run i at leads)
run_slides (sends j here on fit run) i at leads = sends j here on fit (run_slides run i at leads)

pub run_sends : {templates : List Template} {section : List Instr} {p q r : ℕ} {st end : State} {xs : List Exchange}
    → IsRun templates section p st xs q end → (i : Instr) (t : Template) (given : Reply) → slice_get section q ≡ Some i
    → Sends templates i t (class_of given) r → is_fit_for t.verb given ≡ true
    → IsRun templates section p st (xs ++ (t, given) ∷ []) r (after_reply t given end)
run_sends rests i t given at leads fit = sends i at leads fit rests
run_sends (slides j here on run) i t given at leads fit = slides j here on (run_sends run i t given at leads fit)
run_sends (sends j here on is_fit run) i t given at leads fit = sends j here on is_fit (run_sends run i t given at leads fit)

-- ---- what holds along a run

-- what a place and a state keep with each move
pub record IsKeptByRuns (templates : List Template) (section : List Instr) (H : ℕ → State → Type 0) : Type 0 where
  pub slides_on : (i : Instr) (p q : ℕ) (st : State) → slice_get section p ≡ Some i → Slides i p q → H p st → H q (after_slide i st)
  pub sends_on : (i : Instr) (p q : ℕ) (st : State) (t : Template) (given : Reply) → slice_get section p ≡ Some i
      → Sends templates i t (class_of given) q → is_fit_for t.verb given ≡ true → H p st → H q (after_reply t given st)

-- it holds at the end of each run from where it holds
pub kept_by_run : (templates : List Template) (section : List Instr) (H : ℕ → State → Type 0) → IsKeptByRuns templates section H
    → {p q : ℕ} {st end : State} {exchanges : List Exchange} → IsRun templates section p st exchanges q end → H p st → H q end
kept_by_run templates section H kept rests h = h
kept_by_run templates section H kept (slides {p = p} {q = q} {st = st} i at leads run) h =
    kept_by_run templates section H kept run (kept.slides_on i p q st at leads h)
kept_by_run templates section H kept (sends {p = p} {q = q} {st = st} {t = t} {reply = given} i at leads fit run) h =
    kept_by_run templates section H kept run (kept.sends_on i p q st t given at leads fit h)

-- ---- paths

-- the edges of a run are a path
pub run_path : {templates : List Template} {section : List Instr} {p q : ℕ} {st end : State} {exchanges : List Exchange}
    → IsRun templates section p st exchanges q end → IsPath templates section p (edges_of exchanges) q
run_path rests = path.stays
run_path (slides i at leads run) = path.slides i at leads (run_path run)
run_path (sends i at leads fit run) = path.sends i at leads (run_path run)

-- a cas unique, where the verb's hits show one
abbrev pub cas_of : Verb → ℕ → Option ℕ
cas_of verb.Gets number = Some number
cas_of _ number = None

-- a reply of the class to the verb, which shows this number, if it shows one
abbrev pub reply_with : Verb → Class → ℕ → Reply
reply_with v class.Stored number = reply.Stored
reply_with v class.NotStored number = reply.NotStored
reply_with v class.Exists number = reply.Exists
reply_with v class.NotFound number = reply.NotFound
reply_with v class.Hit number = reply.Hit 0 [] (cas_of v number)
reply_with v class.Miss number = reply.Miss
reply_with v class.Deleted number = reply.Deleted
reply_with v class.Touched number = reply.Touched
reply_with v class.Number number = reply.Number number
reply_with v class.NotNumber number = reply.NotNumber

pub class_of_reply : (v : Verb) (c : Class) (number : ℕ) → class_of (reply_with v c number) ≡ c
class_of_reply v class.Stored number = refl
class_of_reply v class.NotStored number = refl
class_of_reply v class.Exists number = refl
class_of_reply v class.NotFound number = refl
class_of_reply v class.Hit number = refl
class_of_reply v class.Miss number = refl
class_of_reply v class.Deleted number = refl
class_of_reply v class.Touched number = refl
class_of_reply v class.Number number = refl
class_of_reply v class.NotNumber number = refl

pub fit_is_legal : (v : Verb) (r : Reply) → is_fit_for v r ≡ true → is_legal v (class_of r) ≡ true
fit_is_legal v r fit = first (is_legal v (class_of r)) (suits v r) fit
  where
    first : (a b : Bool) → (a && b) ≡ true → a ≡ true
    first true b e = refl
    first false b e = e

hit_fits : (v : Verb) (number : ℕ) → is_legal v class.Hit ≡ true → is_fit_for v (reply.Hit 0 [] (cas_of v number)) ≡ true
hit_fits verb.Get number legal = refl
hit_fits verb.Gets number legal = refl
hit_fits verb.Set number legal = absurd (cc)
hit_fits verb.Add number legal = absurd (cc)
hit_fits verb.Replace number legal = absurd (cc)
hit_fits verb.Append number legal = absurd (cc)
hit_fits verb.Prepend number legal = absurd (cc)
hit_fits verb.Cas number legal = absurd (cc)
hit_fits verb.Incr number legal = absurd (cc)
hit_fits verb.Decr number legal = absurd (cc)
hit_fits verb.Delete number legal = absurd (cc)
hit_fits verb.Touch number legal = absurd (cc)

-- the verb may have this reply, where it may have one of the class
pub reply_fits : (v : Verb) (c : Class) (number : ℕ) → is_legal v c ≡ true → is_fit_for v (reply_with v c number) ≡ true
reply_fits v class.Stored number legal = rw legal refl
reply_fits v class.NotStored number legal = rw legal refl
reply_fits v class.Exists number legal = rw legal refl
reply_fits v class.NotFound number legal = rw legal refl
reply_fits v class.Hit number legal = hit_fits v number legal
reply_fits v class.Miss number legal = rw legal refl
reply_fits v class.Deleted number legal = rw legal refl
reply_fits v class.Touched number legal = rw legal refl
reply_fits v class.Number number legal = rw legal refl
reply_fits v class.NotNumber number legal = rw legal refl

pub sends_legal : (templates : List Template) (i : Instr) (t : Template) (c : Class) (q : ℕ) → Sends templates i t c q → is_legal t.verb c ≡ true
sends_legal templates (instr.Send n next) t c q leads = leads.1
sends_legal templates (instr.Bind v) t c q leads = absurd leads
sends_legal templates (instr.Goto place) t c q leads = absurd leads
sends_legal templates instr.Halt t c q leads = absurd leads

-- these edges are those of a run from the place and the state
abbrev pub AreOfRun : List Template → List Instr → ℕ → State → List Edge → ℕ → Type 0
AreOfRun templates section p st edges q =
    (exchanges : List Exchange) × (end : State) × IsRun templates section p st exchanges q end × (edges_of exchanges ≡ edges)

-- a path is the edges of a run, also of one in which every number that is shown is this one
pub path_run : (templates : List Template) (section : List Instr) (number : ℕ) → {p q : ℕ} {edges : List Edge} → IsPath templates section p edges q
    → (st : State) → AreOfRun templates section p st edges q
path_run templates section number path.stays st = ([], st, rests, refl)
path_run templates section number (path.slides i at leads more) st =
    let on = path_run templates section number more (after_slide i st) in
    (on.0, on.1, slides i at leads on.2, on.3)
path_run templates section number (path.sends {q = q} {template = t} {class = c} i at leads more) st =
    let given = reply_with t.verb c number in
    let class_is = class_of_reply t.verb c number in
    let on = path_run templates section number more (after_reply t given st) in (
      (t, given) ∷ on.0,
      on.1,
      sends i at (subst (λ c. Sends templates i t c q) (sym class_is) leads) (reply_fits t.verb c number (sends_legal templates i t c q leads)) on.2,
      ap (λ c. (t, c) ∷ edges_of on.0) class_is ∙ ap (λ l. (t, c) ∷ l) on.3,
    )

pub paths_run : PathsAreRuns
paths_run templates section p q edges st is_path = path_run templates section 0 is_path st

-- ---- the end of a section

given_goes_on : (t : Template) (x : Tagged) → call_with t x ≡ ended → ⊥
given_goes_on t (kind.Unbound, number) e = absurd (cc)
given_goes_on t (kind.Cas key, number) e = by_kind (is_same (kind.Cas key) (wanted_by t.verb t.key)) e
  where
    by_kind : (b : Bool) → (if b then call t number else wrong_kind t) ≡ ended → ⊥
    by_kind true e = absurd (cc)
    by_kind false e = absurd (cc)
given_goes_on t (kind.Num, number) e = by_kind (is_same kind.Num (wanted_by t.verb t.key)) e
  where
    by_kind : (b : Bool) → (if b then call t number else wrong_kind t) ≡ ended → ⊥
    by_kind true e = absurd (cc)
    by_kind false e = absurd (cc)

-- a section that is about to send isn't done
pub sending_goes_on : (t : Template) (st : State) → send_outcome t st ≡ ended → ⊥
sending_goes_on t st e = by_argument t.argument e
  where
    by_argument : (a : Argument) → with_argument t a st.variables ≡ ended → ⊥
    by_argument argument.Nothing e = absurd (cc)
    by_argument (argument.Number number) e = absurd (cc)
    by_argument (argument.Variable v) e = given_goes_on t (slice_index_or st.variables v nothing) e

-- a section that is done is at an instruction that ends it
pub ended_at_halt : (templates : List Template) (o : Option Instr) (st : State) → met_at templates o st ≡ Some ended → o ≡ Some instr.Halt
ended_at_halt templates None st met = absurd (cc)
ended_at_halt templates (Some (instr.Send n next)) st met = absurd (by_template (slice_get templates n) met)
  where
    by_template : (o : Option Template) → Some (met_by_send o st) ≡ Some ended → ⊥
    by_template None met = absurd (cc)
    by_template (Some t) met = let same : send_outcome t st ≡ ended = cc in sending_goes_on t st same
ended_at_halt templates (Some (instr.Bind v)) st met = absurd (by_number (is_number st.last.0) met)
  where
    by_number : (b : Bool) → (if b then None else Some (nothing_to_bind v)) ≡ Some ended → ⊥
    by_number true met = absurd (cc)
    by_number false met = absurd (cc)
ended_at_halt templates (Some (instr.Goto place)) st met = absurd (cc)
ended_at_halt templates (Some instr.Halt) st met = refl

pub ends_complete : EndsAreComplete
ends_complete c actor variables exchanges st (p, run, met) =
    (p, run_path run, ended_at_halt c.templates (slice_get (instructions_in c actor) p) st met)

pub complete_ends : CompletePathsEnd
complete_ends c actor variables edges (p, is_path, halt) =
    let section = instructions_in c actor in
    let run : AreOfRun c.templates section 0 (initial_state variables) edges p = path_run c.templates section 0 is_path (initial_state variables) in
    (run.0, run.1, (p, run.2, ap (λ o. met_at c.templates o run.1) halt), run.3)
