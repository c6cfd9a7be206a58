-- What a section's fields say of a world: its log, how it stands, and where its machine stands.
use Rattle.std.proofs.Common.{◌≡◌, ◌≢◌, ◌⊎◌, inl, inr, ℕ, true, Option, Some, None, List, slice_get, refl, ap, sym, subst, ◌∙◌}
use Rattle.mc_protocol.specs.{Sections.section_of, declared.actor.Actor.Actor, declared.event.Event.Event}
use Rattle.mc_protocol.specs.declared.sections.Sections.{Sections}
use Rattle.mc_protocol.specs.declared.actor.Actor.TheVariants as actor
use Rattle.mc_code.specs.States.{Tagged, State, ended}
use Rattle.mc_code.specs.{Code.Code, Code.instructions_in, Paths.Slides, Runs.Exchange, Standing.ComesTo, declared.instr.Instr.Instr}
use Rattle.mc_code.specs.declared.instr.Instr.TheVariants as instr
use Rattle.mc_code.proofs.{LookUps.some_is, RunLemmas.ended_at_halt, Stopping.StopsAt, Stopping.one_stop}
use Rattle.mc_machine.specs.{Machine.IsAt, Machine.actor_of, Machine.outstanding_of, Machine.waits_at, declared.machine.Machine.Machine}
use Rattle.mc_core.specs.Fields.{fault_in, log_in, world_in, held_in, EndsAs, IsFree, IsKept}
use Rattle.mc_core.specs.Held.{Held, Stands, HasMachine, IsHeldBy}
use Rattle.mc_core.specs.Worlds.{World, Noted, log_of, exchanges_of, BeginsIn, HasEnded, IsBegun, IsDone, IsEnding}
use Rattle.mc_core.specs.{declared.ending.Ending.Ending, declared.section.Section.Section, Logs.Log, Steps.IsStep, Steps.IsWorldOf}
use Rattle.mc_core.specs.declared.ending.Ending.TheVariants as ending
use Rattle.mc_core.proofs.StepLemmas.{begins_once}

-- ---- fields that show a world

-- what the section's fields say is so in the world
pub record Shows (c : Code) (w : World) (notes : List Noted) (who : Actor) (s : Section) : Type 0 where
  pub logged : log_in notes who s ≡ log_of w who
  pub stands : IsEnding c w who s.ending
  pub machine : HasMachine c w who s.ending s.machine

abbrev pub AllShow : Code → World → List Noted → Sections Section → Type 0
AllShow c w notes s = (who : Actor) → Shows c w notes who (section_of s who)

pub world_is : (p p' a a' b b' : Log) (notes notes' : List Noted) → p ≡ p' → a ≡ a' → b ≡ b' → notes ≡ notes'
    → (let w : World = record { logs = record { p = p; a = a; b = b }; notes = notes } in w)
    ≡ record { logs = record { p = p'; a = a'; b = b' }; notes = notes' }
world_is p p' a a' b b' notes notes' e f g h = cc

-- fields that show the fold of their notes hold it
pub shown_held : (c : Code) (w : World) (s : Sections Section) (notes : List Noted) → IsWorldOf c w → notes ≡ w.notes → AllShow c w notes s
    → (world_in s notes ≡ w) × IsHeldBy c (held_in s notes)
shown_held c w s notes fold same shows = (
  is,
  subst (λ u. IsHeldBy c (record (held_in s notes) { world = u })) (sym is) (record { fold = fold; endings = endings; machines = machines }),
)
  where
    is : world_in s notes ≡ w
    is = world_is _ w.logs.p _ w.logs.a _ w.logs.b notes w.notes (shows actor.P).logged (shows actor.A).logged (shows actor.B).logged same

    endings : (who : Actor) → IsEnding c w who (section_of (held_in s notes).endings who)
    endings actor.P = (shows actor.P).stands
    endings o = (shows o).stands

    machines : (who : Actor)
        → HasMachine c w who (section_of (held_in s notes).endings who) (section_of (held_in s notes).machines who)
    machines actor.P = (shows actor.P).machine
    machines o = (shows o).machine

-- what is known of the fields of a world that the code holds
pub record Fields (c : Code) (s : Sections Section) (notes : List Noted) : Type 0 where
  pub held : IsHeldBy c (held_in s notes)
  pub kept : (who : Actor) → IsKept notes who (section_of s who)

pub shown : (c : Code) (s : Sections Section) (notes : List Noted) → Fields c s notes → AllShow c (world_in s notes) notes s
shown c s notes fields actor.P = record { logged = refl; stands = fields.held.endings actor.P; machine = fields.held.machines actor.P }
shown c s notes fields o = record { logged = refl; stands = fields.held.endings o; machine = fields.held.machines o }

-- what is known of the fields before an event that is taken
pub record Goes (c : Code) (s : Sections Section) (notes : List Noted) (who : Actor) (e : Event) : Type 0 where
  pub fields : Fields c s notes
  pub running : (section_of s who).ending ≡ ending.Running
  pub free : IsFree c (world_in s notes) who e

-- what they say after it, and what they hold
pub record After (c : Code) (w : World) (who : Actor) (e : Event) (h : Held) : Type 0 where
  pub step : IsStep c w who e h.world
  pub held : IsHeldBy c h

-- ---- its machine

pub machine_stands : (c : Code) (w : World) (who : Actor) (x : Ending) (o : Option Machine) (m : Machine) → HasMachine c w who x o
    → o ≡ Some m → Stands c w who m
machine_stands c w who x o m (inl (not, none)) is = let clash = sym none ∙ is in absurd (cc)
machine_stands c w who x o m (inr (n, begun, also, stands)) is = subst (Stands c w who) (some_is n m (sym also ∙ is)) stands

pub has_machine : (c : Code) (w : World) (who : Actor) (x : Ending) (o : Option Machine) → HasMachine c w who x o
    → x ≡ ending.Running → (m : Machine) × (o ≡ Some m)
has_machine c w who x o (inl (not, none)) running = let clash = sym running ∙ not in absurd (cc)
has_machine c w who x o (inr (n, begun, is, stands)) running = (n, is)

-- a machine that stands after what the section exchanged
pub stands_in : (c : Code) (w : World) (who : Actor) (m : Machine) (variables : List Tagged) (exchanges : List Exchange) (st : State)
    → actor_of m ≡ who → outstanding_of m ≡ (log_of w who).waiting → BeginsIn c w who variables → exchanges_of c w who ≡ exchanges
    → IsAt c m variables exchanges st → Stands c w who m
stands_in c w who m variables exchanges st is_who waits begins same at = record {
  actor = is_who;
  waits = waits;
  variables = variables;
  st = st;
  begins = begins;
  at = subst (λ xs. IsAt c m variables xs st) (sym same) at;
}

stops_waiting : (section : List Instr) (p : ℕ) → waits_at (slice_get section p) ≡ true → StopsAt section p
stops_waiting section p waits i q at leads = by_instr i (ap waits_at (sym at) ∙ waits) leads
  where
    by_instr : (i : Instr) → waits_at (Some i) ≡ true → Slides i p q → ⊥
    by_instr (instr.Send n next) waits leads = leads
    by_instr instr.Halt waits leads = leads
    by_instr _ waits leads = absurd (cc)

-- a section whose machine stands somewhere comes to its end there, if anywhere
pub ended_there : (c : Code) (w : World) (who : Actor) (m : Machine) → (stands : Stands c w who m) → HasEnded c w who
    → ComesTo c (actor_of m) stands.variables (exchanges_of c w who) stands.st ended
ended_there c w who m stands (variables, other, begins, comes) = by_place comes_too
  where
    exchanges : List Exchange
    exchanges = exchanges_of c w who

    section : List Instr
    section = instructions_in c (actor_of m)

    comes_too : ComesTo c (actor_of m) stands.variables exchanges other ended
    comes_too =
        let same = begins_once c (exchanges_of c w actor.P) who variables stands.variables begins stands.begins in
        subst (λ a. ComesTo c a stands.variables exchanges other ended) (sym stands.actor)
        (subst (λ vs. ComesTo c who vs exchanges other ended) same comes)

    by_place : ComesTo c (actor_of m) stands.variables exchanges other ended → ComesTo c (actor_of m) stands.variables exchanges stands.st ended
    by_place (p, at_p, met) =
        let halt = ended_at_halt c.templates (slice_get section p) other met in
        let same = one_stop c.templates section stands.at.way.stands (stops_waiting section m.place stands.at.waits) p other at_p
        (stops_waiting section p (ap waits_at halt)) in
        subst (λ st. ComesTo c (actor_of m) stands.variables exchanges st ended) (sym same.1) (p, at_p, met)

-- how a section stands
pub record Ends (c : Code) (w : World) (who : Actor) (x : Ending) : Type 0 where
  pub stands : IsEnding c w who x
  pub begun : x ≢ ending.NotBegun
  pub faultless : fault_in x ≡ None

-- that of a section whose machine awaits no reply is done, or goes on
pub ends_as : (c : Code) (w : World) (who : Actor) (m : Machine) (x : Ending) → Stands c w who m → IsBegun c w who
    → (log_of w who).fault ≡ None → (log_of w who).waiting ≡ None → EndsAs c m x → Ends c w who x
ends_as c w who m x stands begun faultless idle ends = by_end (ends stands.variables exchanges stands.st stands.at)
  where
    exchanges : List Exchange
    exchanges = exchanges_of c w who

    by_end : ((x ≡ ending.Done) × ComesTo c (actor_of m) stands.variables exchanges stands.st ended)
        ⊎ ((x ≡ ending.Running) × (ComesTo c (actor_of m) stands.variables exchanges stands.st ended → ⊥))
        → Ends c w who x
    by_end (inl (is, comes)) =
        let at_end = subst (λ a. ComesTo c a stands.variables exchanges stands.st ended) stands.actor comes in
        let done : IsDone c w who = (faultless, idle, (stands.variables, stands.st, stands.begins, at_end)) in
        subst (Ends c w who) (sym is) (record { stands = (begun, done); begun = λ e. cc; faultless = refl })
    by_end (inr (is, goes_on)) =
        let not_done : IsDone c w who → ⊥ = λ done. goes_on (ended_there c w who m stands done.2) in
        subst (Ends c w who) (sym is) (record { stands = (begun, faultless, not_done); begun = λ e. cc; faultless = refl })
