-- What an event does to its own section: to the log that the fields say, how it stands, and where its machine stands.
use Rattle.std.proofs.Common.{◌≡◌, inr, false, Option, Some, None, List, [], ◌∷◌, ◌++◌, length, refl, ap, ap₂, sym, subst, ◌∙◌, arith, if◌then◌else◌}
use Rattle.std.proofs.{lemmas.List.append-nil, lemmas.List.map-append, lemmas.List.Concat.flat_map-append}
use Rattle.std.specs.List.{zip, flat_map}
use Rattle.mc_protocol.specs.{Sections.section_of, declared.actor.Actor.Actor, declared.event.Event.Event, declared.fault.Fault.Fault}
use Rattle.mc_protocol.specs.{declared.reply.Reply.Reply, declared.sections.Sections.Sections}
use Rattle.mc_protocol.specs.declared.event.Event.TheVariants as event
use Rattle.mc_code.specs.{Calls.IsCalling, Calls.exchange_of, Code.Code, Runs.Exchange, States.State, declared.instr.Call.Call}
use Rattle.mc_machine.specs.{Machine.IsAt, declared.machine.Machine.Machine}
use Rattle.mc_model.specs.Notes.{is_same_section}
use Rattle.mc_core.specs.declared.ending.Ending.TheVariants as ending
use Rattle.mc_core.specs.Fields.{reply_in, replies_of, waiting_in, fault_in, world_in, SameCalls, Takes, IsKept}
use Rattle.mc_core.specs.Logs.{Log, exchanges_in, with_call, with_reply, with_fault}
use Rattle.mc_core.specs.Worlds.{World, Noted, log_of, with_note, event_of, events_of, exchanges_of, IsDone, IsEnding}
use Rattle.mc_core.specs.{declared.section.Section.Section, Held.Stands, Steps.Follows}
use Rattle.mc_core.proofs.HeldWorlds.{Goes, Shows, shown, machine_stands, has_machine, stands_in, Ends, ends_as}
use Rattle.mc_core.proofs.{LogLemmas.own_log, NotedEvents.events_push, NotedEvents.own_event, StepLemmas.begins_still, StepLemmas.begun_still}

-- ---- replies with one more note

replies_push : (who : Actor) (notes : List Noted) (noted : Noted)
    → replies_of who (notes ++ noted ∷ []) ≡ replies_of who notes ++ flat_map reply_in (event_of who noted)
replies_push who notes noted = ap (flat_map reply_in) (events_push who notes noted) ∙ flat_map-append reply_in (events_of who notes) (event_of who noted)

pub own_replies : (who : Actor) (notes : List Noted) (e : Event)
    → replies_of who (notes ++ (who, e) ∷ []) ≡ replies_of who notes ++ reply_in e
own_replies who notes e =
    replies_push who notes (who, e)
    ∙ ap (λ l. replies_of who notes ++ flat_map reply_in l) (own_event who e)
    ∙ ap (λ l. replies_of who notes ++ l) (append-nil (reply_in e))

-- the same replies, where the note is one of another section
pub other_replies : (who other : Actor) (notes : List Noted) (e : Event) → is_same_section who other ≡ false
    → replies_of who (notes ++ (other, e) ∷ []) ≡ replies_of who notes
other_replies who other notes e is =
    replies_push who notes (other, e)
    ∙ ap (λ b. replies_of who notes ++ flat_map reply_in (if b then e ∷ [] else [])) is
    ∙ append-nil (replies_of who notes)

-- ---- logs

pub log_is : (answered answered' : List (Call × Reply)) (waiting waiting' : Option Call) (fault fault' : Option Fault)
    → answered ≡ answered' → waiting ≡ waiting' → fault ≡ fault'
    → (let log : Log = record { answered = answered; waiting = waiting; fault = fault } in log)
    ≡ record { answered = answered'; waiting = waiting'; fault = fault' }
log_is answered answered' waiting waiting' fault fault' e f g = cc

zip_push : (calls : List Call) (replies : List Reply) (made : Call) (reply : Reply) → length calls ≡ length replies
    → zip (calls ++ made ∷ []) (replies ++ reply ∷ []) ≡ zip calls replies ++ (made, reply) ∷ []
zip_push [] [] made reply same = refl
zip_push [] (x ∷ replies) made reply same = absurd (omega (arith, same))
zip_push (x ∷ calls) [] made reply same = absurd (omega (arith, same))
zip_push (x ∷ calls) (y ∷ replies) made reply same = ap (λ l. (x, y) ∷ l) (zip_push calls replies made reply (omega (arith, same)))

-- the same calls with the same replies
pub same_answered : (s t : Section) (given replies : List Reply) → SameCalls s t → replies ≡ given
    → zip t.answered.items replies ≡ zip s.answered.items given
same_answered s t given replies calls same = ap₂ (λ xs ys. zip xs ys) calls.0 same

-- ---- the section of the event

-- what is known of it before
pub record Before (c : Code) (w : World) (who : Actor) (notes : List Noted) (s : Section) : Type 0 where
  pub shows : Shows c w notes who s
  pub running : s.ending ≡ ending.Running
  pub kept : IsKept notes who s

pub before_own : (c : Code) (s : Sections Section) (notes : List Noted) (who : Actor) (e : Event) → Goes c s notes who e
    → Before c (world_in s notes) who notes (section_of s who)
before_own c s notes who e may = record { shows = shown c s notes may.fields who; running = may.running; kept = may.fields.kept who }

-- and after
pub record OwnAfter (c : Code) (w : World) (who : Actor) (e : Event) (notes : List Noted) (t : Section) : Type 0 where
  pub log : Log
  pub follows : Follows c w who e (with_note w who e log)
  pub shows : Shows c (with_note w who e log) (notes ++ (who, e) ∷ []) who t

pub own_after : (c : Code) (w : World) (who : Actor) (e : Event) (notes : List Noted) (s t : Section) → Before c w who notes s
    → Takes c s e t → OwnAfter c w who e notes t
own_after c w who event.Begin notes s t before (m, n, is_m, is_n, makes, calls, ends) = record {
  log = log;
  follows = (makes.made, (at.variables, at.begins, calling), refl);
  shows = record {
    logged =
        log_is _ _ _ _ _ _
        (same_answered s t _ _ calls (own_replies who notes event.Begin ∙ append-nil (replies_of who notes))
        ∙ ap (λ (log : Log). log.answered) before.shows.logged)
        (ap waiting_in is_n ∙ makes.outstanding)
        (ap fault_in ends ∙ ap (λ (log : Log). log.fault) before.shows.logged)
        ∙ sym is;
    stands = subst (IsEnding c v who) (sym still) (begun_still c w who event.Begin log running.0, faultless, not_done);
    machine = inr (n, (λ e. let clash : ending.Running ≡ ending.NotBegun = sym still ∙ e in cc), is_n, stands);
  };
}
  where
    at : Stands c w who m
    at = machine_stands c w who s.ending s.machine m before.shows.machine is_m

    log : Log
    log = with_call (log_of w who) makes.made

    v : World
    v = with_note w who event.Begin log

    is : log_of v who ≡ log
    is = own_log w who event.Begin log

    running : IsEnding c w who ending.Running
    running = subst (IsEnding c w who) before.running before.shows.stands

    still : t.ending ≡ ending.Running
    still = ends ∙ before.running

    there : IsAt c n at.variables (exchanges_of c w who) at.st
    there = makes.stands at.variables (exchanges_of c w who) at.st at.at

    calling : IsCalling c who at.variables (exchanges_of c w who) makes.made
    calling =
        subst (λ a. IsCalling c a at.variables (exchanges_of c w who) makes.made) (makes.actor ∙ at.actor)
        (there.outstanding makes.made makes.outstanding)

    stands : Stands c v who n
    stands =
        stands_in c v who n at.variables (exchanges_of c w who) at.st (makes.actor ∙ at.actor)
        (makes.outstanding ∙ sym (ap (λ (log : Log). log.waiting) is)) (begins_still c w who event.Begin log at.variables at.begins)
        (ap (exchanges_in c) is) there

    faultless : (log_of v who).fault ≡ None
    faultless = ap (λ (log : Log). log.fault) is ∙ running.1

    not_done : IsDone c v who → ⊥
    not_done done = let clash = sym done.1 ∙ ap (λ (log : Log). log.waiting) is in absurd (cc)
own_after c w who (event.Reply reply) notes s t before (m, n, made, is_m, is_n, takes, calls, room, ends) = record {
  log = log;
  follows = (made, sym at.waits ∙ takes.waits, refl);
  shows = record {
    logged =
        log_is _ _ _ _ _ _
        (ap₂ (λ xs ys. zip xs ys) calls (own_replies who notes e)
        ∙ zip_push s.answered.items (replies_of who notes) made reply before.kept.replies
        ∙ ap (λ (log : Log). log.answered ++ (made, reply) ∷ []) before.shows.logged)
        (ap waiting_in is_n ∙ takes.idle)
        (ended.faultless ∙ sym running.1)
        ∙ sym is;
    stands = ended.stands;
    machine = inr (n, ended.begun, is_n, stands);
  };
}
  where
    at : Stands c w who m
    at = machine_stands c w who s.ending s.machine m before.shows.machine is_m

    e : Event
    e = event.Reply reply

    log : Log
    log = with_reply (log_of w who) made reply

    v : World
    v = with_note w who e log

    is : log_of v who ≡ log
    is = own_log w who e log

    running : IsEnding c w who ending.Running
    running = subst (IsEnding c w who) before.running before.shows.stands

    after : List Exchange
    after = exchanges_of c w who ++ exchange_of c (made, reply) ∷ []

    next : (st : State) × IsAt c n at.variables after st
    next = takes.answered made at.variables (exchanges_of c w who) at.st takes.waits at.at

    stands : Stands c v who n
    stands =
        stands_in c v who n at.variables after next.0 (takes.actor ∙ at.actor)
        (takes.idle ∙ sym (ap (λ (log : Log). log.waiting) is)) (begins_still c w who e log at.variables at.begins)
        (ap (exchanges_in c) is ∙ map-append (exchange_of c) (log_of w who).answered ((made, reply) ∷ [])) next.1

    ended : Ends c v who t.ending
    ended =
        ends_as c v who n t.ending stands (begun_still c w who e log running.0) (ap (λ (log : Log). log.fault) is ∙ running.1)
        (ap (λ (log : Log). log.waiting) is) ends
own_after c w who (event.Fail fault) notes s t before (machine, calls, ends) = record {
  log = log;
  follows = refl;
  shows = record {
    logged =
        log_is _ _ _ _ _ _
        (same_answered s t _ _ calls (own_replies who notes e ∙ append-nil (replies_of who notes))
        ∙ ap (λ (log : Log). log.answered) before.shows.logged)
        (ap waiting_in machine ∙ ap (λ (log : Log). log.waiting) before.shows.logged)
        (ap fault_in ends)
        ∙ sym is;
    stands = subst (IsEnding c v who) (sym ends) (begun_still c w who e log running.0, ap (λ (log : Log). log.fault) is);
    machine = inr (has.0, (λ e. let clash : ending.Failed fault ≡ ending.NotBegun = sym ends ∙ e in cc), machine ∙ has.1, stands);
  };
}
  where
    has : (m : Machine) × (s.machine ≡ Some m)
    has = has_machine c w who s.ending s.machine before.shows.machine before.running

    at : Stands c w who has.0
    at = machine_stands c w who s.ending s.machine has.0 before.shows.machine has.1

    e : Event
    e = event.Fail fault

    log : Log
    log = with_fault (log_of w who) fault

    v : World
    v = with_note w who e log

    is : log_of v who ≡ log
    is = own_log w who e log

    running : IsEnding c w who ending.Running
    running = subst (IsEnding c w who) before.running before.shows.stands

    stands : Stands c v who has.0
    stands =
        stands_in c v who has.0 at.variables (exchanges_of c w who) at.st at.actor (at.waits ∙ sym (ap (λ (log : Log). log.waiting) is))
        (begins_still c w who e log at.variables at.begins) (ap (exchanges_in c) is) at.at
