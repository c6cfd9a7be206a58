-- Logs: right ones with their calls, longer ones, their events, and those of a world with one more note.
use Rattle.std.proofs.Common.{◌≡◌, true, false, Option, Some, None, List, [], ◌∷◌, ◌++◌, All, map, refl, ap, sym, subst, ◌∙◌, ◌<◌, length, slice_get}
use Rattle.std.proofs.{lemmas.List.append-nil, lemmas.List.append_assoc, lemmas.List.Concat.flat_map-append, lemmas.List.Elements.All-nil}
use Rattle.std.proofs.{lemmas.List.Elements.All-cons, lemmas.Option.get_or_from_slice_get, lemmas.Option.slice_get_within}
use Rattle.std.specs.{List.flat_map, Option.option_to_list}
use Rattle.mc_protocol.specs.{Legal.is_fit_for, Sections.section_of, declared.actor.Actor.Actor, declared.event.Event.Event}
use Rattle.mc_protocol.specs.{declared.fault.Fault.Fault, declared.reply.Reply.Reply, declared.sections.Sections.Sections}
use Rattle.mc_protocol.specs.declared.actor.Actor.TheVariants as actor
use Rattle.mc_protocol.specs.declared.event.Event.TheVariants as event
use Rattle.mc_code.specs.Calls.{IsCalling, MakesAll, exchange_of, template_of, no_template}
use Rattle.mc_code.specs.{Code.Code, Runs.Exchange, Runs.met_at, Runs.met_by_send, States.Tagged, States.call, States.send_outcome, declared.instr.Call.Call}
use Rattle.mc_code.proofs.{LookUps.some_is, StandingLemmas.calls_open, StandingLemmas.template_is}
use Rattle.mc_model.specs.Notes.{is_same_section}
use Rattle.mc_core.specs.Logs.{Log, new_log, call_of, calls_in, events_of_pair, begin_of, events_in, exchanges_in, with_call, with_reply, with_fault}
use Rattle.mc_core.specs.{Logs.IsNextCall, Logs.IsRightLog, Worlds.World, Worlds.log_of, Worlds.with_note, Worlds.with_section}

-- ---- right logs

-- one more call with its reply
pub makes_push : (c : Code) (who : Actor) (variables : List Tagged) (before : List Exchange) (pairs : List (Call × Reply)) (made : Call) (reply : Reply)
    → MakesAll c who variables before pairs → IsCalling c who variables (before ++ map (exchange_of c) pairs) made
    → is_fit_for (template_of c made).verb reply ≡ true → MakesAll c who variables before (pairs ++ (made, reply) ∷ [])
makes_push c who variables before [] made reply makes calling fit =
    (subst (λ l. IsCalling c who variables l made) (append-nil before) calling, fit, tt)
makes_push c who variables before ((first, given) ∷ pairs) made reply makes calling fit =
    let x = exchange_of c (first, given) in
    let there = subst (λ l. IsCalling c who variables l made) (sym (append_assoc before (x ∷ []) (map (exchange_of c) pairs))) calling in
    (makes.0, makes.1, makes_push c who variables (before ++ x ∷ []) pairs made reply makes.2 there fit)

pub new_is_right : (c : Code) (who : Actor) (variables : List Tagged) → IsRightLog c who variables new_log
new_is_right c who variables = record { makes = tt; next = tt }

pub call_is_right : (c : Code) (who : Actor) (variables : List Tagged) (log : Log) (made : Call) → IsRightLog c who variables log
    → IsCalling c who variables (exchanges_in c log) made → IsRightLog c who variables (with_call log made)
call_is_right c who variables log made right calling = record { makes = right.makes; next = calling }

-- the call that waits is the next one
pub waiting_is_next : (c : Code) (who : Actor) (variables : List Tagged) (log : Log) (made : Call) → IsRightLog c who variables log
    → log.waiting ≡ Some made → IsCalling c who variables (exchanges_in c log) made
waiting_is_next c who variables log made right waits = subst (IsNextCall c who variables (exchanges_in c log)) waits right.next

pub reply_is_right : (c : Code) (who : Actor) (variables : List Tagged) (log : Log) (made : Call) (reply : Reply)
    → IsRightLog c who variables log
    → log.waiting ≡ Some made → is_fit_for (template_of c made).verb reply ≡ true → IsRightLog c who variables (with_reply log made reply)
reply_is_right c who variables log made reply right waits fit = record {
  makes = makes_push c who variables [] log.answered made reply right.makes (waiting_is_next c who variables log made right waits) fit;
  next = tt;
}

pub fault_is_right : (c : Code) (who : Actor) (variables : List Tagged) (log : Log) (fault : Fault) → IsRightLog c who variables log
    → IsRightLog c who variables (with_fault log fault)
fault_is_right c who variables log fault right = record { makes = right.makes; next = right.next }

-- ---- a call that a section makes

-- its template is there
pub call_inside : (c : Code) (who : Actor) (variables : List Tagged) (exchanges : List Exchange) (made : Call)
    → IsCalling c who variables exchanges made → made.template < length c.templates
call_inside c who variables exchanges made calling =
    let opens = calls_open c who variables exchanges made calling in slice_get_within c.templates made.template opens.1 opens.2

-- and the call is what comes of sending it
pub call_sent : (c : Code) (who : Actor) (variables : List Tagged) (exchanges : List Exchange) (made : Call)
    → (calling : IsCalling c who variables exchanges made)
    → send_outcome (template_of c made) calling.st ≡ call (template_of c made) made.number
call_sent c who variables exchanges made calling =
    let meets = ap (λ o. met_at c.templates o calling.st) (sym calling.sends) ∙ calling.meets in
    let named = template_is (slice_get c.templates made.template) calling.st calling.t made.number meets in
    let same : template_of c made ≡ calling.t = get_or_from_slice_get c.templates made.template calling.t no_template named in
    let sent : send_outcome calling.t calling.st ≡ call calling.t made.number =
    some_is _ _ (ap (λ o. Some (met_by_send o calling.st)) (sym named) ∙ meets) in
    subst (λ t. send_outcome t calling.st ≡ call t made.number) (sym same) sent

-- ---- the calls of a right log

-- what is so of each call that the section makes after the first of these exchanges is so of all
pairs_each : (c : Code) (who : Actor) (variables : List Tagged) (P : Call → Type 0) (before : List Exchange) (pairs : List (Call × Reply))
    (rest : List Call)
    → ((front back : List Exchange) (made : Call) → front ++ back ≡ before ++ map (exchange_of c) pairs
    → IsCalling c who variables front made → P made)
    → MakesAll c who variables before pairs → All P rest → All P (map call_of pairs ++ rest)
pairs_each c who variables P before [] rest each makes others = others
pairs_each c who variables P before ((made, reply) ∷ pairs) rest each makes others =
    let x = exchange_of c (made, reply) in
    All-cons P made (map call_of pairs ++ rest) (each before (x ∷ map (exchange_of c) pairs) made refl makes.0)
    (pairs_each c who variables P (before ++ x ∷ []) pairs rest
    (λ front back made is. each front back made (is ∙ append_assoc before (x ∷ []) (map (exchange_of c) pairs))) makes.2 others)

pub calls_each : (c : Code) (who : Actor) (variables : List Tagged) (P : Call → Type 0) (log : Log)
    → ((front back : List Exchange) (made : Call) → front ++ back ≡ exchanges_in c log → IsCalling c who variables front made → P made)
    → IsRightLog c who variables log → All P (calls_in log)
calls_each c who variables P log each right =
    pairs_each c who variables P [] log.answered (option_to_list log.waiting) each right.makes (by_waiting log.waiting right.next)
  where
    by_waiting : (o : Option Call) → IsNextCall c who variables (exchanges_in c log) o → All P (option_to_list o)
    by_waiting None next = All-nil P
    by_waiting (Some made) next =
        All-cons P made [] (each (exchanges_in c log) [] made (append-nil (exchanges_in c log)) next) (All-nil P)

-- ---- events

pub events_with_call : (log : Log) (made : Call) → log.waiting ≡ None → log.fault ≡ None
    → events_in (with_call log made) ≡ events_in log ++ event.Begin ∷ []
events_with_call log made idle well =
    rw (idle, well) (ap (λ l. l ++ event.Begin ∷ []) (sym (append-nil (flat_map events_of_pair log.answered))))

pub events_with_reply : (log : Log) (made : Call) (reply : Reply) → log.waiting ≡ Some made → log.fault ≡ None
    → events_in (with_reply log made reply) ≡ events_in log ++ event.Reply reply ∷ []
events_with_reply log made reply waits well =
    rw (waits, well) (append-nil (flat_map events_of_pair (log.answered ++ (made, reply) ∷ []))
    ∙ flat_map-append events_of_pair log.answered ((made, reply) ∷ [])
    ∙ sym (append_assoc (flat_map events_of_pair log.answered) (event.Begin ∷ []) (event.Reply reply ∷ [])))

pub events_with_fault : (log : Log) (fault : Fault) → log.fault ≡ None
    → events_in (with_fault log fault) ≡ events_in log ++ event.Fail fault ∷ []
events_with_fault log fault well =
    let answered = flat_map events_of_pair log.answered in
    let begun = map begin_of (option_to_list log.waiting) in
    rw well (sym (append_assoc answered begun (event.Fail fault ∷ []))
    ∙ ap (λ l. (answered ++ l) ++ event.Fail fault ∷ []) (sym (append-nil begun)))

-- ---- the logs of a world with one more note

pub own_log : (w : World) (who : Actor) (e : Event) (log : Log) → log_of (with_note w who e log) who ≡ log
own_log w actor.P e log = refl
own_log w _ e log = refl

-- what is so of a section's new value, and of what the others have, is so of each
pub each_section : {T : Type 0} (P : Actor → T → Type 0) (s : Sections T) (who : Actor) (one : T) → P who one
    → ((o : Actor) → is_same_section o who ≡ false → P o (section_of s o)) → (o : Actor) → P o (section_of (with_section s who one) o)
each_section P s actor.P one own others actor.P = own
each_section P s actor.A one own others actor.A = own
each_section P s actor.B one own others actor.B = own
each_section P s _ one own others o = others o refl
