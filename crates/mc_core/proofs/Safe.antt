-- A fold in sound code is safe, and within its room.
use Rattle.std.proofs.Common.{◌≡◌, ◌⊎◌, inl, inr, ◌<◌, ◌≤◌, ◌^◌, Bool, true, false, if◌then◌else◌, List, [], ◌∷◌, ◌++◌, All, length, map, slice_index_or}
use Rattle.std.proofs.{Common.refl, Common.ap, Common.sym, Common.subst, Common.arith, lemmas.List.Elements.All-head, lemmas.List.Elements.All-tail}
use Rattle.std.specs.{List.flat_map, Option.option_to_list}
use Rattle.mc_protocol.specs.{declared.actor.Actor.Actor, declared.event.Event.Event, declared.limits.TheConstants.REQUESTS_LIMIT}
use Rattle.mc_protocol.specs.declared.reply.Reply.{Reply}
use Rattle.mc_protocol.specs.declared.actor.Actor.TheVariants as actor
use Rattle.mc_protocol.specs.declared.event.Event.TheVariants as event
use Rattle.mc_code.specs.{Calls.IsCalling, Calls.exchange_of, Calls.template_of, Code.Code, Code.section_of, Runs.Exchange, Standing.BeginsAfter}
use Rattle.mc_code.specs.{Standing.Leaves, States.Tagged, States.nothing, States.initial_state, declared.instr.Call.Call}
use Rattle.mc_code.proofs.MadeCalls.{calls_stand}
use Rattle.mc_model.specs.Notes.{is_same_section}
use Rattle.mc_sound.specs.{Costs.cost_along, Faults.IsSound}
use Rattle.mc_sound.specs.declared.measure.Measure.TheVariants as measure
use Rattle.mc_sound.proofs.Right.{sound_right}
use Rattle.mc_core.specs.Safety.{IsSmallEvent, IsSmallNote, AreSmall, IsRightRun, RanRight, bytes_of_all}
use Rattle.mc_core.specs.{Laws.FoldsAreSafe, Laws.FoldsAreWithinRoom, Logs.Log, Logs.calls_in, Logs.events_of_pair, Logs.begin_of, Logs.exchanges_in}
use Rattle.mc_core.specs.{Logs.IsRightLog, Worlds.World, Worlds.Noted, Worlds.log_of, Worlds.events_of, Worlds.exchanges_of, Worlds.IsBegun}
use Rattle.mc_core.proofs.NotedEvents.{AreNoted, fold_noted, few_notes, silent}
use Rattle.mc_core.proofs.SmallNumbers.{IsSmallState, AreSmallExchanges, run_small, initial_small, MayHave, text_within, sent_number}
use Rattle.mc_core.proofs.StepLemmas.{IsRight, IsRightIn, MayBeRight, begun_is_right}
use Rattle.mc_core.proofs.{Sending.admitted, Sending.log_within, Deciding.begun_or_not, FoldLemmas.fold_right, LogLemmas.call_sent, LogLemmas.calls_each}

-- ---- small replies

abbrev AreSmallEvents : List Event → Type 0
AreSmallEvents [] = Unit {0}
AreSmallEvents (e ∷ events) = IsSmallEvent e × AreSmallEvents events

-- those of a section among all
small_events : (who : Actor) (notes : List Noted) → AreSmall notes → AreSmallEvents (events_of who notes)
small_events who [] small = tt
small_events who ((other, e) ∷ notes) small =
    by_section (is_same_section who other) (All-head IsSmallNote (other, e) notes small)
    (small_events who notes (All-tail IsSmallNote (other, e) notes small))
  where
    by_section : (b : Bool) → IsSmallEvent e → AreSmallEvents (events_of who notes)
        → AreSmallEvents ((if b then e ∷ [] else []) ++ events_of who notes)
    by_section true here rest = (here, rest)
    by_section false here rest = rest

small_pairs : (c : Code) (pairs : List (Call × Reply)) (rest : List Event) → AreSmallEvents (flat_map events_of_pair pairs ++ rest)
    → AreSmallExchanges (map (exchange_of c) pairs)
small_pairs c [] rest small = tt
small_pairs c ((made, reply) ∷ pairs) rest small = (small.1.0, small_pairs c pairs rest small.1.1)

small_exchanges : (c : Code) (w : World) (who : Actor) → AreNoted w → AreSmall w.notes → AreSmallExchanges (exchanges_of c w who)
small_exchanges c w who noted small =
    let log = log_of w who in
    small_pairs c log.answered (map begin_of (option_to_list log.waiting) ++ map event.Fail (option_to_list log.fault))
    (subst AreSmallEvents (noted who) (small_events who w.notes small))

-- ---- small variables

small_leaves : (c : Code) (before : List Exchange) (variables : List Tagged) → AreSmallExchanges before → Leaves c before variables
    → IsSmallState (initial_state variables)
small_leaves c before variables small (st, (p, stands, met), is) =
    let end = run_small stands (initial_small c) small in
    record { variables = λ v. subst (λ vs. (slice_index_or vs v nothing).1 < 2 ^ 64) (sym is) (end.variables v); last = omega arith }

small_start : (c : Code) (before : List Exchange) (who : Actor) (variables : List Tagged) → AreSmallExchanges before
    → BeginsAfter c before who variables → IsSmallState (initial_state variables)
small_start c before actor.P variables small begins = subst (λ vs. IsSmallState (initial_state vs)) (sym begins) (initial_small c)
small_start c before _ variables small begins = small_leaves c before variables small begins

-- ---- numbers of calls

-- the call has a number that its template allows
abbrev IsFit : Code → Call → Type 0
IsFit c made = MayHave (template_of c made).argument made.number

calling_fit : (c : Code) (who : Actor) (variables : List Tagged) (exchanges : List Exchange) (made : Call)
    → IsSmallState (initial_state variables) → AreSmallExchanges exchanges → IsCalling c who variables exchanges made
    → MayHave (template_of c made).argument made.number
calling_fit c who variables exchanges made start small calling =
    let t = template_of c made in
    let st = run_small calling.stands start small in
    sent_number t t t.argument calling.st.variables made.number st.variables (call_sent c who variables exchanges made calling)

small_front : (xs ys : List Exchange) → AreSmallExchanges (xs ++ ys) → AreSmallExchanges xs
small_front [] ys small = tt
small_front (x ∷ xs) ys small = (small.0, small_front xs ys small.1)

calls_fit : (c : Code) (who : Actor) (variables : List Tagged) (log : Log) → IsSmallState (initial_state variables)
    → AreSmallExchanges (exchanges_in c log) → IsRightLog c who variables log → All (IsFit c) (calls_in log)
calls_fit c who variables log start small right =
    calls_each c who variables (IsFit c) log (λ front back made is.
    calling_fit c who variables front made start (small_front front back (subst AreSmallExchanges (sym is) small))) right

-- ---- budgets

requests_counted : (c : Code) (calls : List Call) → cost_along c measure.Requests (map (template_of c) calls) ≡ length calls
requests_counted c [] = refl
requests_counted c (made ∷ calls) = let e = requests_counted c calls in omega (arith, e)

bytes_counted : (c : Code) (calls : List Call) → All (IsFit c) calls
    → bytes_of_all c calls ≤ cost_along c measure.Bytes (map (template_of c) calls)
bytes_counted c [] fit = omega arith
bytes_counted c (made ∷ calls) fit =
    let here = text_within (template_of c made) (slice_index_or c.keys (template_of c made).key []) made.number (All-head (IsFit c) made calls fit) in
    let rest = bytes_counted c calls (All-tail (IsFit c) made calls fit) in
    omega (arith, here, rest)

pub few_calls : (c : Code) (w : World) (who : Actor) → IsSound c → MayBeRight c w who
    → length (calls_in (log_of w who)) ≤ (section_of c who).budget.requests
few_calls c w who sound (inl new) = let none = ap (λ log. length (calls_in log)) new in omega (arith, none)
few_calls c w who sound (inr right) =
    let within = log_within c measure.Requests who right.variables (log_of w who) sound right.right in
    let counted = requests_counted c (calls_in (log_of w who)) in
    omega (arith, within, counted)

few_bytes : (c : Code) (w : World) (who : Actor) → IsSound c → AreNoted w → AreSmall w.notes → MayBeRight c w who
    → bytes_of_all c (calls_in (log_of w who)) ≤ (section_of c who).budget.bytes
few_bytes c w who sound noted small (inl new) =
    let none = ap (λ log. bytes_of_all c (calls_in log)) new in omega (arith, none)
few_bytes c w who sound noted small (inr right) =
    let start = small_start c (exchanges_of c w actor.P) who right.variables (small_exchanges c w actor.P noted small) right.begins in
    let fit = calls_fit c who right.variables (log_of w who) start (small_exchanges c w who noted small) right.right in
    let within = log_within c measure.Bytes who right.variables (log_of w who) sound right.right in
    let counted = bytes_counted c (calls_in (log_of w who)) fit in
    omega (arith, within, counted)

-- ---- runs

-- the run of a section that has begun
run_right : (c : Code) (w : World) (who : Actor) → IsSound c → (right : IsRightIn c w who) → (variables : List Tagged) × IsRightRun c w who variables
run_right c w who sound right =
    let stands = calls_stand c who right.variables (log_of w who).answered right.right.makes in (
      right.variables,
      record {
        begins = right.begins;
        makes = right.right;
        place = stands.0;
        st = stands.1;
        stands = stands.2;
        right = sound_right c who right.variables (exchanges_of c w who) sound (exchanges_of c w actor.P, right.begins);
      },
    )

pub ran_right : (c : Code) (w : World) (who : Actor) → IsSound c → IsRight c w → RanRight c w who
ran_right c w who sound right = by_begun (right who) (begun_or_not c w who sound (right actor.P))
  where
    by_begun : MayBeRight c w who → IsBegun c w who ⊎ (IsBegun c w who → ⊥) → RanRight c w who
    by_begun some (inl begun) = inr (run_right c w who sound (begun_is_right c w who some begun))
    by_begun (inl new) (inr not) = inl (not, new)
    by_begun (inr some) (inr not) = absurd (not some.begun)

-- ---- all of it

pub folds_safe : FoldsAreSafe
folds_safe c events w skipped sound fold small =
    let right = fold_right c fold in
    let noted = fold_noted c fold in record {
      noted = noted;
      runs = λ who. ran_right c w who sound right;
      admitted = admitted c w sound right;
      budgets = λ who. record { requests = few_calls c w who sound (right who); bytes = few_bytes c w who sound noted small (right who) };
      silent = λ who. silent w who noted;
    }

pub folds_within_room : FoldsAreWithinRoom
folds_within_room c events w skipped kept sound fold =
    let right = fold_right c fold in
    let few : (who : Actor) → length (calls_in (log_of w who)) ≤ REQUESTS_LIMIT =
    λ who. let calls = few_calls c w who sound (right who) in let most = (kept.sections who).requests in omega (arith, calls, most) in
    record { calls = few; notes = few_notes w REQUESTS_LIMIT (fold_noted c fold) few }
