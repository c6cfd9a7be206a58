-- What is recorded of a fold spells its sections, and keeps the rules of a history.
use Rattle.std.proofs.Common.{◌≡◌, inr, ◌<◌, true, None, List, [], ◌∷◌, ◌++◌, length, map, slice_index_or, refl, ap, sym, subst, ◌∙◌, arith, length-append}
use Rattle.std.proofs.{lemmas.Bool.true_from_ne_false, lemmas.List.append-nil, lemmas.List.length-map, lemmas.List.map-append, lemmas.List.get_or_at}
use Rattle.mc_protocol.specs.{Legal.is_fit_for, declared.actor.Actor.Actor, declared.event.Event.Event, declared.fault.Fault.Fault}
use Rattle.mc_protocol.specs.{declared.limits.TheConstants.REQUESTS_LIMIT, declared.reply.Reply.Reply}
use Rattle.mc_protocol.specs.declared.actor.Actor.TheVariants as actor
use Rattle.mc_protocol.specs.declared.event.Event.TheVariants as event
use Rattle.mc_code.specs.{Calls.template_of, Code.Code, Code.IsCode, declared.instr.Call.Call}
use Rattle.mc_model.specs.Sections.{Sections, section_of, with_sent}
use Rattle.mc_model.specs.{History.is_history, Notes.is_record, Notes.sections_in, declared.sent.Sent.Sent}
use Rattle.mc_model.specs.Next as next
use Rattle.mc_model.specs.Notes as recorded
use Rattle.mc_model.specs.declared.note.Note.TheVariants as note
use Rattle.mc_model.proofs.Answering.{last_of-push, with_last_reply-push}
use Rattle.mc_model.proofs.NoteFaults.{fault_by_sections, record_push, record_parts, nothing_noted, sections_noted}
use Rattle.mc_sound.specs.Faults.{IsSound}
use Rattle.mc_core.specs.declared.step_refusal.StepRefusal.TheVariants as refusal
use Rattle.mc_core.specs.Histories.{begin_count, call_after, no_call, record_of, sent_of, unanswered, sent_in, sections_of}
use Rattle.mc_core.specs.{Laws.IsRecorded, Laws.FoldsAreRecorded, Logs.Log, Logs.call_of, Logs.calls_in, Logs.request_of, Logs.with_call, Logs.with_reply}
use Rattle.mc_core.specs.{Logs.with_fault, Steps.Follows, Steps.IsStep, Worlds.World, Worlds.new_world, Worlds.log_of, Worlds.with_note, Worlds.events_of}
use Rattle.mc_core.proofs.FaultlessRequests.{section_is, idle_length, may_begin, begin_faultless}
use Rattle.mc_core.proofs.NotedEvents.{AreNoted, noted_step, new_is_noted}
use Rattle.mc_core.proofs.{FoldLemmas.kept_along, FoldLemmas.new_is_right, LogLemmas.each_section, LogLemmas.own_log, Recorded.GrowsTo, Recorded.record_grown}
use Rattle.mc_core.proofs.{Recorded.begun_all, Safe.few_calls, StepLemmas.IsRight, StepLemmas.none_is, StepLemmas.step_right}

-- what holds along a fold in sound code
pub record Holds (c : Code) (w : World) : Type 0 where
  pub right : IsRight c w
  pub noted : AreNoted w
  pub recorded : IsRecorded c w

-- ---- the sections and the record of a world with one more note

with_logged : (c : Code) (w : World) (who : Actor) (e : Event) (log : Log)
    → sections_of c (with_note w who e log) ≡ next.with_section (sections_of c w) who (sent_in c log)
with_logged c w actor.P e log = refl
with_logged c w _ e log = refl

with_begun : (s : Sections) (who : Actor) (sent : Sent)
    → with_sent s who sent ≡ next.with_section s who (section_of s who ++ sent ∷ [])
with_begun s actor.P sent = refl
with_begun s _ sent = refl

with_same : (s : Sections) (who : Actor) → next.with_section s who (section_of s who) ≡ s
with_same s actor.P = refl
with_same s _ = refl

grows_by : (w : World) (who : Actor) (e : Event) (log : Log) (more : List Call) → calls_in log ≡ calls_in (log_of w who) ++ more
    → GrowsTo w (with_note w who e log)
grows_by w who e log more is =
    each_section (λ o log. (more : List Call) × (calls_in log ≡ calls_in (log_of w o) ++ more)) w.logs who log (more, is)
    (λ o other. ([], sym (append-nil (calls_in (log_of w o)))))

-- a note without a fault, which the sections have after it
recorded_with : (c : Code) (w v : World) (noted : recorded.Noted) → IsRecorded c w → record_of c v ≡ record_of c w ++ noted ∷ []
    → next.note_fault (sections_of c w) noted ≡ None → next.after_note (sections_of c w) noted ≡ sections_of c v → IsRecorded c v
recorded_with c w v noted before grown none after =
    let faultless = ap (λ s. next.note_fault s noted) before.sections ∙ none in record {
      sections =
          ap sections_in grown ∙ sections_noted (record_of c w) noted before.rules faultless
          ∙ ap (λ s. next.after_note s noted) before.sections ∙ after;
      rules =
          ap is_record grown
          ∙ record_push (record_of c w) noted before.rules (fault_by_sections (record_of c w) noted before.rules ∙ faultless);
    }

-- ---- each event

begin_recorded : (c : Code) (w v : World) (who : Actor) → IsSound c → IsCode c → Holds c w → IsRight c v → IsStep c w who event.Begin v
    → IsRecorded c v
begin_recorded c w v who sound kept holds right step =
    subst (IsRecorded c) (sym follows.2)
    (recorded_with c w (with_note w who event.Begin log) (who, note.Begin (request_of c made)) holds.recorded grown faultless after)
  where
    follows : Follows c w who event.Begin v
    follows = step.follows

    made : Call
    made = follows.0

    log : Log
    log = with_call (log_of w who) made

    idle : (log_of w who).waiting ≡ None
    idle = none_is (log_of w who).waiting (λ other waits. step.free refusal.Waiting (other, waits))

    calls : calls_in log ≡ calls_in (log_of w who) ++ made ∷ []
    calls = rw idle (ap (λ l. l ++ made ∷ []) (sym (append-nil (map call_of (log_of w who).answered))))

    few : length (sent_in c (log_of w who)) < REQUESTS_LIMIT
    few =
        let most = few_calls c v who sound (right who) in
        let same =
        ap (λ v. length (calls_in (log_of v who))) follows.2 ∙ ap (λ log. length (calls_in log)) (own_log w who event.Begin log) in
        let budget = (kept.sections who).requests in
        let all = idle_length c (log_of w who) idle in
        let mapped = length-map (log_of w who).answered call_of in
        let one = length-append (map call_of (log_of w who).answered) (made ∷ []) in
        omega (arith, most, same, budget, all, mapped, one)

    history : is_history (sections_of c w) ≡ true
    history = ap is_history (sym holds.recorded.sections) ∙ (record_parts (record_of c w) holds.recorded.rules).1

    faultless : next.note_fault (sections_of c w) (who, note.Begin (request_of c made)) ≡ None
    faultless =
        let may = may_begin c w who holds.right step.begun (λ done. step.free refusal.Over (inr done)) idle in
        begin_faultless c w who made follows.1.0 sound kept history may few follows.1.1 follows.1.2

    grown : record_of c (with_note w who event.Begin log) ≡ record_of c w ++ (who, note.Begin (request_of c made)) ∷ []
    grown =
        let n = begin_count (events_of who w.notes) in
        let found : call_after (with_note w who event.Begin log) who w.notes ≡ made =
        ap (λ log. slice_index_or (calls_in log) n no_call) (own_log w who event.Begin log)
        ∙ ap (λ l. slice_index_or l n no_call) calls
        ∙ get_or_at (calls_in (log_of w who)) made [] no_call n (sym (begun_all w who holds.noted)) in
        record_grown c w who event.Begin log holds.noted (grows_by w who event.Begin log (made ∷ []) calls)
        ∙ ap (λ made. record_of c w ++ (who, note.Begin (request_of c made)) ∷ []) found

    after : with_sent (sections_of c w) who (unanswered c made) ≡ sections_of c (with_note w who event.Begin log)
    after =
        let answered = map (sent_of c) (log_of w who).answered in
        let own : section_of (sections_of c w) who ≡ answered = section_is c w who ∙ rw idle (append-nil answered) in
        with_begun (sections_of c w) who (unanswered c made)
        ∙ ap (λ l. next.with_section (sections_of c w) who (l ++ unanswered c made ∷ [])) own
        ∙ sym (with_logged c w who event.Begin log)

reply_recorded : (c : Code) (w v : World) (who : Actor) (reply : Reply) → Holds c w → IsStep c w who (event.Reply reply) v → IsRecorded c v
reply_recorded c w v who reply holds step =
    subst (IsRecorded c) (sym follows.2)
    (recorded_with c w (with_note w who (event.Reply reply) log) (who, note.Reply reply) holds.recorded grown faultless after)
  where
    follows : Follows c w who (event.Reply reply) v
    follows = step.follows

    made : Call
    made = follows.0

    log : Log
    log = with_reply (log_of w who) made reply

    answered : List Sent
    answered = map (sent_of c) (log_of w who).answered

    own : section_of (sections_of c w) who ≡ answered ++ unanswered c made ∷ []
    own = section_is c w who ∙ rw follows.1 refl

    faultless : next.reply_fault (next.last_of (section_of (sections_of c w) who)) reply ≡ None
    faultless =
        let fit = true_from_ne_false (is_fit_for (template_of c made).verb reply) (λ wrong. step.free refusal.WrongReply (made, follows.1, wrong)) in
        ap (λ l. next.reply_fault (next.last_of l) reply) own
        ∙ ap (λ o. next.reply_fault o reply) (last_of-push answered (unanswered c made))
        ∙ rw fit refl

    calls : calls_in log ≡ calls_in (log_of w who) ++ []
    calls =
        rw follows.1 (append-nil (map call_of ((log_of w who).answered ++ (made, reply) ∷ []))
        ∙ map-append call_of (log_of w who).answered ((made, reply) ∷ [])
        ∙ sym (append-nil (map call_of (log_of w who).answered ++ made ∷ [])))

    grown : record_of c (with_note w who (event.Reply reply) log) ≡ record_of c w ++ (who, note.Reply reply) ∷ []
    grown = record_grown c w who (event.Reply reply) log holds.noted (grows_by w who (event.Reply reply) log [] calls)

    after : next.after_reply (sections_of c w) who reply ≡ sections_of c (with_note w who (event.Reply reply) log)
    after =
        let sent : sent_in c log ≡ answered ++ sent_of c (made, reply) ∷ [] =
        append-nil (map (sent_of c) log.answered) ∙ map-append (sent_of c) (log_of w who).answered ((made, reply) ∷ []) in
        ap (λ l. next.with_section (sections_of c w) who (next.with_last_reply l reply)) own
        ∙ ap (next.with_section (sections_of c w) who) (with_last_reply-push answered (unanswered c made) reply ∙ sym sent)
        ∙ sym (with_logged c w who (event.Reply reply) log)

fail_recorded : (c : Code) (w v : World) (who : Actor) (fault : Fault) → Holds c w → IsStep c w who (event.Fail fault) v → IsRecorded c v
fail_recorded c w v who fault holds step =
    let log = with_fault (log_of w who) fault in
    let e = event.Fail fault in
    let grown = record_grown c w who e log holds.noted (grows_by w who e log [] (sym (append-nil (calls_in (log_of w who))))) ∙ append-nil (record_of c w) in
    let same = with_logged c w who e log ∙ ap (next.with_section (sections_of c w) who) (sym (section_is c w who)) ∙ with_same (sections_of c w) who in
    subst (IsRecorded c) (sym step.follows) (record {
      sections = ap sections_in grown ∙ holds.recorded.sections ∙ sym same;
      rules = ap is_record grown ∙ holds.recorded.rules;
    })

step_holds : (c : Code) → IsSound c → IsCode c → (w : World) (who : Actor) (e : Event) (v : World) → Holds c w → IsStep c w who e v
    → Holds c v
step_holds c sound kept w who e v holds step = record {
  right = right;
  noted = noted_step c w who e v holds.noted step;
  recorded = by_event e step;
}
  where
    right : IsRight c v
    right = step_right c w who e v holds.right step

    by_event : (e : Event) → IsStep c w who e v → IsRecorded c v
    by_event event.Begin step = begin_recorded c w v who sound kept holds right step
    by_event (event.Reply reply) step = reply_recorded c w v who reply holds step
    by_event (event.Fail fault) step = fail_recorded c w v who fault holds step

pub folds_recorded : FoldsAreRecorded
folds_recorded c events w skipped kept sound fold =
    let start : Holds c new_world = record {
      right = new_is_right c;
      noted = new_is_noted;
      recorded = record { sections = refl; rules = nothing_noted };
    } in
    (kept_along c (Holds c) (step_holds c sound kept) fold start).recorded
