-- The notes of a history are a timeline.
use Rattle.std.proofs.Common.{◌≡◌, ◌≤◌, inl, ℕ, Bool, true, false, cond, not, ◌&&◌, ◌||◌, eqb, eq-eqb, Some, None}
use Rattle.std.proofs.Common.{List, [], ◌∷◌, ◌++◌, append_assoc, map, filter, length, refl, ap, subst, sym, ◌∙◌, arith, nat_le, if◌then◌else◌}
use Rattle.std.proofs.lemmas.Bool.{and_parts, lt-leb, leb-true}
use Rattle.std.proofs.{lemmas.List.length-map, lemmas.List.map-append, lemmas.List.Elements.filter-append, lemmas.Slice.Eq.bytes_eq-Decides}
use Rattle.std.specs.Str.{bytes_eq}
use Rattle.mc_protocol.specs.{declared.actor.Actor.Actor, declared.request.Request.Request, declared.reply.Reply.Reply, Legal.is_fit}
use Rattle.mc_protocol.specs.declared.actor.Actor.TheVariants as actor
use Rattle.mc_model.specs.declared.note.Note.TheVariants as note
use Rattle.mc_model.specs.declared.rules.HistoryKind.TheVariants as kind
use Rattle.mc_model.specs.Notes.{Noted, is_record, is_out_of_order, is_same_section, are_in_order, requests_in, replies_in, sections_in}
use Rattle.mc_model.specs.{declared.sent.Sent.Sent, Types.REQUESTS_LIMIT, Sections.Sections, Sections.section_of}
use Rattle.mc_model.specs.History as model
use Rattle.mc_model.specs.Next as next
use Rattle.mc_model.proofs.NoteFaults.{record_parts, balanced, order-push, fault_by_sections, no_fault_within, record_shorter}
use Rattle.mc_model.proofs.Noting.{section_in, waiting_last, waits_for_one}
use Rattle.mc_model.proofs.{Answering.last_of-push, Faults.rules_of, Faults.first_failed, Faults.fault_by_tests, Limits.short_parts}
use Rattle.mc_timeline.specs.declared.limits.TheConstants.{CLIENTS_LIMIT, OPERATIONS_LIMIT, TIMELINE_KEYS_LIMIT}
use Rattle.mc_timeline.specs.{Members.IsIn, Operations.Answer, Operations.Operation, Operations.on_key, Timelines.ClientNote, Timelines.operations_of}
use Rattle.mc_timeline.specs.Rules as rule
use Rattle.mc_timeline.proofs.{Answered.on_key_answered, Answered.same_client, Following.keep_more, Members.among_kept, Members.kept_among}
use Rattle.mc_timeline.proofs.{MoreNotes.unanswered, MoreNotes.answered, MoreNotes.begun, MoreNotes.replied, TimelineOrder.are_ordered}
use Rattle.mc_timeline_of.specs.SameNotes.{client_of, of_clients, HistoriesAreTimelines}
use Rattle.mc_timeline_of.proofs.ClientQueues.{queue, queue_is, queues_hold_all, in_turn, takes_turns, same_actor}
use Rattle.mc_timeline_of.proofs.SectionQueues.{sent_is}
use Rattle.mc_timeline_of.proofs.Tests.{waiting_is, none_waits, answered_in, reply_fits, no_key, few_keys, seen_in_all}

-- ---- the tests of a request

passes : (words full turn cleared seen rightly : Bool) → first_failed words full turn cleared seen rightly ≡ None
    → (words ≡ true) × (turn ≡ true) × (cleared ≡ true) × (seen ≡ true)
passes true true turn cleared seen rightly e = absurd (cc)
passes true false true true true rightly e = (refl, refl, refl, refl)
passes true false true true false rightly e = absurd (cc)
passes true false true false seen rightly e = absurd (cc)
passes true false false cleared seen rightly e = absurd (cc)
passes false full turn cleared seen rightly e = absurd (cc)

no_fault : (words full free follows seen : Bool) → words ≡ true → full ≡ false → free ≡ true → follows ≡ true → seen ≡ true
    → (if not words then Some kind.Line
    else (if full then Some kind.TooMany
    else (if not free then Some kind.Order
    else (if not follows then Some kind.NotCleared
    else (if not seen then Some kind.UnseenNumber else None)))))
    ≡ None
no_fault words full free follows seen w f u m s = rw (w, f, u, m, s) refl

-- where a request may come, P waits for nothing, nor does its section
may_come_parts : (s : Sections) (who : Actor) → next.may_come s who ≡ true
    → (model.are_answered s.p ≡ true) × (model.are_answered (section_of s who) ≡ true)
may_come_parts s actor.P e =
    let parts = and_parts (model.is_none_sent s.a && model.is_none_sent s.b) (model.are_answered s.p) e in
    (parts.1, parts.1)
may_come_parts s actor.A e = and_parts (model.are_answered s.p) (model.are_answered s.a) e
may_come_parts s actor.B e = and_parts (model.are_answered s.p) (model.are_answered s.b) e

is_low : (who : Actor) → nat_le CLIENTS_LIMIT (client_of who) ≡ false
is_low actor.P = refl
is_low actor.A = refl
is_low actor.B = refl

awaited : (all late : Bool) → not (not (not all) || late) ≡ true → all ≡ false
awaited true late e = absurd (cc)
awaited false late e = refl

-- only the last request of a section is unanswered
opens : (s : Sections) (who : Actor) → model.is_in_turn s ≡ true → model.is_open_at_the_end (section_of s who) ≡ true
opens s who turn =
    let all = and_parts (model.is_open_at_the_end s.p && model.is_open_at_the_end s.a && model.is_open_at_the_end s.b)
    (model.are_answered s.p || model.has_no_branch s) turn in
    let both = and_parts (model.is_open_at_the_end s.p && model.is_open_at_the_end s.a) (model.is_open_at_the_end s.b) all.0 in
    let first = and_parts (model.is_open_at_the_end s.p) (model.is_open_at_the_end s.a) both.0 in
    by who first.0 first.1 both.1
  where
    by : (who : Actor) → model.is_open_at_the_end s.p ≡ true → model.is_open_at_the_end s.a ≡ true → model.is_open_at_the_end s.b ≡ true
        → model.is_open_at_the_end (section_of s who) ≡ true
    by actor.P p a b = p
    by actor.A p a b = a
    by actor.B p a b = b

fit : (fits : Bool) → (if fits then None else Some kind.WrongReply) ≡ None → fits ≡ true
fit true e = refl
fit false e = absurd (cc)

-- ---- the first operation on a key is P's

abbrev IsOfP : List Operation → Type 0
IsOfP [] = Unit {0}
IsOfP (x ∷ others) = x.client ≡ 0

abbrev BeginsWithP : List ClientNote → Type 0
BeginsWithP notes = (key : List ℕ) → IsOfP (on_key key (operations_of notes))

-- ---- one more note

module _ (earlier : List Noted) (is_history : is_record earlier ≡ true) (timeline : rule.IsTimeline (of_clients earlier)) where
  abbrev told : List Operation
  told = operations_of (of_clients earlier)

  abbrev s : Sections
  s = sections_in earlier

  turns : (section : Actor) → takes_turns section false earlier ≡ true
  turns section = in_turn section (λ client. false) earlier (are_ordered (of_clients earlier) timeline)

  own : (section : Actor) → map rule.sent_of (filter (λ x. eqb x.client (client_of section)) told) ≡ section_of s section
  own section = ap (map rule.sent_of) (queue_is section 0 earlier) ∙ sent_is section earlier (turns section)

  -- ---- a request

  few : length told ≤ 72
  few =
      let short = short_parts s (rules_of s (record_parts earlier is_history).1).few in
      let p = leb-true (length s.p) REQUESTS_LIMIT short.0 in
      let a = leb-true (length s.a) REQUESTS_LIMIT short.1 in
      let b = leb-true (length s.b) REQUESTS_LIMIT short.2 in
      let all = queues_hold_all 0 earlier in
      let lp = count actor.P in
      let la = count actor.A in
      let lb = count actor.B in
      omega arith
    where
      count : (section : Actor) → length (queue section 0 earlier) ≡ length (section_of s section)
      count section = sym (length-map (queue section 0 earlier) rule.sent_of) ∙ ap length (sent_is section earlier (turns section))

  has_room : (who : Actor) (request : Request) → rule.is_full told (client_of who) request ≡ false
  has_room who request =
      let lots = few in
      let keys = few_keys told in
      rw (is_low who, lt-leb OPERATIONS_LIMIT (length told) (omega arith), lt-leb TIMELINE_KEYS_LIMIT (length (rule.keys_of told)) (omega arith)) refl

  is_free : (who : Actor) → model.are_answered (section_of s who) ≡ true → rule.waiting_of (client_of who) told ≡ []
  is_free who all =
      waiting_is (client_of who) told ∙ none_waits (filter (λ x. eqb x.client (client_of who)) told) (ap model.are_answered (own who) ∙ all)

  -- a key of which nothing is told is one that P begins to clear
  is_first : (who : Actor) (request : Request) → next.clears s who (record { request = request; reply = None }) ≡ true
      → on_key request.key told ≡ [] → (is_same_section actor.P who ≡ true) × (model.is_delete request.verb ≡ true)
  is_first who request clears none =
      let not_there = sym (ap (model.has_key request.key) (own actor.P)) ∙ no_key (λ x. eqb x.client 0) request.key told none in
      and_parts (is_same_section actor.P who) (model.is_delete request.verb)
      (by (model.has_key request.key s.p) (is_same_section actor.P who && model.is_delete request.verb) not_there clears)
    where
      by : (has rest : Bool) → has ≡ false → (has || rest) ≡ true → rest ≡ true
      by true rest e f = absurd (cc)
      by false rest e f = f

  follows : (who : Actor) (request : Request) → BeginsWithP (of_clients earlier)
      → next.clears s who (record { request = request; reply = None }) ≡ true → model.are_answered s.p ≡ true
      → rule.may_follow (on_key request.key told) request.verb ≡ true
  follows who request first clears all =
      by (on_key request.key told) refl (first request.key) (λ x h. (among_kept (λ y. bytes_eq y.request.key request.key) x told h).1)
    where
      by : (xs : List Operation) → on_key request.key told ≡ xs → IsOfP xs → ((x : Operation) → IsIn x (on_key request.key told) → IsIn x told)
          → rule.may_follow xs request.verb ≡ true
      by [] e of_p among = rw (is_first who request clears e).1 refl
      by (x ∷ xs) e of_p among =
          let here : IsIn x told = among x (subst (IsIn x) (sym e) (inl refl)) in
          answered_in (filter (λ y. eqb y.client 0) told) x (ap model.are_answered (own actor.P) ∙ all)
          (kept_among (λ y. eqb y.client 0) x told (eq-eqb x.client 0 of_p) here)

  is_seen : (who : Actor) (request : Request) → next.number_is_seen s who (record { request = request; reply = None }) ≡ true
      → rule.is_number_seen told request ≡ true
  is_seen who request seen = by (model.is_seen s.p asked) refl seen
    where
      asked : Sent
      asked = record { request = request; reply = None }

      of_section : (section : Actor) → model.is_seen (section_of s section) asked ≡ true → rule.is_number_seen told request ≡ true
      of_section section e =
          seen_in_all (λ x. eqb x.client (client_of section)) told asked (ap (λ l. model.is_seen l asked) (own section) ∙ e)

      by : (b : Bool) → model.is_seen s.p asked ≡ b → (b || model.is_seen (section_of s who) asked) ≡ true → rule.is_number_seen told request ≡ true
      by true e f = of_section actor.P e
      by false e f = of_section who f

  begin_keeps : (who : Actor) (request : Request) → BeginsWithP (of_clients earlier) → is_record (earlier ++ (who, note.Begin request) ∷ []) ≡ true
      → (rule.begin_fault told (client_of who) request ≡ None) × (next.clears s who (record { request = request; reply = None }) ≡ true)
  begin_keeps who request first more =
      let free = sym (fault_by_sections earlier (who, note.Begin request) is_history) ∙ no_fault_within earlier (who, note.Begin request) more in
      let sent : Sent = record { request = request; reply = None } in
      let tests = passes _ _ _ _ _ (model.is_answered_rightly sent) (sym (fault_by_tests s who sent (record_parts earlier is_history).1) ∙ free) in
      let may = may_come_parts s who tests.1 in (
        no_fault (model.has_words request) (rule.is_full told (client_of who) request) (rule.is_unused (rule.waiting_of (client_of who) told))
            (rule.may_follow (on_key request.key told) request.verb) (rule.is_number_seen told request) tests.0 (has_room who request)
            (ap rule.is_unused (is_free who may.1)) (follows who request first tests.2 may.0) (is_seen who request tests.3),
        tests.2,
      )

  begin_with_p : (who : Actor) (request : Request) → BeginsWithP (of_clients earlier)
      → next.clears s who (record { request = request; reply = None }) ≡ true
      → BeginsWithP (of_clients earlier ++ (client_of who, note.Begin request) ∷ [])
  begin_with_p who request first clears key =
      subst (λ l. IsOfP (on_key key l)) (sym (begun (of_clients earlier) (client_of who) request))
      (subst IsOfP (sym (filter-append (λ x. bytes_eq x.request.key key) told (new ∷ [])))
      (by (on_key key told) refl (first key) (bytes_eq request.key key) refl))
    where
      new : Operation
      new = unanswered (client_of who) request (length (of_clients earlier))

      by : (xs : List Operation) → on_key key told ≡ xs → IsOfP xs → (b : Bool) → bytes_eq request.key key ≡ b → IsOfP (xs ++ cond b (new ∷ []) [])
      by (x ∷ xs) e of_p b is = of_p
      by [] e of_p false is = tt
      by [] e of_p true is =
          let same : request.key ≡ key = (bytes_eq-Decides request.key key).0 is in
          let p = same_actor actor.P who (is_first who request clears (ap (λ k. on_key k told) same ∙ e)).0 in
          ap client_of p

  -- ---- a reply

  reply_keeps : (who : Actor) (reply : Reply) → is_record (earlier ++ (who, note.Reply reply) ∷ []) ≡ true
      → rule.reply_fault (rule.waiting_of (client_of who) told) reply ≡ None
  reply_keeps who reply more =
      let free = sym (fault_by_sections earlier (who, note.Reply reply) is_history) ∙ no_fault_within earlier (who, note.Reply reply) more in
      let order = and_parts (are_in_order [] earlier) (not (is_out_of_order s (who, note.Reply reply)))
      (sym (order-push [] earlier (who, note.Reply reply)) ∙ (record_parts (earlier ++ (who, note.Reply reply) ∷ []) more).0) in
      let some = awaited (model.are_answered (section_of s who)) (model.comes_late s who) order.1 in
      let one = waits_for_one earlier who (balanced earlier who is_history) some in
      let (front, request, e) = waiting_last (requests_in who earlier) (replies_in who earlier) one in
      let at : section_of s who ≡ front ++ record { request = request; reply = None } ∷ [] = section_in who earlier ∙ e in
      let last : next.last_of (section_of s who) ≡ Some (record { request = request; reply = None }) =
      ap next.last_of at ∙ last_of-push front (record { request = request; reply = None }) in
      let fits = fit (is_fit request reply) (sym (ap (λ o. next.reply_fault o reply) last) ∙ free) in
      let open_end = ap model.is_open_at_the_end (own who) ∙ opens s who (rules_of s (record_parts earlier is_history).1).turn in
      subst (λ l. rule.reply_fault l reply ≡ None) (sym (waiting_is (client_of who) told))
      (reply_fits (filter (λ x. eqb x.client (client_of who)) told) front request reply open_end (own who ∙ at) fits)

  reply_with_p : (who : Actor) (reply : Reply) → BeginsWithP (of_clients earlier)
      → BeginsWithP (of_clients earlier ++ (client_of who, note.Reply reply) ∷ [])
  reply_with_p who reply first key =
      subst (λ l. IsOfP (on_key key l)) (sym (replied (of_clients earlier) (client_of who) reply))
      (subst IsOfP (sym (on_key_answered (client_of who) answer key told)) (by (on_key key told) (first key)))
    where
      answer : Answer
      answer = record { time = length (of_clients earlier); reply = reply }

      by : (xs : List Operation) → IsOfP xs → IsOfP (map (answered (client_of who) answer) xs)
      by [] of_p = tt
      by (x ∷ xs) of_p = same_client (client_of who) answer x ∙ of_p

-- ---- all notes

keeps_from : (earlier notes : List Noted) → is_record (earlier ++ notes) ≡ true → rule.IsTimeline (of_clients earlier)
    → BeginsWithP (of_clients earlier) → rule.KeepRules (of_clients earlier) (of_clients notes)
keeps_from earlier [] all timeline first = tt
keeps_from earlier (noted ∷ notes) all timeline first = by noted all (keeps_from (earlier ++ noted ∷ []) notes)
  where
    Then : Noted → Type 0
    Then noted = is_record ((earlier ++ noted ∷ []) ++ notes) ≡ true → rule.IsTimeline (of_clients (earlier ++ noted ∷ []))
        → BeginsWithP (of_clients (earlier ++ noted ∷ [])) → rule.KeepRules (of_clients (earlier ++ noted ∷ [])) (of_clients notes)

    is_history : (noted : Noted) → is_record (earlier ++ noted ∷ notes) ≡ true → is_record earlier ≡ true
    is_history noted = record_shorter earlier (noted ∷ notes)

    more : (noted : Noted) → is_record (earlier ++ noted ∷ notes) ≡ true → is_record ((earlier ++ noted ∷ []) ++ notes) ≡ true
    more noted all = subst (λ l. is_record l ≡ true) (sym (append_assoc earlier (noted ∷ []) notes)) all

    one_more : (noted : Noted) → is_record (earlier ++ noted ∷ notes) ≡ true → is_record (earlier ++ noted ∷ []) ≡ true
    one_more noted all = record_shorter (earlier ++ noted ∷ []) notes (more noted all)

    clients : (noted : Noted) → of_clients (earlier ++ noted ∷ []) ≡ of_clients earlier ++ (client_of noted.0, noted.1) ∷ []
    clients noted = map-append (λ (n : Noted). (client_of n.0, n.1)) earlier (noted ∷ [])

    go_on : (noted : Noted) → is_record (earlier ++ noted ∷ notes) ≡ true → Then noted
        → rule.fault_of (of_clients earlier) (client_of noted.0, noted.1) ≡ None → BeginsWithP (of_clients earlier ++ (client_of noted.0, noted.1) ∷ [])
        → rule.KeepRules (of_clients earlier) (of_clients (noted ∷ notes))
    go_on noted all rest none with_p = (
      none,
      subst (λ l. rule.KeepRules l (of_clients notes)) (clients noted)
          (rest (more noted all)
          (subst rule.IsTimeline (sym (clients noted)) (keep_more [] (of_clients earlier) (client_of noted.0, noted.1) timeline none))
          (subst BeginsWithP (sym (clients noted)) with_p)),
    )

    by : (noted : Noted) → is_record (earlier ++ noted ∷ notes) ≡ true → Then noted → rule.KeepRules (of_clients earlier) (of_clients (noted ∷ notes))
    by (who, note.Begin request) all rest =
        let keeps = begin_keeps earlier (is_history (who, note.Begin request) all) timeline who request first (one_more (who, note.Begin request) all) in
        go_on (who, note.Begin request) all rest keeps.0
        (begin_with_p earlier (is_history (who, note.Begin request) all) timeline who request first keeps.1)
    by (who, note.Reply reply) all rest =
        go_on (who, note.Reply reply) all rest
        (reply_keeps earlier (is_history (who, note.Reply reply) all) timeline who reply (one_more (who, note.Reply reply) all))
        (reply_with_p earlier (is_history (who, note.Reply reply) all) timeline who reply first)

pub are_timelines : HistoriesAreTimelines
are_timelines notes is_history = keeps_from [] notes is_history tt (λ key. tt)
