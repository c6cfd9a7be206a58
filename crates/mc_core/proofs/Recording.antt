-- How a world's history is recorded, note by note.
use Rattle.std.proofs.Common.{◌≡◌, inl, inr, ℕ, ◌+◌, ◌<◌, ◌≤◌, ◌^◌, List, [], ◌∷◌, ◌++◌, All, length, map, take, drop, slice_index_or, refl, ap, sym}
use Rattle.std.proofs.Common.{subst, ◌∙◌, arith}
use Rattle.std.proofs.{lemmas.List.append-nil, lemmas.List.take-append-drop, lemmas.List.drop_more, lemmas.List.take_more, lemmas.List.Elements.All-nil}
use Rattle.std.specs.{List.zip, Option.option_to_list}
use Rattle.mc_protocol.specs.{Sections.section_of, declared.actor.Actor.Actor, declared.event.Event.Event, declared.reply.Reply.Reply}
use Rattle.mc_protocol.specs.declared.sections.Sections.{Sections}
use Rattle.mc_protocol.specs.declared.actor.Actor.TheVariants as actor
use Rattle.mc_protocol.specs.declared.event.Event.TheVariants as event
use Rattle.mc_code.specs.{Code.Code, Code.IsCode, declared.instr.Call.Call}
use Rattle.mc_model.specs.Notes as recorded
use Rattle.mc_model.specs.declared.note.Note.TheVariants as note
use Rattle.mc_sound.specs.Faults.{IsSound}
use Rattle.mc_core.specs.Fields.{replies_of, waiting_in, world_in, calls_of, note_in, noted_by, BeginsNamed, HaveRoom, AreBegun, CountsBegin}
use Rattle.mc_core.specs.{declared.section.Section.Section, Histories.begin_count, Histories.no_call, Histories.recorded_after, Histories.recorded_from}
use Rattle.mc_core.specs.{Logs.call_of, Logs.calls_in, Logs.request_of, Worlds.World, Worlds.Noted, Worlds.log_of, Worlds.event_of}
use Rattle.mc_core.proofs.Recorded.{begun_in, begun_append, begun_more, begun_first, begun_all, from_append}
use Rattle.mc_core.proofs.{FoldLemmas.fold_right, HeldWorlds.Fields, LogLemmas.call_inside, LogLemmas.calls_each, NotedEvents.fold_noted, NotedEvents.own_event}
use Rattle.mc_core.proofs.{Safe.folds_within_room, StepLemmas.MayBeRight, Taking.logged}

-- ---- templates of calls

abbrev IsNamed : Code → Call → Type 0
IsNamed c made = made.template < length c.templates

log_named : (c : Code) (w : World) (who : Actor) → MayBeRight c w who → All (IsNamed c) (calls_in (log_of w who))
log_named c w who (inl new) = subst (λ log. All (IsNamed c) (calls_in log)) (sym new) (All-nil (IsNamed c))
log_named c w who (inr right) =
    calls_each c who right.variables (IsNamed c) (log_of w who)
    (λ front back made is calling. call_inside c who right.variables front made calling) right.right

-- ---- the calls of a section's fields

calls_same : (c : Code) (s : Sections Section) (notes : List Noted) (who : Actor) → Fields c s notes
    → calls_in (log_of (world_in s notes) who) ≡ calls_of (section_of s who)
calls_same c s notes who fields =
    let own = section_of s who in
    let kept = fields.kept who in
    ap calls_in (logged s notes who)
    ∙ ap (λ l. l ++ option_to_list (waiting_in own.machine)) (firsts own.answered.items (replies_of who notes) kept.replies)
  where
    firsts : (calls : List Call) (replies : List Reply) → length calls ≡ length replies → map call_of (zip calls replies) ≡ calls
    firsts [] replies same = refl
    firsts (x ∷ calls) [] same = absurd (omega (arith, same))
    firsts (x ∷ calls) (y ∷ replies) same = ap (λ l. x ∷ l) (firsts calls replies (omega (arith, same)))

-- where a note stands
pub record IsAt (notes : List Noted) (n : ℕ) (noted : Noted) : Type 0 where
  pub inside : n < length notes
  pub next : take (n + 1) notes ≡ take n notes ++ noted ∷ []
  pub whole : notes ≡ take n notes ++ noted ∷ drop (n + 1) notes

pub is_at : (notes : List Noted) (n : ℕ) (noted : Noted) → n < length notes → noted ≡ slice_index_or notes n noted → IsAt notes n noted
is_at notes n noted inside is = record {
  inside = inside;
  next = take_more notes n noted inside ∙ ap (λ x. take n notes ++ x ∷ []) (sym is);
  whole =
      sym (take-append-drop n notes) ∙ ap (λ l. take n notes ++ l) (drop_more notes n noted inside ∙ ap (λ x. x ∷ drop (n + 1) notes) (sym is));
}

begun_whole : (who : Actor) (notes : List Noted) (n : ℕ) (noted : Noted) → IsAt notes n noted
    → begun_in who (take n notes) + begin_count (event_of who noted) ≤ begun_in who notes
begun_whole who notes n noted at =
    let all = ap (begun_in who) at.whole in
    let parts = begun_append who (take n notes) (noted ∷ drop (n + 1) notes) in
    let first = begun_first who noted (drop (n + 1) notes) in
    omega (arith, all, parts, first)

-- ---- one note

few_begun : (c : Code) (s : Sections Section) (notes : List Noted) (who : Actor) → Fields c s notes
    → begun_in who notes ≡ length (calls_in (log_of (world_in s notes) who))
few_begun c s notes who fields = begun_all (world_in s notes) who (fold_noted c fields.held.fold)

pub begins_named : (c : Code) (s : Sections Section) (notes : List Noted) (n : ℕ) (who : Actor) (e : Event) → Fields c s notes
    → IsAt notes n (who, e) → BeginsNamed c (section_of s who) (begun_in who (take n notes)) e
begins_named c s notes n who event.Begin fields at =
    let w = world_in s notes in
    let most = begun_whole who notes n (who, event.Begin) at in
    let one = ap begin_count (own_event who event.Begin) in
    let all = few_begun c s notes who fields in
    let inside : begun_in who (take n notes) < length (calls_in (log_of w who)) = omega (arith, most, one, all) in
    subst (λ l. (slice_index_or l (begun_in who (take n notes)) no_call).template < length c.templates) (calls_same c s notes who fields)
    (log_named c w who (fold_right c fields.held.fold who) (begun_in who (take n notes)) no_call inside)
begins_named c s notes n who (event.Reply reply) fields at = tt
begins_named c s notes n who (event.Fail fault) fields at = tt

note_recorded : (c : Code) (s : Sections Section) (notes front : List Noted) (who : Actor) (e : Event) → Fields c s notes
    → recorded_after c (world_in s notes) front (who, e) ≡ noted_by who (note_in c (section_of s who) (begun_in who front) e)
note_recorded c s notes front who event.Begin fields =
    ap (λ l. (who, note.Begin (request_of c (slice_index_or l (begun_in who front) no_call))) ∷ []) (calls_same c s notes who fields)
note_recorded c s notes front who (event.Reply reply) fields = refl
note_recorded c s notes front who (event.Fail fault) fields = refl

pub recorded_next : (c : Code) (s : Sections Section) (notes : List Noted) (n : ℕ) (who : Actor) (e : Event) (before : List recorded.Noted)
    → Fields c s notes → IsAt notes n (who, e) → before ≡ recorded_from c (world_in s notes) [] (take n notes)
    → before ++ noted_by who (note_in c (section_of s who) (begun_in who (take n notes)) e)
    ≡ recorded_from c (world_in s notes) [] (take (n + 1) notes)
recorded_next c s notes n who e before fields at is =
    let w = world_in s notes in
    ap (λ l. l ++ noted_by who (note_in c (section_of s who) (begun_in who (take n notes)) e)) is
    ∙ ap (λ l. recorded_from c w [] (take n notes) ++ l)
    (sym (append-nil (recorded_after c w (take n notes) (who, e)) ∙ note_recorded c s notes (take n notes) who e fields))
    ∙ sym (from_append c w [] (take n notes) ((who, e) ∷ []))
    ∙ ap (recorded_from c w []) (sym at.next)

-- ---- counts

pub counts_next : (begun more : Sections ℕ) (notes : List Noted) (n : ℕ) (who : Actor) (e : Event) → AreBegun begun (take n notes)
    → CountsBegin begun who e more → IsAt notes n (who, e) → AreBegun more (take (n + 1) notes)
counts_next begun more notes n who e are counts at other =
    counts other ∙ ap (λ m. m + begin_count (event_of other (who, e))) (are other)
    ∙ sym (begun_more other (take n notes) (who, e))
    ∙ ap (begun_in other) (sym at.next)

pub counts_room : (c : Code) (s : Sections Section) (notes : List Noted) (n : ℕ) (noted : Noted) (begun : Sections ℕ) → Fields c s notes
    → IsCode c
    → IsSound c → IsAt notes n noted → AreBegun begun (take n notes) → HaveRoom begun
counts_room c s notes n noted begun fields kept sound at are = (few actor.P (are actor.P), few actor.A (are actor.A), few actor.B (are actor.B))
  where
    few : (who : Actor) {m : ℕ} → m ≡ begun_in who (take n notes) → m < 2 ^ 32
    few who is =
        let most = begun_whole who notes n noted at in
        let all = few_begun c s notes who fields in
        let calls = (folds_within_room c notes (world_in s notes) 0 kept sound fields.held.fold).calls who in
        omega (arith, is, most, all, calls)
