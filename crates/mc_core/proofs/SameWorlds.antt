-- Worlds in which the same happened, by what their fields say.
use Rattle.std.proofs.Common.{◌≡◌, ℕ, List, length, map, sym, subst, ap, ◌∙◌}
use Rattle.std.proofs.lemmas.Slice.Zip.{firsts-zip}
use Rattle.std.specs.List.{zip}
use Rattle.mc_protocol.specs.{Sections.section_of, declared.actor.Actor.Actor, declared.reply.Reply.Reply, declared.sections.Sections.Sections}
use Rattle.mc_protocol.specs.declared.actor.Actor.TheVariants as actor
use Rattle.mc_code.specs.{Code.Code, declared.instr.Call.Call}
use Rattle.mc_core.specs.{declared.section.Section.Section, Fields.IsKept, Fields.HasSameLog, Fields.HaveSameLogs, Fields.log_in, Fields.replies_of}
use Rattle.mc_core.specs.{Fields.world_in, Logs.Log, Steps.IsFold, Steps.IsWorldOf, Worlds.World, Worlds.Noted, Worlds.new_world, Worlds.log_of}
use Rattle.mc_core.proofs.FoldLemmas.{all_noted, folds_once}

same_log : (ns ms : List Noted) (who : Actor) (s t : Section) → HasSameLog s t → ns ≡ ms → log_in ns who s ≡ log_in ms who t
same_log ns ms who s t h k = let calls = h.0 in let waits = h.1 in let faults = h.2 in cc

pub same_world : (s t : Sections Section) (ns ms : List Noted) → HaveSameLogs s t → ns ≡ ms → world_in s ns ≡ world_in t ms
same_world s t ns ms h k =
    let p = same_log ns ms actor.P s.p t.p h.0 k in
    let a = same_log ns ms actor.A s.a t.a h.1 k in
    let b = same_log ns ms actor.B s.b t.b h.2 k in
    cc

-- the calls that have replies, of which the log has as many
same_calls : (cs ds : List Call) (rs qs : List Reply) → length cs ≡ length rs → length ds ≡ length qs → zip cs rs ≡ zip ds qs → cs ≡ ds
same_calls cs ds rs qs h k e =
    sym (firsts-zip cs rs (sym h)) ∙ ap (λ l. map (λ (p : Call × Reply). p.0) l) e ∙ firsts-zip ds qs (sym k)

of_log : (ns ms : List Noted) (who : Actor) (s t : Section) → IsKept ns who s → IsKept ms who t → log_in ns who s ≡ log_in ms who t
    → HasSameLog s t
of_log ns ms who s t h k e = (
  same_calls s.answered.items t.answered.items (replies_of who ns) (replies_of who ms) h.replies k.replies (ap (λ (l : Log). l.answered) e),
  ap (λ (l : Log). l.waiting) e,
  ap (λ (l : Log). l.fault) e,
)

pub same_logs : (s t : Sections Section) (ns ms : List Noted) → ((who : Actor) → IsKept ns who (section_of s who))
    → ((who : Actor) → IsKept ms who (section_of t who)) → world_in s ns ≡ world_in t ms → HaveSameLogs s t
same_logs s t ns ms h k e = (
  of_log ns ms actor.P s.p t.p (h actor.P) (k actor.P) (ap (λ w. log_of w actor.P) e),
  of_log ns ms actor.A s.a t.a (h actor.A) (k actor.A) (ap (λ w. log_of w actor.A) e),
  of_log ns ms actor.B s.b t.b (h actor.B) (k actor.B) (ap (λ w. log_of w actor.B) e),
)

-- a world is the fold of its notes where no note is refused and each section has the log that they lead to
pub refolded : (c : Code) (w : World) (events : List Noted) (end : World) (skipped : ℕ) (s t : Sections Section) (ns ms : List Noted)
    → events ≡ w.notes → IsFold c new_world events end skipped → skipped ≡ 0 → world_in s ns ≡ w → world_in t ms ≡ end
    → HaveSameLogs s t → end ≡ w
refolded c w events end skipped s t ns ms events_are fold none is other logs =
    let notes : ns ≡ ms =
    ap (λ (w : World). w.notes) is ∙ sym events_are ∙ sym (all_noted fold none) ∙ sym (ap (λ (w : World). w.notes) other) in
    sym other ∙ sym (same_world s t ns ms logs notes) ∙ is

-- and only there
pub other_logs : (c : Code) (w : World) (events : List Noted) (end : World) (skipped : ℕ) (s t : Sections Section) (ns ms : List Noted)
    → events ≡ w.notes → IsFold c new_world events end skipped → world_in s ns ≡ w → world_in t ms ≡ end
    → ((who : Actor) → IsKept ns who (section_of s who)) → ((who : Actor) → IsKept ms who (section_of t who))
    → IsWorldOf c w → HaveSameLogs s t
other_logs c w events end skipped s t ns ms events_are fold is other kept kept_too whole =
    let same = folds_once c new_world w end w.notes 0 skipped whole (subst (λ l. IsFold c new_world l end skipped) events_are fold) in
    same_logs s t ns ms kept kept_too (is ∙ same.0 ∙ sym other)

pub none_skipped : (c : Code) (w : World) (events : List Noted) (end : World) (skipped : ℕ) → events ≡ w.notes
    → IsFold c new_world events end skipped → IsWorldOf c w → skipped ≡ 0
none_skipped c w events end skipped events_are fold whole =
    sym (folds_once c new_world w end w.notes 0 skipped whole (subst (λ l. IsFold c new_world l end skipped) events_are fold)).1
