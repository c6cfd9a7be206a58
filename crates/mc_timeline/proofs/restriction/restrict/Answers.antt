use Rattle.std.proofs.Common.{◌≡◌, ◌∙◌, ◌++◌, [], drop, subst, sym}
use Rattle.std.proofs.lemmas.List.{drop_all}
use Rattle.mc_timeline.specs.Timelines.{operations_of, restricted, restricted_after}
use Rattle.mc_timeline.specs.{Restrictions.HaveKey, Restrictions.waiting_in, Rules.IsTimeline}
use Rattle.mc_timeline.proofs.{RestrictedNotes.none_wait, RestrictedNotes.all_kept, RestrictedNotes.have_key, RestrictedRules.are_timelines}
use Rattle.mc_timeline.proofs.restriction.restrict.Goals as goal

pub notes-init : goal.notes-init
notes-init c = λ i. c.new-kept.ensures.items i ++ restricted_after (none_wait i) c.args.key.now (drop 0 c.args.timeline.now)

pub from_notes-requires : goal.from_notes-requires
from_notes-requires c =
    let notes = c.args.timeline.now in
    let key = c.args.key.now in
    let i = c.notes.client-index in
    let none : drop i notes ≡ [] =
    subst (λ l. drop i l ≡ []) c.notes-client-items.ensures.notes (drop_all i c.notes-client-items.result.now c.notes-test.false) in
    let all : c.notes.kept.items ≡ restricted key notes =
    all_kept key (waiting_in c.notes.waiting) c.notes.kept.items (drop i notes) (restricted key notes) none c.notes.invariant in
    subst IsTimeline (sym all) (are_timelines notes key c.notes-client-items.ensures.timeline)

pub returns-clause-have_key : goal.returns-clause-have_key
returns-clause-have_key c =
    let notes = c.args.timeline.now in
    let key = c.args.key.now in
    let i = c.notes.client-index in
    let none : drop i notes ≡ [] =
    subst (λ l. drop i l ≡ []) c.notes-client-items.ensures.notes (drop_all i c.notes-client-items.result.now c.notes-test.false) in
    let all : c.from_notes.result ≡ restricted key notes =
    c.from_notes.ensures ∙ all_kept key (waiting_in c.notes.waiting) c.notes.kept.items (drop i notes) (restricted key notes) none c.notes.invariant in
    subst (λ l. HaveKey key (operations_of l)) (sym all) (have_key key notes c.notes-client-items.ensures.timeline)
