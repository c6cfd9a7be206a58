-- A restriction, note by note.
use Rattle.std.proofs.Common.{◌≡◌, ◌<◌, ◌≤◌, ◌⊎◌, inl, inr, ℕ, false, get_or, replicate}
use Rattle.std.proofs.Common.{List, [], ◌∷◌, ◌++◌, refl, ap, subst, sym, ◌∙◌}
use Rattle.std.proofs.lemmas.List.{get_or_past, get_or-replicate, length-replicate}
use Rattle.std.proofs.{lemmas.Bool.cases_lt, lemmas.Slice.Eq.bytes_eq-Decides}
use Rattle.std.specs.Str.{bytes_eq}
use Rattle.mc_timeline.specs.Timelines.{ClientNote, Waiting, operations_of, restricted, restricted_after}
use Rattle.mc_timeline.specs.{Members.IsIn, Operations.Operation, Operations.on_key, Restrictions.HaveKey, Restrictions.waiting_in, Rules.IsTimeline}
use Rattle.mc_timeline.proofs.Timelines.{restricted_clock, restricted_operations}
use Rattle.mc_timeline.proofs.{Members.among_kept, Members.mapped_among, Retiming.retimed, TimelineOrder.are_ordered}

-- ---- who waits

pub none_wait : waiting_in (replicate 256 false) ≡ (λ client. false)
none_wait = λ i client. none client i
  where
    none : (client : ℕ) → get_or (replicate 256 false) client false ≡ false
    none client = by (cases_lt client 256)
      where
        by : (client < 256) ⊎ (256 ≤ client) → get_or (replicate 256 false) client false ≡ false
        by (inl less) = get_or-replicate 256 client false false less
        by (inr past) = get_or_past (replicate 256 false) client false (subst (λ n. n ≤ client) (sym (length-replicate 256 false)) past)

-- ---- all notes

-- where nothing is left, all was kept
pub all_kept : (key : List ℕ) (waits : Waiting) (kept rest all : List ClientNote) → rest ≡ [] → kept ++ restricted_after waits key rest ≡ all → kept ≡ all
all_kept key waits kept rest all none e = ends kept ∙ ap (λ l. kept ++ restricted_after waits key l) (sym none) ∙ e
  where
    ends : (l : List ClientNote) → l ≡ l ++ []
    ends [] = refl
    ends (x ∷ l) = ap (λ m. x ∷ m) (ends l)

-- ---- the operations

pub have_key : (key : List ℕ) (notes : List ClientNote) → IsTimeline notes → HaveKey key (operations_of (restricted key notes))
have_key key notes timeline x h =
    let ordered = are_ordered notes timeline in
    let told = subst (λ l. IsIn x l) (restricted_operations key notes ordered) h in
    let (y, is, there) = mapped_among (retimed (restricted_clock key notes)) x (on_key key (operations_of notes)) told in
    let kept = among_kept (λ (z : Operation). bytes_eq z.request.key key) y (operations_of notes) there in
    ap (λ (z : Operation). z.request.key) is ∙ (bytes_eq-Decides y.request.key key).0 kept.0
