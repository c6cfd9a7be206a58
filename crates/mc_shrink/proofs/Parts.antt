-- A part of a timeline is explained where the whole is.
use Rattle.std.proofs.Common.{◌≡◌, inl, inr, ℕ, suc, Bool, true, false, cond, List, [], ◌∷◌, ◌++◌, map, filter, refl, ap, subst, sym, ◌∙◌}
use Rattle.mc_history.specs.Distinct.{AreDistinct}
use Rattle.mc_claims.specs.{Explains.start_contents, Replay.versions}
use Rattle.mc_timeline.specs.Explanations.{Effected, step_of, order_of, IsExplained}
use Rattle.mc_timeline.specs.Timelines.{is_in_order, ClientNote, Placed, Waiting, placed, operations_in, operations_of}
use Rattle.mc_timeline.specs.{Operations.Operation, Operations.IsLinearization, Members.IsIn}
use Rattle.mc_timeline.proofs.Members.{among_kept, kept_among, kept_distinct, mapped_among, mapped_kept}
use Rattle.mc_timeline.proofs.{Restricting.notes_of, Retiming.AllAfter, Retiming.Rises, Retiming.SameNotes, Retiming.explained_elsewhere, Times.kept_in_time}
use Rattle.mc_timeline.proofs.{Times.linear_in_time, Times.in_time_linear, Timelines.placed_rise, Timelines.notes_placed}
use Rattle.mc_shrink.specs.Parts.{note_stays, staying_after, part_of, MayGo, PartsAreExplained}
use Rattle.mc_shrink.proofs.Staying.{placed_part, notes_staying, staying, same_operations}
use Rattle.mc_shrink.proofs.Unchanged.{Unchanging, replies_stay, versions_stay}

-- ---- the operations that stay

linear_part : (stays : ℕ → Bool) (operations order : List Operation) → IsLinearization operations order
    → IsLinearization (staying stays operations) (staying stays order)
linear_part stays operations order l =
    let keeps = λ (x : Operation). stays x.began in
    in_time_linear (staying stays operations) (staying stays order) (kept_distinct keeps order l.distinct)
    (λ x h. let k = among_kept keeps x order h in kept_among keeps x operations k.0 (l.only x k.1))
    (λ x h e. let k = among_kept keeps x operations h in kept_among keeps x order k.0 (l.answered x k.1 e))
    (kept_in_time keeps order (linear_in_time operations order l))

explained_part : (stays : ℕ → Bool) (operations : List Operation) → MayGo stays operations → IsExplained operations
    → IsExplained (staying stays operations)
explained_part stays operations may e = record {
  start = e.start;
  effected = filter keeps e.effected;
  explains = record {
    linear = subst (IsLinearization (staying stays operations)) (sym (mapped_kept (λ (a : Effected). a.operation) (λ x. stays x.began) e.effected))
        (linear_part stays operations (order_of e.effected) e.explains.linear);
    start_fits = e.explains.start_fits;
    effected_fit = λ a h. e.explains.effected_fit a (among_kept keeps a e.effected h).1;
    keys = e.explains.keys;
    numbers = subst (λ l. AreDistinct (e.start ++ l)) (versions_stay keeps (start_contents e.start) e.effected unchanging e.explains.replies)
        e.explains.numbers;
    replies = replies_stay keeps (start_contents e.start) e.effected unchanging e.explains.replies;
  };
}
  where
    keeps : Effected → Bool
    keeps a = stays a.operation.began

    among_order : (a : Effected) (effected : List Effected) → IsIn a effected → IsIn a.operation (order_of effected)
    among_order a [] h = h
    among_order a (b ∷ effected) (inl same) = inl (ap (λ z. z.operation) same)
    among_order a (b ∷ effected) (inr more) = inr (among_order a effected more)

    unchanging : Unchanging keeps e.effected
    unchanging a h goes = may a.operation (e.explains.linear.only a.operation (among_order a e.effected h)) goes

-- ---- the notes that stay

later_part : (place : ℕ) (waits : Waiting) (stays : ℕ → Bool) (ts : List Placed) → AllAfter place ts → AllAfter place (placed_part waits stays ts)
later_part place waits stays [] after = tt
later_part place waits stays (t ∷ ts) after =
    by (note_stays waits (stays t.0) t.1) (later_part place (staying_after waits (stays t.0) t.1) stays ts after.1)
  where
    by : (b : Bool) → AllAfter place (placed_part (staying_after waits (stays t.0) t.1) stays ts)
        → AllAfter place (cond b (t ∷ placed_part (staying_after waits (stays t.0) t.1) stays ts) (placed_part (staying_after waits (stays t.0) t.1) stays ts))
    by true rest = (after.0, rest)
    by false rest = rest

part_rises : (waits : Waiting) (stays : ℕ → Bool) (ts : List Placed) → Rises ts → Rises (placed_part waits stays ts)
part_rises waits stays [] r = tt
part_rises waits stays (t ∷ ts) r = by (note_stays waits (stays t.0) t.1) (part_rises (staying_after waits (stays t.0) t.1) stays ts r.1)
  where
    by : (b : Bool) → Rises (placed_part (staying_after waits (stays t.0) t.1) stays ts)
        → Rises (cond b (t ∷ placed_part (staying_after waits (stays t.0) t.1) stays ts) (placed_part (staying_after waits (stays t.0) t.1) stays ts))
    by true rest = (later_part t.0 (staying_after waits (stays t.0) t.1) stays ts r.0, rest)
    by false rest = rest

same_notes : (from : ℕ) (ts : List Placed) → SameNotes ts (placed from (notes_of ts))
same_notes from [] = tt
same_notes from (t ∷ ts) = (refl, same_notes (suc from) ts)

pub are_explained : PartsAreExplained
are_explained notes stays ordered may e =
    let part = placed_part (λ client. false) stays (placed 0 notes) in
    let told : operations_in part ≡ staying stays (operations_of notes) =
    same_operations (λ client. false) (λ client. false) stays (placed 0 notes) (ap is_in_order (notes_placed 0 notes) ∙ ordered) in
    subst (λ l. IsExplained (operations_of l)) (notes_staying (λ client. false) stays 0 notes)
    (explained_elsewhere part (placed 0 (notes_of part)) (part_rises (λ client. false) stays (placed 0 notes) (placed_rise 0 notes))
    (placed_rise 0 (notes_of part)) (same_notes 0 part)
    (subst IsExplained (sym told) (explained_part stays (operations_of notes) may e)))
