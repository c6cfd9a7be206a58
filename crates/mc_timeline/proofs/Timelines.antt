-- A timeline is explained exactly where its restriction to each key is.
use Rattle.std.proofs.Common.{◌≡◌, ◌<◌, ℕ, suc, Bool, true, false, cond, List, [], ◌∷◌, map, refl, ap, subst, sym, ◌∙◌, arith}
use Rattle.mc_timeline.specs.Timelines.{is_in_order, ClientNote, Placed, Waiting, placed, is_on_key, waiting_after, operations_in, operations_of, restricted}
use Rattle.mc_timeline.specs.{Operations.on_key, Explanations.Effected, Explanations.Explains, Explanations.IsExplained, Laws.LocalityOfTimelines}
use Rattle.mc_timeline.proofs.Restricting.{notes_of, kept_after, notes_kept, same_operations}
use Rattle.mc_timeline.proofs.Retiming.{AllAfter, Rises, SameNotes, Shows, retimed, retimed_effected, clock_of, clock_shows, retimed_operations}
use Rattle.mc_timeline.proofs.{Retiming.explained_elsewhere, Retiming.explains_elsewhere, Joining.is_local}

-- ---- places

placed_after : (place from : ℕ) (notes : List ClientNote) → place < from → AllAfter place (placed from notes)
placed_after place from [] less = tt
placed_after place from (n ∷ notes) less = (less, placed_after place (suc from) notes (omega arith))

pub placed_rise : (from : ℕ) (notes : List ClientNote) → Rises (placed from notes)
placed_rise from [] = tt
placed_rise from (n ∷ notes) = (placed_after from (suc from) notes (omega arith), placed_rise (suc from) notes)

pub notes_placed : (from : ℕ) (notes : List ClientNote) → notes_of (placed from notes) ≡ notes
notes_placed from [] = refl
notes_placed from (n ∷ notes) = ap (λ l. n ∷ l) (notes_placed (suc from) notes)

kept_later : (place : ℕ) (waits : Waiting) (key : List ℕ) (ts : List Placed) → AllAfter place ts → AllAfter place (kept_after waits key ts)
kept_later place waits key [] after = tt
kept_later place waits key (t ∷ ts) after = by (is_on_key waits key t.1) (kept_later place (waiting_after waits key t.1) key ts after.1)
  where
    by : (b : Bool) → AllAfter place (kept_after (waiting_after waits key t.1) key ts)
        → AllAfter place (cond b (t ∷ kept_after (waiting_after waits key t.1) key ts) (kept_after (waiting_after waits key t.1) key ts))
    by true rest = (after.0, rest)
    by false rest = rest

kept_rise : (waits : Waiting) (key : List ℕ) (ts : List Placed) → Rises ts → Rises (kept_after waits key ts)
kept_rise waits key [] r = tt
kept_rise waits key (t ∷ ts) r = by (is_on_key waits key t.1) (kept_rise (waiting_after waits key t.1) key ts r.1)
  where
    by : (b : Bool) → Rises (kept_after (waiting_after waits key t.1) key ts)
        → Rises (cond b (t ∷ kept_after (waiting_after waits key t.1) key ts) (kept_after (waiting_after waits key t.1) key ts))
    by true rest = (kept_later t.0 (waiting_after waits key t.1) key ts r.0, rest)
    by false rest = rest

same_notes : (from : ℕ) (ts : List Placed) → SameNotes ts (placed from (notes_of ts))
same_notes from [] = tt
same_notes from (t ∷ ts) = (refl, same_notes (suc from) ts)

notes_same : (from : ℕ) (ts : List Placed) → SameNotes (placed from (notes_of ts)) ts
notes_same from [] = tt
notes_same from (t ∷ ts) = (refl, notes_same (suc from) ts)

-- ---- one key

on_key_is : (key : List ℕ) (notes : List ClientNote) → is_in_order notes ≡ true
    → operations_in (kept_after (λ client. false) key (placed 0 notes)) ≡ on_key key (operations_of notes)
on_key_is key notes ordered =
    same_operations (λ client. false) (λ client. false) key (placed 0 notes) (ap is_in_order (notes_placed 0 notes) ∙ ordered)

pub restricted_is : (key : List ℕ) (notes : List ClientNote) → notes_of (kept_after (λ client. false) key (placed 0 notes)) ≡ restricted key notes
restricted_is key notes = notes_kept (λ client. false) key (placed 0 notes) ∙ ap (restricted key) (notes_placed 0 notes)

-- the operations of the restriction are those on the key, at other times
abbrev pub restricted_clock : List ℕ → List ClientNote → ℕ → ℕ
restricted_clock key notes =
    let kept = kept_after (λ client. false) key (placed 0 notes) in
    clock_of kept (placed 0 (notes_of kept))

pub restricted_operations : (key : List ℕ) (notes : List ClientNote) → is_in_order notes ≡ true
    → operations_of (restricted key notes) ≡ map (retimed (restricted_clock key notes)) (on_key key (operations_of notes))
restricted_operations key notes ordered =
    let kept = kept_after (λ client. false) key (placed 0 notes) in
    let rises = kept_rise (λ client. false) key (placed 0 notes) (placed_rise 0 notes) in
    ap operations_of (sym (restricted_is key notes))
    ∙ retimed_operations (restricted_clock key notes) kept (placed 0 (notes_of kept)) (clock_shows kept (placed 0 (notes_of kept)) rises (same_notes 0 kept))
    ∙ ap (map (retimed (restricted_clock key notes))) (on_key_is key notes ordered)

to_restricted : (key : List ℕ) (notes : List ClientNote) → is_in_order notes ≡ true
    → IsExplained (on_key key (operations_of notes)) → IsExplained (operations_of (restricted key notes))
to_restricted key notes ordered e =
    let kept = kept_after (λ client. false) key (placed 0 notes) in
    let rises = kept_rise (λ client. false) key (placed 0 notes) (placed_rise 0 notes) in
    subst (λ l. IsExplained (operations_of l)) (restricted_is key notes)
    (explained_elsewhere kept (placed 0 (notes_of kept)) rises (placed_rise 0 (notes_of kept)) (same_notes 0 kept)
    (subst (IsExplained) (sym (on_key_is key notes ordered)) e))

from_restricted : (key : List ℕ) (notes : List ClientNote) → is_in_order notes ≡ true
    → IsExplained (operations_of (restricted key notes)) → IsExplained (on_key key (operations_of notes))
from_restricted key notes ordered e =
    let kept = kept_after (λ client. false) key (placed 0 notes) in
    let rises = kept_rise (λ client. false) key (placed 0 notes) (placed_rise 0 notes) in
    subst (IsExplained) (on_key_is key notes ordered)
    (explained_elsewhere (placed 0 (notes_of kept)) kept (placed_rise 0 (notes_of kept)) rises (notes_same 0 kept)
    (subst (λ l. IsExplained (operations_of l)) (sym (restricted_is key notes)) e))

-- what explains the requests on a key explains those of the timeline that are on it, at their own times
pub explains_on_key : (key : List ℕ) (notes : List ClientNote) → is_in_order notes ≡ true → (clock : ℕ → ℕ)
    → Shows clock (placed 0 (restricted key notes)) (kept_after (λ client. false) key (placed 0 notes)) → (start : List (List ℕ × ℕ))
    (effected : List Effected) → Explains (operations_of (restricted key notes)) start effected
    → Explains (on_key key (operations_of notes)) start (map (retimed_effected clock) effected)
explains_on_key key notes ordered clock shows start effected e =
    let kept = kept_after (λ client. false) key (placed 0 notes) in
    subst (λ operations. Explains operations start (map (retimed_effected clock) effected)) (on_key_is key notes ordered)
    (explains_elsewhere clock (placed 0 (restricted key notes)) kept (placed_rise 0 (restricted key notes))
    (kept_rise (λ client. false) key (placed 0 notes) (placed_rise 0 notes)) shows start effected e)

pub timelines_are_local : LocalityOfTimelines
timelines_are_local notes ordered =
    let law = is_local (operations_of notes) in (
      (λ e x h. to_restricted x.request.key notes ordered (law.0 e x h)),
      (λ each. law.1 (λ x h. from_restricted x.request.key notes ordered (each x h))),
    )
