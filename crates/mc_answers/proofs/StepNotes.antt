-- How many notes the history of a world has, how many a step adds to it, and which step made each.
use Rattle.std.proofs.Common.{◌≡◌, ◌⊎◌, ℕ, ◌+◌, ◌<◌, ◌≤◌, Result, Ok, Err, List, [], ◌∷◌, ◌++◌, length, take, refl, sym, ap, ap₂, ◌∙◌, arith}
use Rattle.std.proofs.{Common.inl, Common.inr, Common.length-append, lemmas.Bool.cases_lt, lemmas.List.get_or_append_left, lemmas.List.get_or_push}
use Rattle.std.specs.Prelude.{OnOk, OnErr, IfErr, slice_index_or}
use Rattle.mc_protocol.specs.{declared.actor.Actor.Actor, declared.event.Event.Event}
use Rattle.mc_protocol.specs.declared.event.Event.TheVariants as event
use Rattle.mc_code.specs.Code.{Code}
use Rattle.mc_core.specs.{declared.step_refusal.StepRefusal.StepRefusal, Held.Held, Histories.recorded_after, Histories.recorded_from, Histories.record_of}
use Rattle.mc_core.specs.{Steps.IsFold, Steps.IsRefused, Steps.IsStep, Worlds.Noted, Worlds.World, Worlds.new_world}
use Rattle.mc_core.proofs.LongerFolds.{skipped_over, taken}
use Rattle.mc_answers.specs.StepLines.{AreMadeBy, LeavesNotes, MakesNote}

-- how many notes of a history an event makes
note_count : Event → ℕ
note_count event.Begin = 1
note_count (event.Reply reply) = 1
note_count (event.Fail fault) = 0

recorded_one : (c : Code) (w : World) (front : List Noted) (who : Actor) (e : Event) → length (recorded_after c w front (who, e)) ≡ note_count e
unfolding note_count
recorded_one c w front who event.Begin = refl
recorded_one c w front who (event.Reply reply) = refl
recorded_one c w front who (event.Fail fault) = refl

-- and how many these make
notes_count : List Noted → ℕ
notes_count [] = 0
notes_count ((who, e) ∷ notes) = note_count e + notes_count notes

recorded_all : (c : Code) (w : World) (front notes : List Noted) → length (recorded_from c w front notes) ≡ notes_count notes
unfolding notes_count
recorded_all c w front [] = refl
recorded_all c w front ((who, e) ∷ notes) =
    length-append (recorded_after c w front (who, e)) (recorded_from c w (front ++ (who, e) ∷ []) notes)
    ∙ ap₂ (λ n m. n + m) (recorded_one c w front who e) (recorded_all c w (front ++ (who, e) ∷ []) notes)

count_more : (notes : List Noted) (who : Actor) (e : Event) → notes_count (notes ++ (who, e) ∷ []) ≡ notes_count notes + note_count e
unfolding notes_count
count_more [] who e = omega arith
count_more ((other, first) ∷ notes) who e = let more = count_more notes who e in omega (arith, more)

-- a step that is taken is noted last
noted_last : (c : Code) (w : World) (who : Actor) (e : Event) (next : World) → IsStep c w who e next → next.notes ≡ w.notes ++ (who, e) ∷ []
noted_last c w who event.Begin next step = ap (λ (w : World). w.notes) step.follows.2
noted_last c w who (event.Reply reply) next step = ap (λ (w : World). w.notes) step.follows.2
noted_last c w who (event.Fail fault) next step = ap (λ (w : World). w.notes) step.follows

-- it adds to the history as many notes as its event makes, and one that is skipped adds none
pub step_adds : (c : Code) (w : World) (who : Actor) (e : Event) (next : World) (count : ℕ)
    → ((c : Code) (w : World) (front : List Noted) (who : Actor) → length (recorded_after c w front (who, e)) ≡ count)
    → IsStep c w who e next → length (record_of c next) ≡ length (record_of c w) + count
step_adds c w who e next count is step =
    recorded_all c next [] next.notes ∙ (ap notes_count (noted_last c w who e next step) ∙ (count_more w.notes who e
    ∙ ap₂ (λ n m. n + m) (sym (recorded_all c w [] w.notes)) (sym (recorded_one c w [] who e) ∙ is c w [] who)))

more_none : (n : ℕ) → n ≡ n + 0
more_none n = omega arith

pub skipped_adds : (c : Code) (old new : Held) → new ≡ old → length (record_of c new.world) ≡ length (record_of c old.world) + 0
skipped_adds c old new same = ap (λ (h : Held). length (record_of c h.world)) same ∙ more_none (length (record_of c old.world))

-- the fold of some steps goes on with one more, which is taken, or is skipped and counted
pub goes_on : {X : Type 0} (c : Code) (old : World) (new : World) (who : Actor) (e : Event) (skipped : ℕ) (r : Result X (StepRefusal × Event)) (x : X)
    → r ≡ Ok x → OnOk r (IsStep c old who e new)
    → (front : List Noted) → IsFold c new_world front old skipped → IsFold c new_world (front ++ (who, e) ∷ []) new skipped
goes_on {X} c old new who e skipped r x is step front fold =
    taken {X = X} c front old new who e skipped (Ok x) fold (rw is at step) refl

pub goes_over : {X : Type 0} (c : Code) (old new : Held) (who : Actor) (e : Event) (skipped : ℕ) (r : Result X (StepRefusal × Event))
    (x : StepRefusal × Event) → r ≡ Err x → IfErr r (λ refused. IsRefused c old.world who e refused.0) → OnErr r (new ≡ old)
    → (front : List Noted) → IsFold c new_world front old.world skipped → IsFold c new_world (front ++ (who, e) ∷ []) new.world (skipped + 1)
goes_over {X} c old new who e skipped r x is refused same front fold =
    skipped_over {X = X} c front old new who e skipped (Err x) fold (rw is at refused) (rw is at same) refl

-- ---- which step makes each note

-- the first `count` steps lead to a world whose history has `notes` notes, where the steps that were taken are those
leaves : (c : Code) (all steps : List Noted) (count notes : ℕ) (w : World) (skipped : ℕ) → take count all ≡ steps
    → IsFold c new_world steps w skipped → length (record_of c w) ≡ notes → LeavesNotes c all count notes
leaves c all steps count notes w skipped front fold noted = record {
  world = w;
  skipped = skipped;
  fold = rw front fold;
  noted = noted;
}

-- the step after these makes one note more
makes : (c : Code) (all steps : List Noted) (noted : Noted) (old new : World) (skipped skipped_then : ℕ)
    → take (length steps) all ≡ steps → take (length steps + 1) all ≡ steps ++ noted ∷ []
    → IsFold c new_world steps old skipped → IsFold c new_world (steps ++ noted ∷ []) new skipped_then
    → length (record_of c new) ≡ length (record_of c old) + 1 → MakesNote c all (length (record_of c old)) (length steps)
makes c all steps noted old new skipped skipped_then front longer before after more = (
  leaves c all steps (length steps) (length (record_of c old)) old skipped front before refl,
  leaves c all (steps ++ noted ∷ []) (length steps + 1) (length (record_of c old) + 1) new skipped_then longer after more,
)

-- and then the maker of that note is known too
pub one_more_made : (c : Code) (all steps : List Noted) (noted : Noted) (old new : World) (skipped skipped_then : ℕ) (makers : List ℕ)
    → take (length steps) all ≡ steps → take (length steps + 1) all ≡ steps ++ noted ∷ []
    → IsFold c new_world steps old skipped → IsFold c new_world (steps ++ noted ∷ []) new skipped_then
    → length (record_of c new) ≡ length (record_of c old) + 1 → AreMadeBy c all old makers
    → AreMadeBy c all new (makers ++ length steps ∷ [])
one_more_made c all steps noted old new skipped skipped_then makers front longer before after more made = record {
  count = length-append makers (length steps ∷ []) ∙ (ap (λ n. n + 1) made.count ∙ sym more);
  each = λ place within. at_place place within (cases_lt place (length makers));
}
  where
    last : MakesNote c all (length makers) (length steps)
    last = rw made.count (makes c all steps noted old new skipped skipped_then front longer before after more)

    at_place : (place : ℕ) → place < length (makers ++ length steps ∷ []) → (place < length makers) ⊎ (length makers ≤ place)
        → MakesNote c all place (slice_index_or (makers ++ length steps ∷ []) place 0)
    at_place place within (inl earlier) = rw (get_or_append_left makers (length steps ∷ []) 0 place earlier) (made.each place earlier)
    at_place place within (inr later) =
        let lengths = length-append makers (length steps ∷ []) in
        let same : length makers ≡ place = omega (arith, within, later, lengths) in
        rw (get_or_push makers (length steps) 0 place same) (rw same at last)

-- where no note is made, they stay
pub none_made : (c : Code) (all : List Noted) (old new : World) (makers : List ℕ) → length (record_of c new) ≡ length (record_of c old)
    → AreMadeBy c all old makers → AreMadeBy c all new makers
none_made c all old new makers same made = record { count = made.count ∙ sym same; each = made.each }
