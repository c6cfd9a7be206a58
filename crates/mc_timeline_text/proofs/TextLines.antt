-- The lines of a timeline's text: what the text spells is what is read of it, line by line.
use Rattle.std.proofs.Common.{◌≡◌, ◌↔◌, ℕ, List, [], ◌∷◌, ◌++◌, refl, sym, ap, subst, ◌∙◌}
use Rattle.mc_protocol.specs.{declared.lines.Separator.TheVariants.Space, Lines.words_of_text, Lines.Words, Spelling.SpellEach}
use Rattle.mc_protocol.proofs.FirstItems.{rest_is}
use Rattle.mc_history.proofs.Reading.{IsReadable, Along, after_listed, series_of, parts_of, one_series}
use Rattle.mc_timeline.specs.{Timelines.ClientNote, TimelineText.SpellsClientNote, TimelineText.timeline_header}
use Rattle.mc_timeline.specs.Rules as rule
use Rattle.mc_timeline_text.specs.TimelineTexts.{Spelled, SpellsTimelineTail, SpellsTimelineText, SpellsOneTimeline}
use Rattle.mc_timeline_text.specs.TimelineParts.{notes, AfterNotes, SpellsNotes}
use Rattle.mc_timeline_text.proofs.ClientLines.{one_note, small_each, plain_each}
use Rattle.mc_timeline_text.proofs.TailLines.{no_tail_at_client, no_tail_of_nothing, one_tail}

pub notes_are_readable : IsReadable notes AfterNotes
notes_are_readable = record {
  one = one_note;
  apart = λ s noted line lines next spelled h. no_tail_at_client next.0 spelled.0.0 line lines s.1 spelled.1 spelled.0.1 h.2;
  goes_on = λ s noted h. no_tail_of_nothing s.1 h.2;
}

-- the timeline of the lines that were read is the one that is spelled
pub notes_read : {P : Spelled → Type 0} (noted : List ClientNote) (lines : List Words) → rule.IsTimeline noted
    → ((s : Spelled) → P s ↔ AfterNotes s noted lines) → (s : Spelled) → P s ↔ ((s.0 ≡ noted) × SpellsTimelineTail lines s.1)
notes_read noted lines timeline read s = (
  (λ p. let x = (read s).0 p in (x.0, x.2)),
  (λ x. (read s).1 (x.0, subst rule.IsTimeline (sym x.0) timeline, x.1)),
)

-- the notes of a timeline have no faults
along_notes : (begun others : List ClientNote) → rule.KeepRules begun others → Along notes begun others
along_notes begun [] keep = tt
along_notes begun (next ∷ others) keep = (keep.0, along_notes (begun ++ next ∷ []) others keep.1)

-- ---- the whole text

-- what a text spells is what is spelled after its header
pub notes_of_text : (text : List ℕ) (lines : List Words) (s : Spelled) → words_of_text Space text ≡ timeline_header ∷ lines
    → SpellsTimelineText text s.0 s.1 → SpellsNotes lines s
notes_of_text text lines s e h =
    rw (rest_is _ _ _ _ (sym e ∙ h.lines))
    (series_of notes (AfterNotes s) [] h.noted h.tail s.0 (small_each [] h.noted s.0 tt h.timeline h.spelled) (along_notes [] s.0 h.timeline)
    (sym (after_listed _ _ [] s.0), h.timeline, h.followed))

pub text_of_notes : (text : List ℕ) (lines : List Words) (s : Spelled) → words_of_text Space text ≡ timeline_header ∷ lines
    → SpellsNotes lines s → SpellsTimelineText text s.0 s.1
text_of_notes text lines s e o =
    let p = parts_of notes (AfterNotes s) [] lines o in
    record {
      noted = p.their;
      tail = p.tail;
      lines = e ∙ ap (λ ls. timeline_header ∷ ls) p.lines_are;
      spelled = subst (SpellEach SpellsClientNote p.their) (sym (p.followed.0 ∙ after_listed _ _ [] p.items)) (plain_each p.their p.items p.each);
      timeline = p.followed.1;
      followed = p.followed.2;
    }

-- a text spells at most one timeline
pub text_spells_one_timeline : SpellsOneTimeline
text_spells_one_timeline text s t f g =
    let lines = f.noted ++ f.tail in
    let (_, rest, x, y) = one_series notes_are_readable s t [] lines (notes_of_text text lines s f.lines f) (notes_of_text text lines t f.lines g) in
    (x.0 ∙ sym y.0, one_tail rest s.1 t.1 x.2 y.2)
