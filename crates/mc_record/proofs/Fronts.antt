-- Fronts of timelines that nothing explains, and their texts.
use Rattle.std.proofs.Common.{◌≡◌, ◌∙◌, ap, sym, subst, ℕ, List, ◌++◌, length, take}
use Rattle.std.proofs.Math.Seq.{take-length}
use Rattle.mc_timeline.specs.{Timelines.ClientNote, Timelines.restricted, TimelineText.timeline_text}
use Rattle.mc_linearize.specs.Verdicts.{IsUnexplained}
use Rattle.mc_record.specs.Judging.{IsEvidence, IsUnexplainedFront}

-- so many of the notes
pub front_is : (key : List ℕ) (timeline notes : List ClientNote) (count : ℕ) → notes ≡ take count timeline
    → IsUnexplained (restricted key (take count timeline)) → IsUnexplainedFront key timeline notes
front_is key timeline notes count is unexplained = record {
  count = count;
  front = is;
  unexplained = subst (λ some. IsUnexplained (restricted key some)) (sym is) unexplained;
}

-- all of them
pub whole_is : (key : List ℕ) (timeline notes : List ClientNote) → notes ≡ take (length timeline) timeline
    → IsUnexplained (restricted key timeline) → IsUnexplainedFront key timeline notes
whole_is key timeline notes is unexplained =
    front_is key timeline notes (length timeline) is
    (subst (λ some. IsUnexplained (restricted key some)) (sym (take-length timeline)) unexplained)

-- the text of such notes was appended, and then another one
pub evidence_is : (key : List ℕ) (timeline notes : List ClientNote) (old between new rest : List ℕ)
    → IsUnexplainedFront key timeline notes → between ≡ old ++ timeline_text notes → new ≡ between ++ rest
    → IsEvidence key timeline old new
evidence_is key timeline notes old between new rest shown first is = record {
  notes = notes;
  rest = rest;
  shown = shown;
  text = is ∙ ap (λ text. text ++ rest) first;
}
