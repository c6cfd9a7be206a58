use Rattle.std.proofs.Common.{◌≡◌, append_assoc, ap, refl, codes, slice_get, ◌∙◌, ◌++◌, ℕ, List}
use Rattle.std.proofs.lemmas.Result.{on_ok_weaker}
use Rattle.mc_history.proofs.PrintedLines.{appended}
use Rattle.mc_timeline.specs.Timelines.{ClientNote}
use Rattle.mc_timeline_why.specs.{Fronts.front, TimelineWhyText.explained_text, TimelineWhyText.overlap_text, TimelineWhyText.place_text}
use Rattle.mc_timeline_why.proofs.report.print_cause.Goals as goal

five_parts : (out a b c d e : List ℕ) → ((((out ++ a) ++ b) ++ c) ++ d) ++ e ≡ out ++ (a ++ (b ++ (c ++ (d ++ e))))
five_parts out a b c d e =
    append_assoc (((out ++ a) ++ b) ++ c) d e ∙ append_assoc ((out ++ a) ++ b) c (d ++ e) ∙ append_assoc (out ++ a) b (c ++ (d ++ e))
    ∙ append_assoc out a (b ++ (c ++ (d ++ e)))

pub returns : goal.returns
returns c =
    let out = c.args.out.now.items in
    let head : List ℕ = codes "why\n" in
    let place : List ℕ = place_text c.args.line (slice_get c.args.timeline.now c.args.cause.now.place) in
    let before : List ℕ = explained_text (front c.args.key.now c.args.cause.now.place c.args.timeline.now) c.args.cause.now.explanation in
    let lines : List ℕ = overlap_text c.args.overlap.now in
    let last : List ℕ = codes "end\n" in
    on_ok_weaker c.extend_from_slice-2.result
    (λ e. e ∙ ap (λ (l : List ℕ). l ++ last) c.in_ok-print_overlap.ensures
    ∙ ap (λ (l : List ℕ). (l ++ lines) ++ last) c.in_ok-print_before.ensures
    ∙ ap (λ (l : List ℕ). ((l ++ before) ++ lines) ++ last) c.in_ok-print_place.ensures
    ∙ ap (λ (n : List ClientNote).
    (((c.extend_from_slice.new.self.items ++ place_text c.args.line (slice_get n c.args.cause.now.place)) ++ before) ++ lines) ++ last)
    c.notes.ensures.notes
    ∙ ap (λ (l : List ℕ). (((l ++ place) ++ before) ++ lines) ++ last) c.in_ok-extend_from_slice.ensures.items
    ∙ five_parts out head place before lines last)
    (appended c.extend_from_slice-2.result c.print_overlap.new.out.items c.extend_from_slice-2.new.self.items last last
    c.extend_from_slice-2.ensures.items refl)
