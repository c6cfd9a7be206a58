use Rattle.std.proofs.Common.{◌++◌, refl, sym, ap, ◌∙◌}
use Rattle.std.proofs.lemmas.Result.{err_from_is_err_and}
use Rattle.mc_protocol.specs.LeftWords.{LeftWords}
use Rattle.mc_timeline_text.proofs.TextLines.{notes_of_text, text_of_notes}
use Rattle.mc_timeline_text.proofs.text.parse_timeline.Goals as goal

pub returns-in_err-take_header-clause-none : goal.returns-in_err-take_header-clause-none
returns-in_err-take_header-clause-none c =
    let p = err_from_is_err_and c.from_residual.result c.from_residual.ensures.1 in
    let start = ap (λ (t : LeftWords). t.words) c.new-lines.ensures in
    rw (p.1, p.2) (λ real s spelled. c.in_err-take_header.ensures.none real (spelled.noted ++ spelled.tail) (start ∙ spelled.lines))

pub returns-in_err-timeline-clause-none : goal.returns-in_err-timeline-clause-none
returns-in_err-timeline-clause-none c =
    let p = err_from_is_err_and c.from_residual-in_err-timeline.result c.from_residual-in_err-timeline.ensures.1 in
    let lines = sym (ap (λ (t : LeftWords). t.words) c.new-lines.ensures) ∙ c.in_ok-take_header.ensures.header in
    rw (p.1, p.2) (λ real s spelled. c.in_err-timeline.ensures.none real s (notes_of_text c.args.text.now _ s lines spelled))

pub returns-in_err-explanation-clause-none : goal.returns-in_err-explanation-clause-none
returns-in_err-explanation-clause-none c =
    let p = err_from_is_err_and c.from_residual-in_err-explanation.result c.from_residual-in_err-explanation.ensures.1 in
    let lines = sym (ap (λ (t : LeftWords). t.words) c.new-lines.ensures) ∙ c.in_ok-take_header.ensures.header in
    rw (p.1, p.2) (λ real s spelled.
    c.in_err-explanation.ensures.none real s.1 ((c.in_ok-timeline.ensures.exact s).0 (notes_of_text c.args.text.now _ s lines spelled)).1)

pub returns-clause-found : goal.returns-clause-found
returns-clause-found c =
    let lines = sym (ap (λ (t : LeftWords). t.words) c.new-lines.ensures) ∙ c.in_ok-take_header.ensures.header in
    let on = (c.in_ok-timeline.ensures.exact (c.in_ok-timeline.timeline, c.in_ok-explanation.explanation)).1 (refl, c.in_ok-explanation.ensures.found) in
    text_of_notes c.args.text.now _ (c.in_ok-timeline.timeline, c.in_ok-explanation.explanation) lines on
