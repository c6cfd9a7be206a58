use Rattle.std.proofs.Common.{◌≡◌, inl, inr, sym, ◌∙◌}
use Rattle.std.proofs.lemmas.Result.{err_from_is_err_and}
use Rattle.mc_history.specs.HistoryText.{end_line, explain_line}
use Rattle.mc_history.proofs.Reading.{read_on, read_all, stops, stops_at, ended}
use Rattle.mc_timeline_text.proofs.TextLines.{notes_are_readable, notes_read}
use Rattle.mc_timeline_text.proofs.{ClientLines.note_from, ClientLines.no_note_from, TailLines.no_tail_at, TailLines.note_is_not_last}
use Rattle.mc_timeline_text.proofs.notes.read_notes.Goals as goal

pub returns-in_err-line-clause-none : goal.returns-in_err-line-clause-none
returns-in_err-line-clause-none c =
    let p = err_from_is_err_and c.from_residual.result c.from_residual.ensures.1 in
    rw (p.1, p.2) (λ real. ended notes_are_readable c.noting.builder c.noting.lines.words (c.in_err-line.ensures.end real) c.noting.invariant.0)

pub returns-then-is_last-clause-exact : goal.returns-then-is_last-clause-exact
returns-then-is_last-clause-exact c =
    let last = c.is_last.ensures.0 (cc (c.if-is_last.true)) in
    rw c.finish.ensures (notes_read c.noting.builder _ c.noting.invariant.1
    (read_all notes_are_readable c.noting.builder c.in_ok-line.line.words _ _ c.in_ok-line.ensures.line
    (λ next spelled. note_is_not_last _ next spelled last) c.noting.invariant.0))

pub returns-in_err-client-clause-none : goal.returns-in_err-client-clause-none
returns-in_err-client-clause-none c =
    let p = err_from_is_err_and c.from_residual-in_err-client.result c.from_residual-in_err-client.ensures.1 in
    rw (p.1, p.2) (λ real. stops notes_are_readable c.noting.builder c.in_ok-line.line.words _ _ c.in_ok-line.ensures.line
    (λ next spelled may. c.in_err-client.ensures.none next.0 spelled.1 spelled.0.0 spelled.0.1)
    (λ s after. no_tail_at c.in_ok-line.line.words _ s.1 (λ e. let last = c.is_last.ensures.1 (inl e) in cc (last, c.if-is_last.false))
    (λ e. let last = c.is_last.ensures.1 (inr e) in cc (last, c.if-is_last.false)) after.2) c.noting.invariant.0)

pub returns-in_err-note-clause-none : goal.returns-in_err-note-clause-none
returns-in_err-note-clause-none c =
    let p = err_from_is_err_and c.from_residual-in_err-note.result c.from_residual-in_err-note.ensures.1 in
    rw (p.1, p.2) (λ real. stops notes_are_readable c.noting.builder c.in_ok-line.line.words _ _ c.in_ok-line.ensures.line
    (λ next spelled may. no_note_from c.in_ok-line.line.words _ c.others.ensures (c.in_err-note.ensures.none real) next spelled)
    (λ s after. no_tail_at c.in_ok-line.line.words _ s.1 (λ e. let last = c.is_last.ensures.1 (inl e) in cc (last, c.if-is_last.false))
    (λ e. let last = c.is_last.ensures.1 (inr e) in cc (last, c.if-is_last.false)) after.2) c.noting.invariant.0)

pub returns-in-Err-clause-none : goal.returns-in-Err-clause-none
returns-in-Err-clause-none c = λ real.
    let spelled = note_from c.in_ok-line.line.words _ c.in_ok-client.ensures.found.0 c.in_ok-client.client c.in_ok-note.note c.in_ok-client.ensures.small
    c.in_ok-client.ensures.found.1 c.others.ensures c.in_ok-note.ensures.found in
    let fault = c.in-Err.ensures.fault (λ e. real (c.of_line.ensures.kind ∙ e)) in
    stops_at notes_are_readable c.noting.builder c.in_ok-line.line.words _ _ (c.in_ok-client.client, c.in_ok-note.note) c.in_ok-line.ensures.line spelled
    (λ may. let clash = sym fault ∙ may in cc) c.noting.invariant.0

pub noting-preserved : goal.noting-preserved
noting-preserved c = (
  read_on notes_are_readable c.noting.builder _ c.in_ok-line.line.words _ _ (c.in_ok-client.client, c.in_ok-note.note) c.in_ok-line.ensures.line
      c.in_default-push.ensures.ok
      (note_from c.in_ok-line.line.words _ c.in_ok-client.ensures.found.0 c.in_ok-client.client c.in_ok-note.note c.in_ok-client.ensures.small
      c.in_ok-client.ensures.found.1 c.others.ensures c.in_ok-note.ensures.found)
      c.in_default-push.ensures.faultless c.noting.invariant.0,
  c.push.ensures.keeps,
)
