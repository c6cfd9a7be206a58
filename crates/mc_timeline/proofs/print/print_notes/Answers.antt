use Rattle.mc_history.specs.PrintedHistory.{line_text}
use Rattle.mc_history.proofs.PrintedLines.{printed_more}
use Rattle.mc_timeline.specs.{Timelines.ClientNote, TimelineText.client_note_words, PrintedNotes.MaySpellItself}
use Rattle.mc_timeline.proofs.print.print_notes.Goals as goal

pub noting-preserved : goal.noting-preserved
noting-preserved c =
    printed_more (λ (noted : ClientNote). line_text (client_note_words noted)) MaySpellItself c.args.out.now.items _ _ c.args.notes.now
    c.noting.client-index c.noting-item.result c.noting-item.result c.noting-test.true c.noting-item.is c.noting.invariant
    c.in_ok-print_note.ensures.ok (c.print_note.ensures.fits, c.in_ok-print_note.ensures.spells)
