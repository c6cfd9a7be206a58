use Rattle.std.proofs.Common.{◌≡◌, subst}
use Rattle.std.specs.List.{All}
use Rattle.mc_history.proofs.PrintedLines.{appended, on_ok_from}
use Rattle.mc_timeline.specs.{TimelineText.timeline_text, PrintedNotes.MaySpellItself}
use Rattle.mc_timeline.proofs.PrintedNotes.{text_parts, printed_timeline}
use Rattle.mc_timeline.proofs.print.print_timeline.Goals as goal

pub returns-clause-ok : goal.returns-clause-ok
returns-clause-ok c =
    let text : c.as_slice.result.now ≡ timeline_text c.args.timeline.now =
    rw (
      c.as_slice.ensures.value,
      c.in_ok-extend_from_slice-2.ensures.items,
      c.in_ok-print_notes.ensures.ok,
      c.in_ok-extend_from_slice.ensures.items,
      c.new-text.ensures.items,
      c.notes.ensures.notes,
    ) (text_parts c.args.timeline.now) in
    appended c.extend_from_slice-3.result c.args.out.now.items c.extend_from_slice-3.new.self.items c.as_slice.result.now
    (timeline_text c.args.timeline.now) c.extend_from_slice-3.ensures.items text

pub returns-clause-spells : goal.returns-clause-spells
returns-clause-spells c =
    on_ok_from c.extend_from_slice-3.result
    (printed_timeline c.args.timeline.now c.notes.ensures.timeline (subst (All MaySpellItself) c.notes.ensures.notes c.in_ok-print_notes.ensures.spells))
