use Rattle.std.proofs.Common.{◌≡◌, [], rules}
use Rattle.mc_history.proofs.PrintedLines.{appended}
use Rattle.mc_timeline_text.specs.TimelineTexts.{claim_text}
use Rattle.mc_timeline_text.proofs.PrintedMoves.{claim_parts}
use Rattle.mc_timeline_text.proofs.print.print_timeline_explanation.Goals as goal

pub returns-clause-ok : goal.returns-clause-ok
returns-clause-ok c =
    let claim = c.args.explanation.now in
    let none : c.new-text.result.items ≡ [] = search rules in
    let start : c.as_slice.result.now ≡ claim.start = search rules in
    let moves : c.as_slice-2.result.now ≡ claim.moves = search rules in
    let text : c.as_slice-3.result.now ≡ claim_text claim =
    rw (c.as_slice-3.ensures.value, c.in_ok-print_moves.ensures, c.in_ok-print_starts.ensures.ok, start, moves, none)
    (claim_parts [] claim.start claim.moves) in
    appended c.extend_from_slice.result c.args.out.now.items c.extend_from_slice.new.self.items c.as_slice-3.result.now (claim_text claim)
    c.extend_from_slice.ensures.items text
