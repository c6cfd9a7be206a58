use Rattle.std.proofs.Common.{◌≡◌, ◌+◌, ◌-◌, [], ◌∷◌, ◌++◌, length, take, drop, sym, ap, ◌∙◌, append_assoc}
use Rattle.std.proofs.lemmas.List.{take_rest}
use Rattle.mc_reader.specs.{AskEnds.AskEnds, AskLines.line_says, AskParts.said_of, AskStages.IsAskStageAt, Gathered.IsGathered, Lines.LF}
use Rattle.mc_reader.proofs.{AskSteps.ask_step_after, Blocks.line_in, Gathers.line_is}
use Rattle.mc_reader.proofs.ask_stage.read_ask_line.Goals as goal

pub returns-in-Ok-Some : goal.returns-in-Ok-Some
returns-in-Ok-Some c =
    let start = c.args.start.items in
    let piece = c.args.piece.now in
    let at = c.in-Ok-Some.at in
    let front = take at piece in
    let g : IsGathered start c.gather.new.start.items piece at =
    rw c.in-Ok-Some.field-0-is at c.in-Ok-Some.ensures in
    let line = line_is start c.gather.new.start.items front c.joined.result.now g.kept c.joined.ensures in
    let says : line_says (start ++ front) ≡ said_of c.in_ok-said-in-Ok-Some.said =
    ap line_says (sym line) ∙ sym c.in_ok-said-in-Ok-Some.ensures in
    ask_step_after AskEnds IsAskStageAt start (front ++ LF ∷ []) (take (length piece - (at + 1)) (drop (at + 1) piece))
    ((start ++ front) ++ LF ∷ []) piece c.read_after_line.result (append_assoc start front (LF ∷ []))
    (sym (line_in piece at g.end_at) ∙ ap (λ u. (front ++ LF ∷ []) ++ u) (sym (take_rest piece (at + 1))))
    (c.read_after_line.ensures (start ++ front) g.line says)
