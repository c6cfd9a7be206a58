use Rattle.std.proofs.Common.{inl, inr}
use Rattle.mc_command.proofs.playing.read_code.Goals as goal

pub returns-clause-unplayed : goal.returns-clause-unplayed
returns-clause-unplayed g c =
    let target = c.args.target.now in
    let read = rw c.in-Ok.is at c.in_ok-text.ensures.text in
    let unplayed = rw c.as_slice.ensures.value at c.in-Err-read_target_code.ensures.refused in
    let refuses = c.in_ok-unplayed_answer-in-Err-read_target_code.ensures target.how.why target.name c.in-Ok.text.items unplayed in
    (c.in-Ok.text.items, read.1, inl (read.0, inr refuses))
