use Rattle.std.proofs.Common.{◌≡◌, ◌+◌, ◌-◌, List, ap₂, drop, length, take, ◌∙◌}
use Rattle.std.proofs.lemmas.List.{take_rest}
use Rattle.mc_timeline.specs.Timelines.{ClientNote}
use Rattle.mc_timeline_why.specs.Fronts.{is_open}
use Rattle.mc_timeline_why.proofs.Opened.{opened}
use Rattle.mc_timeline_why.proofs.overlap.open_requests.Goals as goal

pub notes-preserved : goal.notes-preserved
notes-preserved c =
    let notes = c.args.notes.now in
    let key = c.args.key.now in
    let place = c.notes.place in
    let x : ClientNote = c.index-notes-place.result in
    let later : take (length notes - (place + 1)) (drop (place + 1) notes) ≡ drop (place + 1) notes = take_rest notes (place + 1) in
    opened key notes place x c.notes.places.items _ _ c.is_open-is.result c.notes-test.true
    (c.is_open-is.ensures ∙ ap₂ (λ (y : ClientNote) (l : List ClientNote). is_open key y l) c.index-notes-place.is later)
    c.in_ok-push_if.ensures c.notes.invariant
