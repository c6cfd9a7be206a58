use Rattle.std.proofs.Common.{◌≡◌, ◌∙◌, sym, Some, slice_get, arith}
use Rattle.std.proofs.lemmas.Option.{slice_get-get_or}
use Rattle.std.specs.Prelude.{slice_index_or}
use Rattle.mc_timeline.specs.Timelines.{ClientNote}
use Rattle.mc_linearize.proofs.Settling.{crosses, stops}
use Rattle.mc_linearize.proofs.standing.settled.Goals as goal

pub places-preserved : goal.places-preserved
places-preserved c =
    let notes = c.args.notes.now in
    let place = c.places.place in
    let n : ClientNote = slice_index_or notes place c.index-notes-place.result in
    let less = c.places-test.true in
    let got : slice_get notes place ≡ Some n = slice_get-get_or notes place c.index-notes-place.result less in
    record {
      none = crosses notes c.args.queues.now c.args.counts.now place n c.requires.standing got (sym c.is_answered_at.ensures ∙ c.if-is_answered_at.false)
          c.places.invariant.none;
      within = omega arith;
    }

pub returns-then-is_answered_at-clause-settled : goal.returns-then-is_answered_at-clause-settled
returns-then-is_answered_at-clause-settled c =
    let n : ClientNote = slice_index_or c.args.notes.now c.places.place c.index-notes-place.result in
    record {
      none = c.places.invariant.none;
      last = λ time less h. stops c.args.queues.now c.args.counts.now c.places.place n.0 time (sym c.is_answered_at.ensures ∙ c.if-is_answered_at.true) h;
    }
