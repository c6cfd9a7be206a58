use Rattle.std.proofs.Common.{ap, sym, subst, ◌∙◌}
use Rattle.mc_core.specs.{Fields.world_in, Held.Held}
use Rattle.mc_core.proofs.Recording.{IsAt, is_at, begins_named, recorded_next, counts_next, counts_room}
use Rattle.mc_core.proofs.{HeldWorlds.Fields, Taking.fields_of, world.World.record.Goals.After-get}
use Rattle.mc_core.proofs.world.World.record.Goals as goal

-- what the fields are, and where the note stands
here : (c : After-get) → Fields c.args.checked.now.code c.self.inside.sections c.as_slice-notes.result.now
    × IsAt c.as_slice-notes.result.now c.recording.actor-index c.recording-item.result
here c = (
  subst (Fields c.args.checked.now.code c.self.inside.sections) (sym c.as_slice-notes.ensures.value)
      (fields_of _ _ _ _ _ c.requires.held c.self.view_is c.self.invariant),
  is_at _ c.recording.actor-index c.recording-item.result c.recording-test.true c.recording-item.is,
)

pub note_of-requires : goal.note_of-requires
note_of-requires c =
    let at = here (goal.at.note_of-requires c).After-get in
    rw (c.code-code.ensures.code, c.get-section.ensures, c.get.ensures ∙ c.recording.invariant.begun c.recording-item.result.0)
    (begins_named _ c.self.inside.sections _ _ c.recording-item.result.0 c.recording-item.result.1 at.0 at.1)

pub count_begin-requires : goal.count_begin-requires
count_begin-requires c =
    let at = here (goal.at.count_begin-requires c).After-get in
    counts_room _ c.self.inside.sections _ _ c.recording-item.result c.recording.begun at.0 c.know_code.ensures.kept c.know_code.ensures.sound at.1
    c.recording.invariant.begun

pub recording-preserved : goal.recording-preserved
recording-preserved c =
    let s = c.self.inside.sections in
    let at = here (goal.at.recording-preserved c).After-get in
    let world = ap (world_in s) c.as_slice-notes.ensures.value ∙ ap (λ (h : Held). h.world) c.self.view_is in record {
      items =
          rw (
            c.in_ok-add_note.ensures,
            c.in_ok-note.ensures,
            c.code-code.ensures.code,
            c.get-section.ensures,
            c.get.ensures ∙ c.recording.invariant.begun c.recording-item.result.0,
            ← world,
          )
          (recorded_next _ s _ _ c.recording-item.result.0 c.recording-item.result.1 _ at.0 at.1 (rw world c.recording.invariant.items));
      begun =
          counts_next c.recording.begun c.count_begin.new.begun _ _ c.recording-item.result.0 c.recording-item.result.1 c.recording.invariant.begun
          c.count_begin.ensures at.1;
    }
