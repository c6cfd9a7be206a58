use Rattle.std.proofs.Common.{◌≡◌, true, sym, None, IfOk}
use Rattle.mc_model.specs.Notes.{is_record, sections_in, fault_of}
use Rattle.mc_model.proofs.NoteFaults.{added_note, refused_note}
use Rattle.mc_model.proofs.noted_builder.NotedBuilder.push.Goals as goal

-- the notes with the one that was added
after : (c : goal.Else-is_err) → (is_record c.push.new.self.items ≡ true) × (c.add-added.new.sections ≡ sections_in c.push.new.self.items)
    × IfOk c.add-added.result (λ _. fault_of c.self.inside.notes.items (c.args.actor, c.args.note) ≡ None)
after c =
    added_note c.add-added.result c.self.inside.notes.items c.push.new.self.items (c.args.actor, c.args.note) c.self.inside.sections c.add-added.new.sections
    (sym c.if-is_err.ensures.value) c.self.invariant.0 c.self.invariant.1 (rw (← c.in_ok-copy.ensures) c.in_ok-push.ensures.items)
    c.add-added.ensures.ok c.add-added.ensures.none

pub invariant_of-self-else-is_err : goal.invariant_of-self-else-is_err
invariant_of-self-else-is_err c = let all = after c in (all.0, all.1)

pub returns-then-is_err-clause-fault : goal.returns-then-is_err-clause-fault
returns-then-is_err-clause-fault c =
    rw (← c.self.view_is)
    (refused_note c.add-added.result c.self.inside.notes.items (c.args.actor, c.args.note) c.self.inside.sections c.self.invariant.0 c.self.invariant.1
    c.add-added.ensures.fault)

pub returns-else-is_err-clause-history : goal.returns-else-is_err-clause-history
returns-else-is_err-clause-history c = rw (← c.self.view_is) (after c).2

pub returns-else-is_err-clause-keeps : goal.returns-else-is_err-clause-keeps
returns-else-is_err-clause-keeps c = (after c).0
