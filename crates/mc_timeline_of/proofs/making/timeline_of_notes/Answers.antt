use Rattle.std.proofs.Common.{[], ◌∷◌, ◌++◌, ◌∙◌, sym}
use Rattle.mc_timeline.specs.Rules as rule
use Rattle.mc_timeline_of.proofs.Faultless.{is_faultless, one_more}
use Rattle.mc_timeline_of.proofs.making.timeline_of_notes.Goals as goal

pub add-requires : goal.add-requires
add-requires c =
    let free = is_faultless c.args.notes.now c.noting.actor-index c.noting-item.result c.requires c.noting-test.true c.noting-item.is in
    (λ i. rule.fault_of (c.noting.invariant i) (c.client_of.ensures i, c.in_ok-copy.ensures i)) ∙ free

pub noting-preserved : goal.noting-preserved
noting-preserved c =
    let more = one_more c.args.notes.now c.noting.actor-index c.noting-item.result c.noting-test.true c.noting-item.is in
    c.in_ok-add.ensures
    ∙ (λ i. c.noting.invariant i ++ (c.client_of.ensures i, c.in_ok-copy.ensures i) ∷ [])
    ∙ sym more
