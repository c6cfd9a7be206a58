use Rattle.std.proofs.Common.{◌≡◌, ◌-◌}
use Rattle.mc_generate.specs.{Outputs.outputs_of, Pieces.pieces_in, Branches.with_pieces, Generated.branch_of}
use Rattle.mc_generate.proofs.script.draw_branch.Given as goal

abbrev pub invariant-pieces : goal.invariant-pieces
invariant-pieces l =
    let left = pieces_in (l.count - l.index) (outputs_of l.generator) in
    let all = pieces_in l.count (outputs_of l.initial.generator) in
    (with_pieces l.index left.0 l.branch ≡ branch_of all.0) × (left.1 ≡ all.1)
