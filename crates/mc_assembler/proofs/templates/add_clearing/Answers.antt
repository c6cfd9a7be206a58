use Rattle.std.proofs.Common.{◌≡◌, ◌+◌, ◌∷◌, [], drop, get_or, arith}
use Rattle.std.proofs.{lemmas.Grind.common_steps, lemmas.List.drop_more}
use Rattle.mc_assembler.proofs.templates.add_clearing.Goals as goal

pub keys-preserved : goal.keys-preserved
keys-preserved c =
    let keys = c.args.keys.now in
    let rest : drop c.keys.key keys ≡ get_or keys c.keys.key [] ∷ drop (c.keys.key + 1) keys = drop_more keys c.keys.key [] c.keys-test.true in
    let so_far = rw rest at c.keys.invariant in
    grind (arith, common_steps)
