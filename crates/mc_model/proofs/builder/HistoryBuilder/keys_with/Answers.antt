use Rattle.std.proofs.Common.{◌≡◌, true, arith}
use Rattle.mc_model.specs.History.{is_history, key_count}
use Rattle.mc_model.proofs.Faults.{few_keys_in}
use Rattle.mc_model.proofs.builder.HistoryBuilder.keys_with.Goals as goal

pub overflow_add-result : goal.overflow_add-result
overflow_add-result c =
    let h : is_history c.args.self.now ≡ true = rw (← c.self.view_is) c.self.invariant.0 in
    let keys : c.self.inside.keys ≡ key_count c.args.self.now = rw (← c.self.view_is) c.self.invariant.1 in
    omega (arith, few_keys_in c.args.self.now h)
