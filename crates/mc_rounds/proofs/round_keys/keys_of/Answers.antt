use Rattle.std.specs.Option.{option_copied}
use Rattle.mc_rounds.specs.RoundKeys.{keys_of}
use Rattle.mc_rounds.proofs.KeysMore.{keys-more}
use Rattle.mc_rounds.proofs.round_keys.keys_of.Goals as goal

pub keys-preserved : goal.keys-preserved
keys-preserved c =
    let name = option_copied c.args.name in
    keys-more name c.keys.index c.from.result c.args.count c.keys.keys.items c.push.new.self.items (keys_of name c.args.count)
    c.in_ok-key_of.field-0 c.keys-test.true c.from.ensures c.in_ok-key_of.ensures c.in_ok-push.ensures.items c.keys.invariant
