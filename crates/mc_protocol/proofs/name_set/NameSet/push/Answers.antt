use Rattle.std.proofs.Common.{◌≡◌, ◌∷◌, [], ◌++◌, ap, ◌∙◌}
use Rattle.mc_protocol.proofs.NameSets.{agrees_more}
use Rattle.mc_protocol.proofs.name_set.NameSet.push.Goals as goal

pub invariant_of-self-2 : goal.invariant_of-self-2
invariant_of-self-2 c =
    let grown : c.push_reserved.new.self.items ≡ c.self.inside.names.items ++ c.args.name ∷ [] =
    c.push_reserved.ensures.items ∙ ap (λ items. items ++ c.args.name ∷ []) c.reserve.ensures.items in
    agrees_more c.args.name c.self.inside.set.keys c.insert.new.self.keys c.self.inside.names.items c.push_reserved.new.self.items
    c.in_ok-insert.ensures.keys grown c.self.invariant
