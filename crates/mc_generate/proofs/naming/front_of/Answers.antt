use Rattle.mc_generate.proofs.ImageUnder.{front-written}
use Rattle.mc_generate.proofs.naming.front_of.Goals as goal

pub returns : goal.returns
returns c =
    front-written c.args.keys.now c.args.counts c.args.budgets c.push_keys.new.out.items c.append_all.new.out.items
    (rw c.new-front.ensures.items at c.in_ok-push_keys.ensures)
    (rw (c.budget_bytes.ensures, c.budget_bytes-2.ensures, c.budget_bytes-3.ensures) at c.in_ok-append_all.ensures.ok)
