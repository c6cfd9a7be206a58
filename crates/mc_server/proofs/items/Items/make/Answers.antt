use Rattle.std.proofs.Common.{false, Option, Some, refl, sym, ap, ◌∙◌}
use Rattle.std.proofs.lemmas.Result.{on_ok_weaker, on_err_weaker}
use Rattle.std.specs.FinMap as finite_map
use Rattle.mc_model.specs.{Contents.contents_of, Decide.change_at, Decide.made_by, declared.cache.Item.Item}
use Rattle.mc_server.specs.Made.{with_made}
use Rattle.mc_server.proofs.Maps.{got, kept_entries, made_entries}
use Rattle.mc_server.proofs.items.Items.make.Goals as goal

pub returns-in-Some-clause-ok : goal.returns-in-Some-clause-ok
returns-in-Some-clause-ok c =
    let request = c.args.request.now in
    let entries = c.self.inside.map.entries in
    let old = c.in-Some.item.now in
    let w = c.renew.new.item in
    let held = c.get_mut.follows.holds w in
    let found = c.in-Some.ensures.value in
    let there = found ∙ got request.key entries ∙ ap (λ m. finite_map.get m request.key) c.self.view_is in
    let made : Option Item → Option Item = λ o. made_by (change_at request false c.args.number o c.args.change) in
    on_ok_weaker c.renew.result (λ is.
    made_entries entries (c.get_mut.follows.lender w).entries request.key old w (made (Some old)) found is held.0 (λ q. (held.3 (rw (← found) refl)).0 q)
    ∙ ap (λ m. with_made m request.key (made (Some old))) c.self.view_is
    ∙ ap (λ o. with_made c.args.self.now request.key (made o)) there) c.renew.ensures.ok

pub returns-in-Some-clause-err : goal.returns-in-Some-clause-err
returns-in-Some-clause-err c =
    let w = c.renew.new.item in
    on_err_weaker c.renew.result (λ is.
    kept_entries c.self.inside.map.entries (c.get_mut.follows.lender w).entries c.args.request.now.key c.in-Some.item.now w c.in-Some.ensures.value is
    (c.get_mut.follows.holds w).0
    ∙ c.self.view_is) c.renew.ensures.err

pub returns-in-None-2-clause-ok : goal.returns-in-None-2-clause-ok
returns-in-None-2-clause-ok c =
    let request = c.args.request.now in
    let made : Option Item → Option Item = λ o. made_by (change_at request false c.args.number o c.args.change) in
    let there = c.in-None.ensures.value ∙ got request.key c.self.inside.map.entries ∙ ap (λ m. finite_map.get m request.key) c.self.view_is in
    ap (λ m. contents_of m.entries) c.get_mut.follows.holds-at-none ∙ c.self.view_is
    ∙ ap (with_made c.args.self.now request.key) (sym c.in-None-2.is ∙ c.in_ok-item-in-None.ensures)
    ∙ ap (λ o. with_made c.args.self.now request.key (made o)) there
