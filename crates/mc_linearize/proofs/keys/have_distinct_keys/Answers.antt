use Rattle.std.proofs.Common.{◌≡◌, length, rules, sym, subst, ◌∙◌, ap}
use Rattle.std.proofs.lemmas.Iterator.{YieldsList-from_slice, YieldsList-from_map_by, items_from_drains}
use Rattle.std.proofs.{lemmas.Iterator.Consumers.YieldsList-at, lemmas.List.length-map}
use Rattle.std.specs.Cmp.{unsigned_Decides}
use Rattle.mc_history.specs.Distinct.{AreDistinct}
use Rattle.mc_claims.proofs.Keys.{distinct_from_count, count_from_distinct}
use Rattle.mc_linearize.proofs.keys.have_distinct_keys.Goals as goal

pub returns : goal.returns
returns c =
    let start = c.args.start.now in
    let ran = c.in_ok-keys.ensures.ran in
    let items = items_from_drains ran.0 ran.1
    (YieldsList-from_map_by _ (λ k. k.now) (λ k. k.0) (YieldsList-at c.map.ensures.source (YieldsList-from_slice _ c.iter.ensures.rest)) c.map.ensures.closure
    (λ x r q k. search rules)) in
    let lengths : length ran.0 ≡ length start = sym (length-map ran.0 _) ∙ ap length items ∙ length-map start _ in
    let test = unsigned_Decides c.len.result (length start) in (
      λ t. subst AreDistinct items (distinct_from_count ran.0 c.in_ok-keys.keys ran.2 (sym c.len.ensures.len ∙ test.0 t ∙ sym lengths)),
      λ d. test.1 (c.len.ensures.len ∙ count_from_distinct ran.0 c.in_ok-keys.keys ran.2 (subst AreDistinct (sym items) d) ∙ lengths),
    )
