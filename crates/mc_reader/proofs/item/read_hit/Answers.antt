use Rattle.std.proofs.Common.{sym, ap, ◌∙◌}
use Rattle.mc_reader.specs.{Items.cas_in, Words.hit_says}
use Rattle.mc_reader.proofs.ItemLemmas.{hit_is, another_value, another_count, value_differs, value_same, counts_same, counts_differ}
use Rattle.mc_reader.proofs.item.read_hit.Goals.{then-ne-via-then-ne, then-ne-via-else-ne+then-is_some-shows_number}
use Rattle.mc_reader.proofs.item.read_hit.Goals as goal

pub returns-then-ne : goal.returns-then-ne
returns-then-ne c =
    let verb = c.args.shape.verb in
    let key = c.args.shape.key.now in
    let item = c.in-Some.item in
    let words = ap (hit_says verb key) c.in-Some.ensures in
    elim c.then-ne.branch [
      | then-ne-via-then-ne w ↦ sym
          (words ∙ another_value verb key item.value.now item.name.now item.flags.now item.body_len.now (cas_in item)
          (value_differs item.value.now c.as_slice.result.now c.as_slice.ensures w.if-ne.ensures))
      | then-ne-via-else-ne+then-is_some-shows_number w ↦ sym
          (words ∙ another_count verb key item.value.now item.name.now item.flags.now item.body_len.now (cas_in item)
          (counts_differ item.cas verb w.is_some.result w.shows_number.result w.is_some.ensures w.shows_number.ensures
          w.if-is_some-shows_number.true))
    ]

pub returns : goal.returns
returns c =
    let verb = c.args.shape.verb in
    let key = c.args.shape.key.now in
    let item = c.in-Some.item in
    c.read_item.ensures ∙ sym (ap (hit_says verb key) c.in-Some.ensures
    ∙ hit_is verb key item.value.now item.name.now item.flags.now item.body_len.now (cas_in item)
    (value_same item.value.now c.as_slice.result.now c.as_slice.ensures c.if-ne.ensures)
    (counts_same item.cas verb c.is_some.result c.shows_number.result c.is_some.ensures c.shows_number.ensures
    c.if-is_some-shows_number.false))
