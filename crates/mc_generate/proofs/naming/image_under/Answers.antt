use Rattle.std.proofs.Common.{◌∙◌}
use Rattle.mc_generate.proofs.{ImageUnder.front-within, ImageUnder.image-joined, KeysUnder.short-under}
use Rattle.mc_generate.proofs.naming.image_under.Goals as goal

pub front_of-requires-2-clause-short : goal.front_of-requires-2-clause-short
front_of-requires-2-clause-short c =
    rw (c.deref-2.ensures.value, c.in_ok-keys.ensures, c.keys-2.ensures.keys) (short-under c.args.name.now c.args.code.now.keys c.requires)

pub after_front-requires : goal.after_front-requires
after_front-requires c =
    let is = c.deref.ensures.value ∙ (rw c.new-written.ensures.items at c.in_ok-encode.ensures.ok) in
    let was = c.deref-4.ensures.value ∙ (rw (c.keys.ensures.keys, c.counts_of-counts.ensures, c.budgets_of.ensures.budgets) at c.in_ok-old.ensures) in
    rw c.split_at.ensures.back (front-within c.args.code.now c.deref.result.now is c.deref-4.result.now was)

pub returns : goal.returns
returns c =
    let is = c.deref.ensures.value ∙ (rw c.new-written.ensures.items at c.in_ok-encode.ensures.ok) in
    let was = c.deref-4.ensures.value ∙ (rw (c.keys.ensures.keys, c.counts_of-counts.ensures, c.budgets_of.ensures.budgets) at c.in_ok-old.ensures) in
    let becomes = c.deref-3.ensures.value
    ∙ (rw (c.deref-2.ensures.value, c.in_ok-keys.ensures, c.keys-2.ensures.keys, c.counts_of-counts.ensures, c.budgets_under.ensures.budgets)
    at c.in_ok-new.ensures) in
    let joined = rw (c.new-image.ensures.items, c.split_at.ensures.front, c.after_front.ensures, c.split_at.ensures.back)
    at c.in_ok-append_all.ensures.ok in
    image-joined c.args.code.now c.deref.result.now is c.args.name.now c.deref-4.result.now c.deref-3.result.now c.append_all.new.out.items was becomes
    joined
