use Rattle.std.proofs.Common.{◌≡◌, ◌∙◌, ◌++◌, ◌∷◌, [], ap, sym, rules}
use Rattle.std.proofs.lemmas.Result.{err_from_is_err_and}
use Rattle.mc_image.specs.ImageReading.{key_in}
use Rattle.mc_image.proofs.Items.{goes_on, ends, is_done}
use Rattle.mc_image.proofs.read_declared.read_keys.Goals as goal

pub returns-in_err-key : goal.returns-in_err-key
returns-in_err-key c =
    let p = err_from_is_err_and c.from_residual-in_err-key.result c.from_residual-in_err-key.ensures.1 in
    rw (p.1, p.2) (
      (λ _. ends key_in c.in_ok-count.count c.loop.counter c.loop.keys.items c.loop.fields _ c.loop-test.true
          (ap (λ keys. key_in keys c.loop.fields) (sym c.as_slice.ensures.value) ∙ c.in_err-key.ensures.0) c.loop.invariant),
      (λ memory. absurd (c.in_err-key.ensures.1 memory)),
    )

pub loop-preserved : goal.loop-preserved
loop-preserved c =
    let items : c.push.new.self.items ≡ c.loop.keys.items ++ c.in_ok-key.key.now ∷ [] = search rules in
    rw items (goes_on key_in c.in_ok-count.count c.loop.counter c.loop.keys.items c.loop.fields c.in_ok-key.key.now c.read_key.new.fields _ c.loop-test.true
    (ap (λ keys. key_in keys c.loop.fields) (sym c.as_slice.ensures.value) ∙ c.in_ok-key.ensures) c.loop.invariant)

pub returns : goal.returns
returns c = is_done key_in c.in_ok-count.count c.loop.counter c.loop.keys.items c.loop.fields _ c.loop-test.false c.loop.invariant
