use Rattle.std.proofs.lemmas.Result.{err_from_is_err_and}
use Rattle.mc_image.specs.ImageReading.{template_in}
use Rattle.mc_image.proofs.Items.{goes_on, ends, is_done}
use Rattle.mc_image.proofs.read_template.read_templates.Goals as goal

pub returns-in_err-template : goal.returns-in_err-template
returns-in_err-template c =
    let p = err_from_is_err_and c.from_residual-in_err-template.result c.from_residual-in_err-template.ensures.1 in
    rw (p.1, p.2) (
      (λ real. ends (λ _. template_in c.args.version c.args.counts.keys c.args.counts.flags c.args.counts.vars) c.in_ok-count.count c.loop.counter
          c.loop.templates.items c.loop.fields _ c.loop-test.true (c.in_err-template.ensures.0 real) c.loop.invariant),
      c.in_err-template.ensures.1,
    )

pub loop-preserved : goal.loop-preserved
loop-preserved c =
    rw c.in_ok-push.ensures.items (goes_on (λ _. template_in c.args.version c.args.counts.keys c.args.counts.flags c.args.counts.vars) c.in_ok-count.count
    c.loop.counter c.loop.templates.items c.loop.fields c.in_ok-template.template c.read_template.new.fields _ c.loop-test.true
    c.in_ok-template.ensures c.loop.invariant)

pub returns : goal.returns
returns c = is_done (λ _. template_in c.args.version c.args.counts.keys c.args.counts.flags c.args.counts.vars) c.in_ok-count.count c.loop.counter
    c.loop.templates.items c.loop.fields _ c.loop-test.false c.loop.invariant
