use Rattle.std.proofs.Common.{◌≡◌, ◌-◌}
use Rattle.mc_image.specs.ImageReading.{items_in, template_in, templates_in}
use Rattle.mc_image.proofs.read_template.read_templates.Given as goal

abbrev pub invariant-loop : goal.invariant-loop
invariant-loop l =
    items_in (λ _. template_in l.version l.counts.keys l.counts.flags l.counts.vars) (l.count - l.counter) l.templates.items l.fields
    ≡ templates_in l.version l.counts.keys l.counts.flags l.counts.vars l.fn.fields
