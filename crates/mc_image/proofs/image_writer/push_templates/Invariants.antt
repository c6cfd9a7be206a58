use Rattle.std.proofs.Common.{◌≡◌, ◌++◌, take}
use Rattle.std.specs.List.{flat_map}
use Rattle.mc_image.specs.Image.{template_bytes}
use Rattle.mc_image.proofs.image_writer.push_templates.Given as goal

abbrev pub invariant-templates : goal.invariant-templates
invariant-templates l =
    l.out.items ≡ l.initial.out.items ++ flat_map (template_bytes l.version) (take l.template-index l.templates)
