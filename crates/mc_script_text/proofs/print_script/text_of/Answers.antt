use Rattle.mc_script_text.proofs.{PrintedScripts.printed_scripts, PrintedTexts.script_text-made}
use Rattle.mc_script_text.proofs.print_script.text_of.Goals as goal

pub returns-clause-text : goal.returns-clause-text
returns-clause-text c =
    script_text-made c.args.script.now c.version_of.result c.names-names.result.now c.budget.result c.budget-2.result c.budget-3.result c.section.result.now
    c.section-2.result.now
    c.section-3.result.now c.new-text.result.items c.print_declarations.new.out.items c.print_budget.new.out.items c.print_budget-2.new.out.items
    c.print_budget-3.new.out.items c.print_section.new.out.items c.print_section-2.new.out.items c.print_section-3.new.out.items
    c.extend_from_slice.new.self.items c.version_of.ensures c.names-names.ensures.names c.budget.ensures c.budget-2.ensures c.budget-3.ensures
    c.section.ensures.section
    c.section-2.ensures.section c.section-3.ensures.section c.new-text.ensures.items c.in_ok-print_declarations.ensures c.in_ok-print_budget.ensures
    c.in_ok-print_budget-2.ensures c.in_ok-print_budget-3.ensures c.in_ok-print_section.ensures c.in_ok-print_section-2.ensures
    c.in_ok-print_section-3.ensures c.in_ok-extend_from_slice.ensures.items

pub returns-clause-spelled : goal.returns-clause-spelled
returns-clause-spelled c = printed_scripts c.args.script.now c.names-names.ensures.kept
