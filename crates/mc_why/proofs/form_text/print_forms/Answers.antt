use Rattle.mc_why.proofs.MoveLines.{forms_on}
use Rattle.mc_why.proofs.form_text.print_forms.Goals as goal

pub forms-preserved : goal.forms-preserved
forms-preserved c =
    forms_on c.args.out.now.items _ _ c.args.forms.now c.forms.form-index c.form-item.result c.form-item.result c.forms-test.true
    c.form-item.is c.forms.invariant c.in_ok-print_form.ensures
