use Rattle.mc_why.specs.Forms.{AreFormsAt}
use Rattle.mc_why.proofs.forms.forms_among.Given as goal

abbrev pub invariant-replies : goal.invariant-replies
invariant-replies l = AreFormsAt l.history l.place l.told.items
