use Rattle.mc_script_text.proofs.{Formed.script-formed, WholeScript.script_spelled}
use Rattle.mc_script_text.proofs.text.read_all.Goals as goal

pub resolve_all-requires : goal.resolve_all-requires
resolve_all-requires c = λ script h.
    let header = rw c.new-lines.ensures at c.in_ok-version.ensures in
    script-formed c.args.text.now script (script_spelled c.args.text.now script
    (rw (header, c.in_ok-names.ensures, c.in_ok-budgets.ensures, c.in_ok-bodies.ensures) h))
