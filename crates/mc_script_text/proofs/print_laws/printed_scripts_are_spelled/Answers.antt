use Rattle.mc_script_text.proofs.PrintedScripts.{printed_scripts}
use Rattle.mc_script_text.proofs.print_laws.printed_scripts_are_spelled.Goals as goal

pub returns : goal.returns
returns c = printed_scripts
