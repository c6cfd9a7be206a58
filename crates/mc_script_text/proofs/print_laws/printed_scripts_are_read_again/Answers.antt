use Rattle.mc_script_text.proofs.PrintedScripts.{read_again}
use Rattle.mc_script_text.proofs.print_laws.printed_scripts_are_read_again.Goals as goal

pub returns : goal.returns
returns c = read_again
