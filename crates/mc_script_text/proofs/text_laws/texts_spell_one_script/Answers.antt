use Rattle.mc_script_text.proofs.WholeScript.{one_script}
use Rattle.mc_script_text.proofs.text_laws.texts_spell_one_script.Goals as goal

pub returns : goal.returns
returns c = one_script
