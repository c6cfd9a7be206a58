use Rattle.mc_script_text.proofs.Fronts.{one_front}
use Rattle.mc_script_text.proofs.text_laws.fronts_spell_one_script.Goals as goal

pub returns : goal.returns
returns c = one_front
