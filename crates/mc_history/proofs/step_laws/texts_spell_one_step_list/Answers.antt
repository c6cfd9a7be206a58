use Rattle.mc_history.proofs.StepLists.{text_spells_one_list}
use Rattle.mc_history.proofs.step_laws.texts_spell_one_step_list.Goals as goal

pub returns : goal.returns
returns c = text_spells_one_list
