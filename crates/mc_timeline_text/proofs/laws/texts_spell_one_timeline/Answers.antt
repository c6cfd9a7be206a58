use Rattle.mc_timeline_text.proofs.TextLines.{text_spells_one_timeline}
use Rattle.mc_timeline_text.proofs.laws.texts_spell_one_timeline.Goals as goal

pub returns : goal.returns
returns c = text_spells_one_timeline
