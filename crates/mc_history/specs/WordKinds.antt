-- The kind of a line that has a fault in its words.
use Rattle.mc_model.specs.declared.{rules.HistoryKind.HistoryKind}
use Rattle.mc_words.specs.declared.words_fault.WordsKind.{WordsKind}
use Rattle.mc_model.specs.declared.rules.HistoryKind.TheVariants as history
use Rattle.mc_words.specs.declared.words_fault.WordsKind.TheVariants as words
use Rattle.mc_history.specs.declared.steps_fault.StepsKind.{StepsKind}
use Rattle.mc_history.specs.declared.steps_fault.StepsKind.TheVariants as steps

abbrev pub history_kind : WordsKind → HistoryKind
history_kind words.Form = history.Line
history_kind words.Number = history.Number
history_kind words.OutOfMemory = history.OutOfMemory

abbrev pub steps_kind : WordsKind → StepsKind
steps_kind words.OutOfMemory = steps.OutOfMemory
steps_kind _ = steps.Line
