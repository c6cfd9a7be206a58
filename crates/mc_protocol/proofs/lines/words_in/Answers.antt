use Rattle.std.proofs.lemmas.Iterator.Consumers.{YieldsList-at, YieldsList-from_filter, map_from_collect}
use Rattle.std.proofs.{Common.rules, lemmas.Iterator.Splits.YieldsList-from_slice_split}
use Rattle.std.specs.Prelude.{not, length, ◌==◌}
use Rattle.mc_protocol.specs.Lines as spec
use Rattle.mc_protocol.proofs.lines.words_in.Goals as goal

pub returns : goal.returns
returns c =
    map_from_collect _ c.collect.ensures.ran
    (YieldsList-from_filter _ (λ word. not (length word == 0))
    (YieldsList-at c.filter.ensures.source
    (YieldsList-from_slice_split _ (spec.separates c.args.separator) _ c.split.ensures.rest c.split.ensures.done c.split.ensures.closure
    (λ x b q h. search rules)))
    c.filter.ensures.closure (λ x b q h. search rules))
