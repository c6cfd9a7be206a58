use Rattle.std.proofs.{Common.rules, Common.tests, lemmas.Slice.Eq.slice_eq-Decides}
use Rattle.mc_core.proofs.replaying.are_same_calls.Goals as goal

pub returns : goal.returns
returns c = slice_eq-Decides (λ a b. search (rules, tests)) _ _ _ c.eq.ensures
