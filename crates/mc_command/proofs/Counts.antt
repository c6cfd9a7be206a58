-- One run more, counted.
use Rattle.std.proofs.Common.{◌≡◌, ◌+◌, Bool, cond, List, [], ◌∷◌, ◌++◌}
use Rattle.std.proofs.lemmas.List.Sums.{sum_by_push}
use Rattle.std.specs.List.{count_by}
use Rattle.mc_command.specs.declared.run.Played.{Played}

pub one_more : (p : Played → Bool) (runs : List Played) (run : Played) → count_by p (runs ++ run ∷ []) ≡ count_by p runs + cond (p run) 1 0
one_more p runs run = sum_by_push (λ x. cond (p x) 1 0) runs run
