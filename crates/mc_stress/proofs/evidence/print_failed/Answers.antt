use Rattle.std.proofs.Common.{◌≡◌, ◌++◌, ◌<◌, ◌+◌, List, ℕ, ap, sym, ◌∙◌, take, length, get_or}
use Rattle.std.proofs.lemmas.List.{flat_map_more, take_more}
use Rattle.std.specs.List.{flat_map}
use Rattle.mc_protocol.specs.declared.fault.Fault.{Fault}
use Rattle.mc_stress.specs.Evidence.{failed_line}
use Rattle.mc_stress.proofs.evidence.print_failed.Goals as goal

failed_on : (front back out : List ℕ) (xs : List (ℕ × Fault)) (i : ℕ) (d : ℕ × Fault) → i < length xs
    → back ≡ front ++ flat_map failed_line (take i xs) → out ≡ back ++ failed_line (get_or xs i d)
    → out ≡ front ++ flat_map failed_line (take (i + 1) xs)
failed_on front back out xs i d less known printed =
    printed
    ∙ ap (λ (ys : List ℕ). ys ++ failed_line (get_or xs i d)) known
    ∙ flat_map_more failed_line front (take i xs) (get_or xs i d)
    ∙ ap (λ (ys : List (ℕ × Fault)). front ++ flat_map failed_line ys) (sym (take_more xs i d less))

pub failed-preserved : goal.failed-preserved
failed-preserved c =
    failed_on c.args.out.now.items _ _ c.args.failed.now c.failed.client-index _ c.failed-test.true c.failed.invariant c.in_ok-print_client.ensures
