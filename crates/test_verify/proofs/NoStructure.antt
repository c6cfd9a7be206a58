-- Code that is refused for a fault that a run shows has no fault of structure.
use Rattle.std.proofs.Common.{◌≡◌, inl, inr, ◌<◌, ap, arith}
use Rattle.mc_code.specs.Code.{Code}
use Rattle.mc_verify.specs.Refusals.{IsRefusalOf, Refusal}
use Rattle.mc_sound.specs.LeastFaults.{HasNoneFrom, kind_number}

pub no_structure : (c : Code) (refusal : Refusal) → IsRefusalOf c refusal → 4 < kind_number refusal.kind → kind_number refusal.kind < 12 → HasNoneFrom c 1 5
no_structure c refusal (inl right) low high kind actor from to place fault = right.least.first kind actor place from (inl (omega (arith, low, to))) fault
no_structure c refusal (inr memory) low high kind actor from to place fault =
    let twelve = ap (λ (r : Refusal). kind_number r.kind) memory in absurd (omega (arith, twelve, high))
