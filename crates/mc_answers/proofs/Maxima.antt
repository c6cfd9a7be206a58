-- The greatest costs of the sections, taken one by one.
use Rattle.mc_protocol.specs.{declared.actor.Actor.Actor, Sections.section_of, declared.sections.Sections.Sections}
use Rattle.mc_protocol.specs.declared.actor.Actor.TheVariants as actor
use Rattle.mc_code.specs.Code.{Code}
use Rattle.mc_sound.specs.{Checked.IsChecked, Faults.IsSound, Costs.IsGreatestCost, declared.cost.Cost.Cost}
use Rattle.mc_sound.specs.declared.measure.Measure.TheVariants as measure

-- what holds of each of the three sections holds of all
in_each : (H : Actor → Type 0) → H actor.P → H actor.A → H actor.B → (section : Actor) → H section
in_each H p a b actor.P = p
in_each H p a b actor.A = a
in_each H p a b actor.B = b

-- sound code and the greatest costs of its sections, by each measure
pub is_checked : (code : Code) (p a b : Cost) → IsSound code
    → IsGreatestCost code actor.P measure.Requests p.requests → IsGreatestCost code actor.P measure.Bytes p.bytes
    → IsGreatestCost code actor.A measure.Requests a.requests → IsGreatestCost code actor.A measure.Bytes a.bytes
    → IsGreatestCost code actor.B measure.Requests b.requests → IsGreatestCost code actor.B measure.Bytes b.bytes
    → IsChecked (record { code = code; maxima = record { p = p; a = a; b = b } })
is_checked code p a b sound p_requests p_bytes a_requests a_bytes b_requests b_bytes =
    let maxima : Sections Cost = record { p = p; a = a; b = b } in
    record {
      sound = sound;
      requests = in_each (λ section. IsGreatestCost code section measure.Requests (section_of maxima section).requests) p_requests a_requests b_requests;
      bytes = in_each (λ section. IsGreatestCost code section measure.Bytes (section_of maxima section).bytes) p_bytes a_bytes b_bytes;
    }
