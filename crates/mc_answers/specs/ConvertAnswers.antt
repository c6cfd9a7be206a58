-- What `convert` answers to a text.
use Rattle.std.specs.Prelude.{◌≡◌, ◌⊎◌, ℕ, List, codes, false}
use Rattle.mc_hints.specs.Refusals.{history_refusal}
use Rattle.mc_model.specs.declared.rules.HistoryKind.{HistoryKind}
use Rattle.mc_answers.specs.{Refusing.IsRefusal, declared.status.Status.Status}
use Rattle.mc_answers.specs.declared.status.Status.TheVariants as status

-- a notation may have any bytes; what isn't converted is refused as no history, or as one that keeps no order
abbrev pub Converts : List ℕ → Status → Type 0
Converts output ended = (ended ≡ status.Success)
    ⊎ (((kind : HistoryKind) × (line : ℕ) × IsRefusal false (history_refusal kind line) output × (ended ≡ status.Refused))
    ⊎ ((output ≡ codes "refused edn\n") × (ended ≡ status.Refused)))
