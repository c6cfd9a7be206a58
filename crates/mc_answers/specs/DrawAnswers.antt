-- What `draw` answers to a text.
use Rattle.std.specs.Prelude.{◌≡◌, ◌⊎◌, ℕ, List, false}
use Rattle.mc_hints.specs.Refusals.{history_refusal}
use Rattle.mc_model.specs.declared.rules.HistoryKind.{HistoryKind}
use Rattle.mc_answers.specs.{Refusing.IsRefusal, TimelineAnswers.RefusesKey, declared.status.Status.Status}
use Rattle.mc_answers.specs.declared.status.Status.TheVariants as status

-- a picture may have any bytes; what isn't drawn is refused as no history, or for a key that is sought
abbrev pub Draws : List ℕ → Status → Type 0
Draws output ended = (ended ≡ status.Success)
    ⊎ ((kind : HistoryKind) × (line : ℕ) × IsRefusal false (history_refusal kind line) output × (ended ≡ status.Refused))
    ⊎ ((key : List ℕ) × RefusesKey key output ended)
