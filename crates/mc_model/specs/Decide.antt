-- What a decision does: what becomes of the item at a request's key, and what is answered.
use Rattle.std.specs.Prelude.{◌≡◌, ℕ, ◌==◌, Bool, true, Option, Some, None, List, ◌++◌}
use Rattle.std.specs.Option.{option_map}
use Rattle.mc_model.specs.Types.{Request, Verb, Reply, Item, Choice}
use Rattle.mc_model.specs.declared.{deciding.Found.Found, deciding.Change.Change, deciding.Answer.Answer, deciding.Decision.Decision}
use Rattle.mc_model.specs.declared.deciding.Change.TheVariants as change
use Rattle.mc_model.specs.declared.deciding.Answer.TheVariants as answer
use Rattle.mc_model.specs.{Numeral.numeral_of, ActLaws.counts, History.is_cas}
use Rattle.mc_model.specs.Act as act

-- what is known of an item where a cas has this number
abbrev pub found_of : ℕ → Item → Found
found_of number item = record { has_number = item.number == number; says = numeral_of item.body }

-- the version with the old flags and a body made of the old one, where there is an item
abbrev pub remade : (List ℕ → List ℕ) → ℕ → Option Item → act.Change
remade body number None = act.Keeps
remade body number (Some item) = act.Puts (record { flags = item.flags; body = body item.body; number = number })

-- what becomes of the item that is there
abbrev pub change_at : Request → Bool → ℕ → Option Item → Change → act.Change
change_at request pad number found change.Keeps = act.Keeps
change_at request pad number found change.Stores = act.Puts (act.version request number)
change_at request pad number found change.Appends = remade (λ body. body ++ request.body) number found
change_at request pad number found change.Prepends = remade (λ body. request.body ++ body) number found
change_at request pad number found (change.Counts n) = remade (λ body. act.counted_body pad body n) number found
change_at request pad number found change.Removes = act.Removes

-- the version that a change makes, if it makes one
abbrev pub made_by : act.Change → Option Item
made_by (act.Puts item) = Some item
made_by _ = None

-- what is answered
abbrev pub answer_at : Option Item → Answer → Reply
answer_at found (answer.Reply given) = given
answer_at found answer.Shows = (act.read found).reply
answer_at found answer.ShowsNumber = (act.read_with_number found).reply

-- the effect of a decision on what is there
abbrev pub effect_at : Request → Bool → ℕ → Option Item → Decision → act.Effect
effect_at request pad number found d =
    record { change = change_at request pad number found d.change; reply = answer_at found d.answer }

-- the decision has the verb's effect on whatever is there, where this is known of it. A verb that counts has this amount, and a cas
-- a number with which the item was compared
abbrev pub Decides : Verb → ℕ → Choice → Option Found → Decision → Type 0
Decides verb amount choice found d =
    (request : Request) (cas number : ℕ) (there : Option Item) → (counts verb ≡ true → request.number ≡ amount)
    → (is_cas verb ≡ true → request.number ≡ cas) → option_map (found_of cas) there ≡ found
    → effect_at request choice.pad number there d ≡ act.effect_by verb request choice number there
