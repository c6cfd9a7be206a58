-- What a client draws of its next request.
use Rattle.std.specs.Prelude.{ℕ, ◌-◌, ◌==◌, List, [], ◌∷◌, length, take, drop, get_or, codes, decimal, if◌then◌else◌}
use Rattle.rand_pcg.specs.Lcg.{Lcg}
use Rattle.mc_protocol.specs.declared.request.Verb.TheVariants.{Set, Add, Replace, Append, Prepend, Cas}
use Rattle.mc_protocol.specs.declared.request.Verb.TheVariants.{Get, Gets, Incr, Decr, Delete, Touch}
use Rattle.mc_protocol.specs.{Fields.fields_of, Words.all_verbs, declared.request.Fields.Fields, declared.request.Verb.Verb}
use Rattle.mc_protocol.specs.declared.request.Fields.TheVariants as fields
use Rattle.mc_settings.specs.declared.mix.Mix.{Mix}
use Rattle.mc_settings.specs.declared.mix.Mix.TheVariants as mix
use Rattle.mc_rounds.specs.{declared.wish.Wish.Wish, Draws.draw, Draws.rest}

-- the verbs of a mix
abbrev pub verbs_of : Mix → List Verb
verbs_of mix.All = all_verbs
verbs_of mix.Counters = Set ∷ Incr ∷ Decr ∷ Gets ∷ Cas ∷ []
verbs_of mix.Cas = Gets ∷ Cas ∷ Set ∷ []
verbs_of mix.Bodies = Append ∷ Prepend ∷ Set ∷ Get ∷ []
verbs_of mix.Presence = Add ∷ Delete ∷ Replace ∷ Get ∷ Touch ∷ []

-- one of them is drawn
abbrev pub verb_in : Mix → Lcg → Verb × Lcg
verb_in m g = (get_or (verbs_of m) (draw (length (verbs_of m)) g) Get, rest g)

-- up to eight letters of the alphabet, one after the other: the first is drawn, then how many
abbrev pub letters_in : Lcg → List ℕ × Lcg
letters_in g = (take (draw 9 (rest g)) (drop (draw 19 g) (codes "abcdefghijklmnopqrstuvwxyz")), rest (rest g))

-- the decimal of a number below n
abbrev pub decimal_in : ℕ → Lcg → List ℕ × Lcg
decimal_in n g = (decimal (draw n g), rest g)

-- a body: of four, one has letters, one is a decimal of up to eight digits, and two are decimals below 100
abbrev pub body_in : Lcg → List ℕ × Lcg
body_in g =
    if draw 4 g == 0 then letters_in (rest g)
    else (if draw 4 g == 1 then decimal_in 100000000 (rest g) else decimal_in 100 (rest g))

-- an amount: one of sixteen is great, so that adding it wraps: 2^64 - 1 less a digit; the others are a digit
abbrev pub amount_in : Lcg → ℕ × Lcg
amount_in g = (if draw 16 g == 0 then 18446744073709551615 - draw 10 (rest g) else draw 10 (rest g), rest (rest g))

-- what the verb has after its key: flags and then a body, or an amount. The number of a cas isn't drawn.
abbrev pub fields_in : Verb → ℕ → Fields → Lcg → Wish × Lcg
fields_in verb key fields.KeyAlone g = (record { verb = verb; key = key; flags = 0; body = []; amount = 0 }, g)
fields_in verb key fields.Expiry g = (record { verb = verb; key = key; flags = 0; body = []; amount = 0 }, g)
fields_in verb key fields.Item g =
    let body = body_in (rest g) in (record { verb = verb; key = key; flags = draw 4 g; body = body.0; amount = 0 }, body.1)
fields_in verb key fields.Swap g =
    let body = body_in (rest g) in (record { verb = verb; key = key; flags = draw 4 g; body = body.0; amount = 0 }, body.1)
fields_in verb key fields.Amount g =
    let amount = amount_in g in (record { verb = verb; key = key; flags = 0; body = []; amount = amount.0 }, amount.1)

-- a wish, where there are n keys: the verb is drawn, then the index of the key, then what the verb has after it
abbrev pub wish_in : Mix → ℕ → Lcg → Wish × Lcg
wish_in m n g = let verb = verb_in m g in fields_in verb.0 (draw n verb.1) (fields_of verb.0) (rest verb.1)
