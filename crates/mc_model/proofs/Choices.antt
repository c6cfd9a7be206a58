-- What is left to the server.
use Rattle.std.proofs.Common.{◌≡◌, ℕ, false, Option, Some, None, refl, ap, ◌∙◌}
use Rattle.std.specs.FinMap as finite_map
use Rattle.mc_model.specs.ActLaws.{OnlyCountsChoose, OnlyDoubtfulAreChosen, PaddingIsUnseen, counts, is_doubtful, may_be_refused}
use Rattle.mc_model.specs.{Types.Request, Types.Verb, Types.Item, Types.Numeral, Types.NoNumber, Types.Is, Types.MayBe, Types.Choice, Numeral.numeral_of}
use Rattle.mc_model.specs.{Numeral.read_as, Act.count, Act.count_from, Act.count_to, Act.increment, Act.decrement, Act.effect_by, Act.outcome_of}
use Rattle.mc_protocol.specs.declared.request.Verb.TheVariants as verb

-- a verb that doesn't count has one effect
one_effect : (v : Verb) (request : Request) (choice other : Choice) (number : ℕ) (found : Option Item) → counts v ≡ false
    → effect_by v request choice number found ≡ effect_by v request other number found
one_effect verb.Incr request choice other number found none = absurd cc
one_effect verb.Decr request choice other number found none = absurd cc
one_effect _ request choice other number found none = refl

-- and so one outcome
pub of_verbs : OnlyCountsChoose
of_verbs contents request choice other number none =
    ap (outcome_of contents request) (one_effect request.verb request choice other number (finite_map.get contents request.key) none)

-- a count at what isn't doubtful has one effect where the padding is one
plain_count : (new : ℕ → ℕ → ℕ) (request : Request) (choice other : Choice) (number : ℕ) (item : Item) (says : Numeral) → is_doubtful says ≡ false
    → choice.pad ≡ other.pad
    → count_from new request choice number item (read_as choice.read says) ≡ count_from new request other number item (read_as other.read says)
plain_count new request choice other number item NoNumber plain same = refl
plain_count new request choice other number item (Is n) plain same = ap (λ pad. count_to item pad (new n request.number) number) same
plain_count new request choice other number item (MayBe n) plain same = absurd cc

one_count : (new : ℕ → ℕ → ℕ) (request : Request) (choice other : Choice) (number : ℕ) (found : Option Item) → may_be_refused found ≡ false
    → choice.pad ≡ other.pad
    → count new request choice number found ≡ count new request other number found
one_count new request choice other number None plain same = refl
one_count new request choice other number (Some item) plain same = plain_count new request choice other number item (numeral_of item.body) plain same

-- and so has every verb
one_where_plain : (v : Verb) (request : Request) (choice other : Choice) (number : ℕ) (found : Option Item) → may_be_refused found ≡ false
    → choice.pad ≡ other.pad
    → effect_by v request choice number found ≡ effect_by v request other number found
one_where_plain verb.Incr request choice other number found plain same = one_count increment request choice other number found plain same
one_where_plain verb.Decr request choice other number found plain same = one_count decrement request choice other number found plain same
one_where_plain _ request choice other number found plain same = refl

-- and so every request has one outcome
pub of_bodies : OnlyDoubtfulAreChosen
of_bodies contents request choice other number plain same =
    ap (outcome_of contents request) (one_where_plain request.verb request choice other number (finite_map.get contents request.key) plain same)

-- counts from one number have one reply
unseen_pad : (new : ℕ → ℕ → ℕ) (request : Request) (choice other : Choice) (number : ℕ) (item : Item) (o : Option ℕ)
    → (count_from new request choice number item o).reply ≡ (count_from new request other number item o).reply
unseen_pad new request choice other number item None = refl
unseen_pad new request choice other number item (Some n) = refl

-- and so have counts where the reading is one
unseen_count : (new : ℕ → ℕ → ℕ) (request : Request) (choice other : Choice) (number : ℕ) (found : Option Item) → choice.read ≡ other.read
    → (count new request choice number found).reply ≡ (count new request other number found).reply
unseen_count new request choice other number None same = refl
unseen_count new request choice other number (Some item) same =
    ap (λ read. (count_from new request choice number item (read_as read (numeral_of item.body))).reply) same
    ∙ unseen_pad new request choice other number item (read_as other.read (numeral_of item.body))

-- and every verb
one_reply : (v : Verb) (request : Request) (choice other : Choice) (number : ℕ) (found : Option Item) → choice.read ≡ other.read
    → (effect_by v request choice number found).reply ≡ (effect_by v request other number found).reply
one_reply verb.Incr request choice other number found same = unseen_count increment request choice other number found same
one_reply verb.Decr request choice other number found same = unseen_count decrement request choice other number found same
one_reply _ request choice other number found same = refl

-- and every request
pub of_replies : PaddingIsUnseen
of_replies contents request choice other number same = one_reply request.verb request choice other number (finite_map.get contents request.key) same
