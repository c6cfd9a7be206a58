-- Which replies show a number: only a gets is answered with one.
use Rattle.std.proofs.Common.{◌≡◌, ◌==◌, ◌&&◌, ℕ, Bool, true, false, Option, Some, None, List, refl, if◌then◌else◌}
use Rattle.std.specs.Option.{option_map}
use Rattle.mc_protocol.specs.declared.{request.Request.Request, request.Verb.Verb, reply.Reply.Reply}
use Rattle.mc_protocol.specs.declared.request.Verb.TheVariants as verb
use Rattle.mc_protocol.specs.declared.reply.Reply.TheVariants as reply
use Rattle.mc_model.specs.{declared.act.Choice.Choice, declared.cache.Item.Item, Act.answers, Act.puts, Act.effect_by, Act.count_from}
use Rattle.mc_model.specs.{Act.increment, Act.decrement, History.is_cas, History.is_gets, Numeral.numeral_of, Numeral.read_as}
use Rattle.mc_linearize.specs.Held.{Held, effect_on, is_unmarked, item_of}
use Rattle.mc_linearize.proofs.Alike.{is_number_hit}

-- only a gets shows one
no_number_counted : (new : ℕ → ℕ → ℕ) (request : Request) (choice : Choice) (number : ℕ) (item : Item) (says : Option ℕ)
    → is_number_hit (count_from new request choice number item says).reply ≡ false
no_number_counted new request choice number item None = refl
no_number_counted new request choice number item (Some n) = refl

no_number_swapped : (b : Bool) (made : Item) → is_number_hit (if b then puts made reply.Stored else answers reply.Exists).reply ≡ false
no_number_swapped true made = refl
no_number_swapped false made = refl

no_number : (v : Verb) (request : Request) (choice : Choice) (number : ℕ) (found : Option Item) → is_gets v ≡ false
    → is_number_hit (effect_by v request choice number found).reply ≡ false
no_number verb.Set request choice number found e = refl
no_number verb.Add request choice number None e = refl
no_number verb.Add request choice number (Some item) e = refl
no_number verb.Replace request choice number None e = refl
no_number verb.Replace request choice number (Some item) e = refl
no_number verb.Append request choice number None e = refl
no_number verb.Append request choice number (Some item) e = refl
no_number verb.Prepend request choice number None e = refl
no_number verb.Prepend request choice number (Some item) e = refl
no_number verb.Cas request choice number None e = refl
no_number verb.Cas request choice number (Some item) e =
    no_number_swapped (item.number == request.number) (record { flags = request.flags; body = request.body; number = number })
no_number verb.Get request choice number None e = refl
no_number verb.Get request choice number (Some item) e = refl
no_number verb.Gets request choice number found e = absurd (cc)
no_number verb.Incr request choice number None e = refl
no_number verb.Incr request choice number (Some item) e = no_number_counted increment request choice number item (read_as choice.read (numeral_of item.body))
no_number verb.Decr request choice number None e = refl
no_number verb.Decr request choice number (Some item) e = no_number_counted decrement request choice number item (read_as choice.read (numeral_of item.body))
no_number verb.Delete request choice number None e = refl
no_number verb.Delete request choice number (Some item) e = refl
no_number verb.Touch request choice number None e = refl
no_number verb.Touch request choice number (Some item) e = refl

pub no_number_on : (v : Verb) (request : Request) (choice : Choice) (held : Option Held) → is_gets v ≡ false
    → is_number_hit (effect_on v request choice held).reply ≡ false
no_number_on v request choice held e = by (is_cas v && is_unmarked held)
  where
    by : (b : Bool) → is_number_hit (if b then answers reply.Exists else effect_by v request choice 0 (option_map item_of held)).reply ≡ false
    by true = refl
    by false = no_number v request choice 0 (option_map item_of held) e

pub gets_is : (v : Verb) → is_gets v ≡ true → v ≡ verb.Gets
gets_is verb.Gets e = refl
gets_is verb.Set e = absurd (cc)
gets_is verb.Add e = absurd (cc)
gets_is verb.Replace e = absurd (cc)
gets_is verb.Append e = absurd (cc)
gets_is verb.Prepend e = absurd (cc)
gets_is verb.Cas e = absurd (cc)
gets_is verb.Get e = absurd (cc)
gets_is verb.Incr e = absurd (cc)
gets_is verb.Decr e = absurd (cc)
gets_is verb.Delete e = absurd (cc)
gets_is verb.Touch e = absurd (cc)

-- the reply is a hit with a number
pub record IsHit (g : Reply) : Type 0 where
  pub flags : ℕ
  pub body : List ℕ
  pub number : ℕ
  pub is : g ≡ reply.Hit flags body (Some number)

pub hit_of : (g : Reply) → is_number_hit g ≡ true → IsHit g
hit_of (reply.Hit flags body (Some number)) e = record { flags = flags; body = body; number = number; is = refl }
hit_of (reply.Hit flags body None) e = absurd (cc)
hit_of reply.Stored e = absurd (cc)
hit_of reply.NotStored e = absurd (cc)
hit_of reply.Exists e = absurd (cc)
hit_of reply.NotFound e = absurd (cc)
hit_of reply.Miss e = absurd (cc)
hit_of reply.Deleted e = absurd (cc)
hit_of reply.Touched e = absurd (cc)
hit_of (reply.Number number) e = absurd (cc)
hit_of reply.NotNumber e = absurd (cc)
