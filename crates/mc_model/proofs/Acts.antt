-- The laws of what a server does with a request, by what its effect is.
use Rattle.std.proofs.Common.{◌≡◌, ℕ, ◌+◌, ◌≤◌, true, false, leb, Option, Some, None, List, length, max, refl, ap, ◌∙◌, arith}
use Rattle.std.proofs.lemmas.Bool.{leb-true, le-leb, both_ways}
use Rattle.std.specs.FinMap as finite_map
use Rattle.mc_protocol.specs.Legal.{class_of, is_fit}
use Rattle.mc_model.specs.Types.{Request, REPLY_BODY_LIMIT, Item, Is, Choice}
use Rattle.mc_model.specs.Act.{Puts, Effect, effect_by, effect_of, item_after, act}
use Rattle.mc_model.specs.ActLaws.{OtherKeysStay, RepliesFit, BodiesStayShort, JoinedBodiesAddUp, DeletedIsGone, ReportedVersionIsMade}
use Rattle.mc_model.specs.ActLaws.{MadeVersionIsReported, AnsweredNumberIsThere, is_short, body_length, joins, reports_version}
use Rattle.mc_protocol.specs.declared.request.Verb.TheVariants as verb
use Rattle.mc_protocol.specs.declared.reply.Reply.TheVariants as reply
use Rattle.mc_model.specs.{Contents.Contents, Numeral.numeral_of}
use Rattle.mc_model.proofs.Changes.{get_changed, get_other}
use Rattle.mc_model.proofs.Effects.{NewBody, own, joining, counting, Does, answering, removing, putting, does}

-- what is at the request's key
abbrev at : Contents → Request → Option Item
at contents request = finite_map.get contents request.key

-- what is at it afterwards
left : (contents : Contents) (request : Request) (choice : Choice) (number : ℕ)
    → at (act contents request choice number).contents request ≡ item_after (effect_of contents request choice number).change (at contents request)
left contents request choice number = get_changed contents request.key (effect_of contents request choice number).change

-- what the request's effect does
does_here : (contents : Contents) (request : Request) (choice : Choice) (number : ℕ)
    → Does request number (at contents request) (effect_of contents request choice number)
does_here contents request choice number = does request.verb request choice number (at contents request) refl

-- another key isn't the one that is changed
pub other_keys_stay : OtherKeysStay
other_keys_stay contents request choice number key differ = get_other contents request.key (effect_of contents request choice number).change key differ

-- each answer of an effect is one that fits
fits : (request : Request) (number : ℕ) (found : Option Item) (effect : Effect) → Does request number found effect → is_short found ≡ true
    → is_fit request effect.reply ≡ true
fits request number found effect does short = grind arith

-- and so is the request's
pub replies_fit : RepliesFit
replies_fit contents request choice number short =
    fits request number (at contents request) (effect_of contents request choice number) (does_here contents request choice number) short

-- what is at most as long as 20 bytes or an old body within the limit is within the limit
no_longer : (found : Option Item) (n : ℕ) → n ≤ max 20 (body_length found) → is_short found ≡ true → leb n REPLY_BODY_LIMIT ≡ true
no_longer None n few short = le-leb n REPLY_BODY_LIMIT (omega arith)
no_longer (Some item) n few short = let below = leb-true (length item.body) REPLY_BODY_LIMIT short in le-leb n REPLY_BODY_LIMIT (omega arith)

-- a new body that isn't joined is within the limit
new_short : (request : Request) (found : Option Item) (body : List ℕ) → NewBody request found body → joins request.verb ≡ false
    → leb (length request.body) REPLY_BODY_LIMIT ≡ true → is_short found ≡ true
    → leb (length body) REPLY_BODY_LIMIT ≡ true
new_short request found body (own alone) not_joined given short = given
new_short request found body (joining _ both is) not_joined given short = absurd (both_ways (joins request.verb) not_joined both)
new_short request found body (counting _ alone few) not_joined given short = no_longer found (length body) few short

-- and so is what is at the key after an effect
stays_short : (request : Request) (number : ℕ) (found : Option Item) (effect : Effect) → Does request number found effect → joins request.verb ≡ false
    → leb (length request.body) REPLY_BODY_LIMIT ≡ true → is_short found ≡ true
    → is_short (item_after effect.change found) ≡ true
stays_short request number found effect does alone given short = grind (arith, new_short)

-- or after the request
pub bodies_stay_short : BodiesStayShort
bodies_stay_short contents request choice number alone given short =
    ap is_short (left contents request choice number)
    ∙ stays_short request number (at contents request) (effect_of contents request choice number) (does_here contents request choice number) alone given short

-- a body that is joined is as long as both
new_adds_up : (request : Request) (found : Option Item) (body : List ℕ) → NewBody request found body → joins request.verb ≡ true
    → length body ≤ body_length found + length request.body
new_adds_up request found body (own alone) both = absurd (both_ways (joins request.verb) alone both)
new_adds_up request found body (joining _ joined is) both = omega arith
new_adds_up request found body (counting _ alone few) both = absurd (both_ways (joins request.verb) alone both)

-- so what is at the key grows by the request's body at most
adds_up : (request : Request) (number : ℕ) (found : Option Item) (effect : Effect) → Does request number found effect → joins request.verb ≡ true
    → body_length (item_after effect.change found) ≤ body_length found + length request.body
adds_up request number found effect does both = grind (arith, new_adds_up)

-- under the request
pub joined_bodies_add_up : JoinedBodiesAddUp
joined_bodies_add_up contents request choice number both =
    rw (left contents request choice number)
    (adds_up request number (at contents request) (effect_of contents request choice number) (does_here contents request choice number) both)

-- a delete leaves nothing
gone : (request : Request) (choice : Choice) (number : ℕ) (found : Option Item)
    → item_after (effect_by verb.Delete request choice number found).change found ≡ None
gone request choice number None = refl
gone request choice number (Some item) = refl

-- and so does the request
pub deleted_is_gone : DeletedIsGone
deleted_is_gone contents request choice number is =
    left contents request choice number
    ∙ ap (λ v. item_after (effect_by v request choice number (at contents request)).change (at contents request)) is
    ∙ gone request choice number (at contents request)

-- the version that an effect makes
record Made (number : ℕ) (effect : Effect) : Type 0 where
  item : Item
  puts : effect.change ≡ Puts item
  numbered : item.number ≡ number

-- an effect whose reply reports a version makes one
made : (request : Request) (number : ℕ) (found : Option Item) (effect : Effect) → Does request number found effect
    → reports_version (class_of effect.reply) ≡ true → Made number effect
made request number found effect (answering r untold fit) told = absurd (both_ways (reports_version (class_of r)) untold told)
made request number found effect (removing fit) told = absurd cc
made request number found effect (putting item r numbered told_of fit says new) told = record { item = item; puts = refl; numbered = numbered }

-- and it is at the key
pub reported_version_is_made : ReportedVersionIsMade
reported_version_is_made contents request choice number told =
    let m = made request number (at contents request) (effect_of contents request choice number) (does_here contents request choice number) told in
    record {
      item = m.item;
      puts = m.puts;
      numbered = m.numbered;
      there = left contents request choice number ∙ ap (λ change. item_after change (at contents request)) m.puts;
    }

-- an effect that makes a version reports it
told : (request : Request) (number : ℕ) (found : Option Item) (effect : Effect) (item : Item) → Does request number found effect → effect.change ≡ Puts item
    → reports_version (class_of effect.reply) ≡ true
told request number found effect item does is = grind arith

-- and so does the request's
pub made_version_is_reported : MadeVersionIsReported
made_version_is_reported contents request choice number item is =
    told request number (at contents request) (effect_of contents request choice number) item (does_here contents request choice number) is

-- a number that an effect answers is what its new body says
says_number : (request : Request) (number n : ℕ) (found : Option Item) (effect : Effect) → Does request number found effect → effect.reply ≡ reply.Number n
    → (item : Item) × (item_after effect.change found ≡ Some item) × (numeral_of item.body ≡ Is n)
says_number request number n found effect (answering r untold fit) is =
    absurd (both_ways (reports_version (class_of r)) untold (ap (λ r. reports_version (class_of r)) is))
says_number request number n found effect (removing fit) is = absurd cc
says_number request number n found effect (putting item r numbered told_of fit says new) is = (item, refl, says n is)

-- and that body is at the key
pub answered_number_is_there : AnsweredNumberIsThere
answered_number_is_there contents request choice number n is =
    let s = says_number request number n (at contents request) (effect_of contents request choice number) (does_here contents request choice number) is in
    (s.0, left contents request choice number ∙ s.1, s.2)
