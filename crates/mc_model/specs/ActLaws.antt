-- What holds of every request that a server acts on, in the words of who uses a cache.
use Rattle.std.specs.Prelude.{◌≡◌, ◌≢◌, ℕ, ◌+◌, ◌≤◌, Bool, true, false, nat_le, Option, Some, None, List, length}
use Rattle.std.specs.FinMap as finite_map
use Rattle.mc_protocol.specs.Legal.{class_of, is_fit}
use Rattle.mc_model.specs.Types.{Request, Verb, Class, REPLY_BODY_LIMIT, Item, Numeral, NoNumber, Is, MayBe, Choice}
use Rattle.mc_model.specs.Act.{act, effect_of, Puts}
use Rattle.mc_protocol.specs.declared.request.Verb.TheVariants as verb
use Rattle.mc_protocol.specs.declared.reply.Class.TheVariants as class
use Rattle.mc_protocol.specs.declared.reply.Reply.TheVariants as reply
use Rattle.mc_model.specs.{Contents.Contents, Numeral.numeral_of}

-- a request leaves what is at every other key
abbrev pub OtherKeysStay : Type 0
OtherKeysStay =
    (contents : Contents) (request : Request) (choice : Choice) (number : ℕ) (key : List ℕ) → key ≢ request.key
    → finite_map.get (act contents request choice number).contents key ≡ finite_map.get contents key

-- ---- bodies

-- there is no item, or its body is within the limit
abbrev pub is_short : Option Item → Bool
is_short None = true
is_short (Some item) = nat_le (length item.body) REPLY_BODY_LIMIT

-- the reply is one that the request may have, where the item at its key has a body within the limit
abbrev pub RepliesFit : Type 0
RepliesFit =
    (contents : Contents) (request : Request) (choice : Choice) (number : ℕ) → is_short (finite_map.get contents request.key) ≡ true
    → is_fit request (act contents request choice number).reply ≡ true

-- a verb that makes one body of two
abbrev pub joins : Verb → Bool
joins verb.Append = true
joins verb.Prepend = true
joins _ = false

-- under every other verb such bodies stay within the limit, where the request's is
abbrev pub BodiesStayShort : Type 0
BodiesStayShort =
    (contents : Contents) (request : Request) (choice : Choice) (number : ℕ) → joins request.verb ≡ false
    → nat_le (length request.body) REPLY_BODY_LIMIT ≡ true → is_short (finite_map.get contents request.key) ≡ true
    → is_short (finite_map.get (act contents request choice number).contents request.key) ≡ true

abbrev pub body_length : Option Item → ℕ
body_length None = 0
body_length (Some item) = length item.body

-- a body that is joined grows by the request's at most
abbrev pub JoinedBodiesAddUp : Type 0
JoinedBodiesAddUp =
    (contents : Contents) (request : Request) (choice : Choice) (number : ℕ) → joins request.verb ≡ true
    → body_length (finite_map.get (act contents request choice number).contents request.key)
    ≤ body_length (finite_map.get contents request.key) + length request.body

-- ---- deletion

-- after a delete nothing is at the key
abbrev pub DeletedIsGone : Type 0
DeletedIsGone =
    (contents : Contents) (request : Request) (choice : Choice) (number : ℕ) → request.verb ≡ verb.Delete
    → finite_map.get (act contents request choice number).contents request.key ≡ None

-- ---- versions

-- a reply that says that a version was made
abbrev pub reports_version : Class → Bool
reports_version class.Stored = true
reports_version class.Number = true
reports_version _ = false

-- the effect makes a version with this number, and what is at the key after it is that version
pub record MakesVersion (contents : Contents) (request : Request) (choice : Choice) (number : ℕ) : Type 0 where
  pub item : Item
  pub puts : (effect_of contents request choice number).change ≡ Puts item
  pub numbered : item.number ≡ number
  pub there : finite_map.get (act contents request choice number).contents request.key ≡ Some item

-- a version is made where the reply reports one, and has the number given
abbrev pub ReportedVersionIsMade : Type 0
ReportedVersionIsMade =
    (contents : Contents) (request : Request) (choice : Choice) (number : ℕ)
    → reports_version (class_of (act contents request choice number).reply) ≡ true → MakesVersion contents request choice number

-- and nowhere else
abbrev pub MadeVersionIsReported : Type 0
MadeVersionIsReported =
    (contents : Contents) (request : Request) (choice : Choice) (number : ℕ) (item : Item)
    → (effect_of contents request choice number).change ≡ Puts item
    → reports_version (class_of (act contents request choice number).reply) ≡ true

-- ---- numbers

-- a number that is answered is what the body at the key then says
abbrev pub AnsweredNumberIsThere : Type 0
AnsweredNumberIsThere =
    (contents : Contents) (request : Request) (choice : Choice) (number n : ℕ)
    → (act contents request choice number).reply ≡ reply.Number n
    → (item : Item)
    × (finite_map.get (act contents request choice number).contents request.key ≡ Some item)
    × (numeral_of item.body ≡ Is n)

-- ---- what is left to the server

-- a verb whose effect is left to the server in part
abbrev pub counts : Verb → Bool
counts verb.Incr = true
counts verb.Decr = true
counts _ = false

-- no other verb has a choice
abbrev pub OnlyCountsChoose : Type 0
OnlyCountsChoose =
    (contents : Contents) (request : Request) (choice other : Choice) (number : ℕ) → counts request.verb ≡ false
    → act contents request choice number ≡ act contents request other number

abbrev pub is_doubtful : Numeral → Bool
is_doubtful NoNumber = false
is_doubtful (Is n) = false
is_doubtful (MayBe n) = true

-- there is an item, and one server reads its body as a number that another refuses
abbrev pub may_be_refused : Option Item → Bool
may_be_refused None = false
may_be_refused (Some item) = is_doubtful (numeral_of item.body)

-- where the body is not such, reading has no choice
abbrev pub OnlyDoubtfulAreChosen : Type 0
OnlyDoubtfulAreChosen =
    (contents : Contents) (request : Request) (choice other : Choice) (number : ℕ)
    → may_be_refused (finite_map.get contents request.key) ≡ false → choice.pad ≡ other.pad
    → act contents request choice number ≡ act contents request other number

-- no reply shows whether a number was padded
abbrev pub PaddingIsUnseen : Type 0
PaddingIsUnseen =
    (contents : Contents) (request : Request) (choice other : Choice) (number : ℕ) → choice.read ≡ other.read
    → (act contents request choice number).reply ≡ (act contents request other number).reply
