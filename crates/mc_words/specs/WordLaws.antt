-- What holds of the words that spell requests and replies, and of the words that are printed.
use Rattle.std.specs.Prelude.{◌≡◌, ℕ, ◌<◌, ◌≤◌, ◌==◌, nat_le, Bool, true, not, ◌&&◌, IfSome, List, length}
use Rattle.std.specs.List.{All, list_all}
use Rattle.mc_protocol.specs.{Lines.words_of, Lines.Word, declared.lines.Separator.Separator, Decimals.MAX_32, Decimals.MAX_64}
use Rattle.mc_words.specs.Words.{SpellsRequest, SpellsReply, request_words, reply_words, join_words}
use Rattle.mc_model.specs.{Types.REPLY_BODY_LIMIT, Types.Request, Types.Reply, History.has_words}
use Rattle.mc_protocol.specs.declared.reply.Reply.TheVariants as reply

-- ---- what is printed spells the value

abbrev pub AreBytes : List ℕ → Type 0
AreBytes bytes = All (λ byte. byte < 256) bytes

-- each field of the request has a value of its type
pub record FitsRequest (r : Request) : Type 0 where
  pub flags : r.flags ≤ MAX_32
  pub body : AreBytes r.body
  pub number : r.number ≤ MAX_64

-- the reply has a body within the limit, or none
abbrev pub has_short_body : Reply → Bool
has_short_body (reply.Hit flags body cas) = nat_le (length body) REPLY_BODY_LIMIT
has_short_body _ = true

-- what the reply carries has values of its types
abbrev pub FitsReply : Reply → Type 0
FitsReply (reply.Hit flags body cas) = (flags ≤ MAX_32) × AreBytes body × IfSome cas (λ n. n ≤ MAX_64)
FitsReply (reply.Number n) = n ≤ MAX_64
FitsReply _ = Unit {0}

abbrev pub PrintedWordsSpellTheRequest : Type 0
PrintedWordsSpellTheRequest = (r : Request) → has_words r ≡ true → FitsRequest r → SpellsRequest (request_words r) r

abbrev pub PrintedWordsSpellTheReply : Type 0
PrintedWordsSpellTheReply = (r : Reply) → has_short_body r ≡ true → FitsReply r → SpellsReply (reply_words r) r

-- the other way: what some words spell is such a request
abbrev pub SpelledRequestsHaveWords : Type 0
SpelledRequestsHaveWords = (words : List Word) (r : Request) → SpellsRequest words r → has_words r ≡ true

-- and such a reply
abbrev pub SpelledRepliesHaveShortBodies : Type 0
SpelledRepliesHaveShortBodies = (words : List Word) (r : Reply) → SpellsReply words r → has_short_body r ≡ true

-- ---- words stay whole on a line

-- a byte that neither separates words nor ends a line: 33 to 126
abbrev pub is_visible : ℕ → Bool
is_visible byte = nat_le 33 byte && nat_le byte 126

-- the word is not empty, and has visible bytes alone
abbrev pub is_whole : Word → Bool
is_whole word = not (length word == 0) && list_all is_visible word

abbrev pub are_whole : List Word → Bool
are_whole words = list_all is_whole words

-- words that spell something are whole, however they came about
abbrev pub SpellingWordsAreWhole : {V : Type 0} → (List Word → V → Type 0) → Type 0
SpellingWordsAreWhole {V} Spells = (words : List Word) (v : V) → Spells words v → are_whole words ≡ true

-- whole words that were joined are the words of their line
abbrev pub JoinedWordsFallApart : Type 0
JoinedWordsFallApart = (separator : Separator) (words : List Word) → are_whole words ≡ true → words_of separator (join_words words) ≡ words

-- a byte that a line may have: a space, or a visible byte
abbrev pub is_in_line : ℕ → Bool
is_in_line byte = nat_le 32 byte && nat_le byte 126

-- whole words that were joined end no line
abbrev pub JoinedWordsEndNoLine : Type 0
JoinedWordsEndNoLine = (words : List Word) → are_whole words ≡ true → list_all is_in_line (join_words words) ≡ true
