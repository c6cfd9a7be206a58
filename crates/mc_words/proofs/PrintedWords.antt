-- What is printed spells the value.
use Rattle.std.proofs.Common.{◌≡◌, ℕ, ◌/◌, ◌%◌, ◌<◌, ◌≤◌, ◌==◌, ◌++◌, nat_le, Bool, true, false, ◌&&◌, cond, Option}
use Rattle.std.proofs.Common.{Some, None, List, [], ◌∷◌, length, decimal, refl, sym, subst, inl, inr, arith}
use Rattle.std.proofs.lemmas.Bool.{and_parts, eqb-true, leb-true, le-leb}
use Rattle.std.proofs.{lemmas.Bool.Decides.nat_tests, lemmas.List.Elements.All-head, lemmas.List.Elements.All-tail}
use Rattle.std.specs.{List.flat_map, Fmt.digit_glyph, Option.IfSome}
use Rattle.mc_protocol.specs.{Fields.fields_of, Names.is_key}
use Rattle.mc_words.specs.Words.{SpellsByte, SpellsBytes, SpellsBody, SpellsFields, SpellsRequest, SpellsShown, SpellsReply, is_plain, hex_value}
use Rattle.mc_words.specs.Words.{escaped_byte, printed_byte, body_word, field_words, request_words, shown_words, reply_words}
use Rattle.mc_words.specs.WordLaws.{AreBytes, FitsRequest, FitsReply, has_short_body, PrintedWordsSpellTheRequest, PrintedWordsSpellTheReply}
use Rattle.mc_model.specs.{Types.REPLY_BODY_LIMIT, Types.Fields, Types.Request, Types.Reply, Types.Word, History.has_words, History.has_its_fields}
use Rattle.mc_model.specs.{History.lacks_the_others, History.is_empty}
use Rattle.mc_words.specs.{WordLaws.SpelledRequestsHaveWords, WordLaws.SpelledRepliesHaveShortBodies}
use Rattle.mc_protocol.specs.declared.request.Fields.TheVariants as fields
use Rattle.mc_protocol.specs.declared.reply.Reply.TheVariants as reply
use Rattle.mc_protocol.specs.Decimals.{MAX_32, MAX_64}
use Rattle.mc_protocol.proofs.Decimals.{decimal-spells}

-- ---- bodies

-- the digit for a value has it
glyph-value : (d : ℕ) → d < 16 → hex_value (digit_glyph false d) ≡ Some d
glyph-value d small = grind (arith, nat_tests)

-- a byte is spelled by what is printed for it
byte-spelled : (plain : Bool) (byte : ℕ) (rest : List ℕ) → byte < 256 → is_plain byte ≡ plain
    → SpellsByte (cond plain (byte ∷ []) (escaped_byte byte) ++ rest) byte rest
byte-spelled true byte rest small p = inl (refl, p)
byte-spelled false byte rest small p =
    inr (
      digit_glyph false (byte / 16),
      digit_glyph false (byte % 16),
      byte / 16,
      byte % 16,
      refl,
      glyph-value (byte / 16) (omega arith),
      glyph-value
          (byte % 16) (omega arith),
      omega arith,
    )

bytes-spelled : (body : List ℕ) → AreBytes body → SpellsBytes (flat_map printed_byte body) body
bytes-spelled [] all = refl
bytes-spelled (byte ∷ body) all = (
  flat_map printed_byte body,
  byte-spelled (is_plain byte) byte (flat_map printed_byte body) (All-head (λ b. b < 256) byte body all) refl,
  bytes-spelled
      body (All-tail (λ b. b < 256) byte body all),
)

pub body-spells : (body : List ℕ) → AreBytes body → length body ≤ REPLY_BODY_LIMIT → SpellsBody (body_word body) body
body-spells body all small = (flat_map printed_byte body, refl, bytes-spelled body all, small)

-- ---- requests

empty-is : (bytes : List ℕ) → is_empty bytes ≡ true → bytes ≡ []
empty-is [] h = refl
empty-is (byte ∷ bytes) h = absurd (omega (arith, eqb-true (length (byte ∷ bytes)) 0 h))

lacks_item : (r : Request) → lacks_the_others fields.Amount r ≡ true → (r.flags ≡ 0) × (r.body ≡ [])
lacks_item r lacks =
    let q = and_parts (r.flags == 0) (is_empty r.body) lacks in
    (eqb-true r.flags 0 q.0, empty-is r.body q.1)

lacks_all : (r : Request) → lacks_the_others fields.KeyAlone r ≡ true → (r.flags ≡ 0) × (r.body ≡ []) × (r.number ≡ 0)
lacks_all r lacks =
    let p = and_parts ((r.flags == 0) && is_empty r.body) (r.number == 0) lacks in
    let q = lacks_item r p.0 in
    (q.0, q.1, eqb-true r.number 0 p.1)

-- each field that the shape has holds a value of its type
abbrev pub FitsFields : Fields → Request → Type 0
FitsFields fields.Item r = (r.flags ≤ MAX_32) × AreBytes r.body
FitsFields fields.Swap r = (r.flags ≤ MAX_32) × AreBytes r.body × (r.number ≤ MAX_64)
FitsFields fields.Amount r = r.number ≤ MAX_64
FitsFields _ r = Unit {0}

fields-spell : (shape : Fields) (r : Request) → lacks_the_others shape r ≡ true → length r.body ≤ REPLY_BODY_LIMIT → FitsFields shape r
    → SpellsFields shape (field_words shape r) r
fields-spell fields.Item r lacks short fits = (
  decimal r.flags,
  body_word r.body,
  refl,
  decimal-spells MAX_32 r.flags (omega arith) fits.0,
  body-spells r.body fits.1 short,
  eqb-true r.number 0 lacks,
)
fields-spell fields.Swap r lacks short fits = (
  decimal r.flags,
  body_word r.body,
  decimal r.number,
  refl,
  decimal-spells MAX_32 r.flags (omega arith) fits.0,
  body-spells r.body fits.1 short,
  decimal-spells MAX_64 r.number (omega arith) fits.2,
)
fields-spell fields.Amount r lacks short fits =
    let p = lacks_item r lacks in
    (decimal r.number, refl, p.0, p.1, decimal-spells MAX_64 r.number (omega arith) fits)
fields-spell _ r lacks short fits = let p = lacks_all r lacks in (refl, p.0, p.1, p.2)

-- so what is printed spells the request
pub printed_shape : (shape : Fields) (r : Request) → fields_of r.verb ≡ shape → FitsFields shape r → has_words r ≡ true → SpellsRequest (request_words r) r
printed_shape shape r e fits has =
    let p = and_parts (is_key r.key && nat_le (length r.body) REPLY_BODY_LIMIT) (has_its_fields r) has in
    let q = and_parts (is_key r.key) (nat_le (length r.body) REPLY_BODY_LIMIT) p.0 in
    let spelled = fields-spell shape r (rw e at p.1) (leb-true (length r.body) REPLY_BODY_LIMIT q.1) fits in
    (field_words (fields_of r.verb) r, refl, q.0, subst (λ shape. SpellsFields shape (field_words shape r) r) (sym e) spelled)

fits_fields : (shape : Fields) (r : Request) → FitsRequest r → FitsFields shape r
fits_fields fields.Item r fits = (fits.flags, fits.body)
fits_fields fields.Swap r fits = (fits.flags, fits.body, fits.number)
fits_fields fields.Amount r fits = fits.number
fits_fields _ r fits = tt

pub printed_request : PrintedWordsSpellTheRequest
printed_request r has fits = printed_shape (fields_of r.verb) r refl (fits_fields (fields_of r.verb) r fits) has

-- ---- replies

shown-spells : (cas : Option ℕ) → IfSome cas (λ n. n ≤ MAX_64) → SpellsShown (shown_words cas) cas
shown-spells None fits = refl
shown-spells (Some n) fits = (decimal n, refl, decimal-spells MAX_64 n (omega arith) fits)

pub printed_reply : PrintedWordsSpellTheReply
printed_reply (reply.Hit flags body cas) short (f, b, n) =
    let spelled = body-spells body b (leb-true (length body) REPLY_BODY_LIMIT short) in
    (decimal flags, body_word body, shown_words cas, refl, decimal-spells MAX_32 flags (omega arith) f, spelled, shown-spells cas n)
printed_reply (reply.Number n) short fits = (decimal n, refl, decimal-spells MAX_64 n (omega arith) fits)
printed_reply _ short fits = refl

-- the same of a reply that carries these
pub printed_hit : (r : Reply) (flags : ℕ) (body : List ℕ) (cas : Option ℕ) → r ≡ reply.Hit flags body cas → FitsReply (reply.Hit flags body cas)
    → has_short_body r ≡ true → SpellsReply (reply_words r) r
printed_hit r flags body cas e fits short = printed_reply r short (subst FitsReply (sym e) fits)

pub printed_number : (r : Reply) (n : ℕ) → r ≡ reply.Number n → n ≤ MAX_64 → SpellsReply (reply_words r) r
printed_number r n e fits = subst (λ q. SpellsReply (reply_words q) q) (sym e) (printed_reply (reply.Number n) refl fits)

-- ---- what words spell is a value of which the printed words do

-- the words after the key spell a body within the limit, and what the shape lacks is 0 or empty
fields-kept : (shape : Fields) (words : List Word) (r : Request) → SpellsFields shape words r
    → (nat_le (length r.body) REPLY_BODY_LIMIT ≡ true) × (lacks_the_others shape r ≡ true)
fields-kept fields.Item words r (f, b, e, flags, (text, w, spelled, small), n) = (le-leb (length r.body) REPLY_BODY_LIMIT small, rw n refl)
fields-kept fields.Swap words r (f, b, c, e, flags, (text, w, spelled, small), n) = (le-leb (length r.body) REPLY_BODY_LIMIT small, refl)
fields-kept fields.Amount words r (c, e, f, b, n) = (rw b refl, rw (f, b) refl)
fields-kept _ words r s = (rw s.2 refl, rw (s.1, s.2, s.3) refl)

pub spelled_request : SpelledRequestsHaveWords
spelled_request words r (others, e, key, spelled) =
    let kept = fields-kept (fields_of r.verb) others r spelled in
    rw (key, kept.0, kept.1) refl

pub spelled_reply : SpelledRepliesHaveShortBodies
spelled_reply words (reply.Hit flags body cas) (f, b, shown, e, n, (text, w, spelled, small), s) = le-leb (length body) REPLY_BODY_LIMIT small
spelled_reply words _ e = refl
