-- The text of each request is asked as that request.
use Rattle.std.proofs.Common.{◌≡◌, ℕ, ◌≤◌, nat_le, Bool, true, false, cond, Option, Some, None, [], ◌∷◌, ◌++◌, length, decimal, refl, ap, ◌∙◌, arith}
use Rattle.std.proofs.lemmas.Bool.{le-leb}
use Rattle.std.specs.{Option.unwrap_or, Str.Parse.digits_value}
use Rattle.mc_protocol.specs.declared.lines.Separator.TheVariants.{Space}
use Rattle.mc_protocol.specs.{Decimals.MAX_32, Decimals.MAX_64, Decimals.has_digits_alone, Fields.fields_of, Lines.Word, Lines.Words, Lines.words_of}
use Rattle.mc_protocol.specs.{Texts.text_as, Words.verb_word, declared.request.Fields.Fields, declared.request.Request.Request, declared.request.Verb.Verb}
use Rattle.mc_protocol.specs.declared.request.Fields.TheVariants as fields
use Rattle.mc_protocol.specs.declared.request.Verb.TheVariants as verb
use Rattle.mc_reader.specs.AskLines.{LineSays, Whole, Block, refused, bare, command_of, ending, retrieval, storage_says, storage, swapping}
use Rattle.mc_reader.specs.AskLines.{bare_says, counting, deletion, touch_says, touch, command_says, words_say, line_says}
use Rattle.mc_reader.specs.declared.ask_said.Command.TheVariants.{Retrieves, Stores, Swaps, Counts, Deletes, Touches}
use Rattle.mc_reader.specs.declared.limits.TheConstants.{REQUEST_BODY_LIMIT, ANNOUNCED_LIMIT}
use Rattle.mc_reader.specs.{AskEnds.crlf, AskEnds.AskEnds, AskEnds.one_line, AskEnds.with_block, AskLaws.IsSendable, AskLaws.with_fields}
use Rattle.mc_reader.specs.{AskLaws.WrittenIsAsked, AskWords.number_in, AskWords.time_in, AskWords.is_request_key, Asks.One, Lines.CR, Lines.LF, Lines.IsLine}
use Rattle.mc_reader.specs.{declared.ask.Refuse.TheVariants.BadLine, declared.ask_said.Command.Command, declared.ask_said.StoreLine.StoreLine}
use Rattle.mc_reader.proofs.AskWrittenLines.{line_text, text_split, IsOneWord, zero, words_after_word, words_written, is_line}
use Rattle.mc_reader.proofs.{Fits.both, TextLemmas.text_is, WrittenHits.alone, WrittenHits.value, WrittenHits.within}

-- ---- what the words say

abbrev command_for : Verb → Command
command_for verb.Set = Stores verb.Set
command_for verb.Add = Stores verb.Add
command_for verb.Replace = Stores verb.Replace
command_for verb.Append = Stores verb.Append
command_for verb.Prepend = Stores verb.Prepend
command_for verb.Cas = Swaps
command_for verb.Get = Retrieves verb.Get
command_for verb.Gets = Retrieves verb.Gets
command_for verb.Incr = Counts verb.Incr
command_for verb.Decr = Counts verb.Decr
command_for verb.Delete = Deletes
command_for verb.Touch = Touches

known : (v : Verb) → command_of (verb_word v) ≡ Some (command_for v)
unfolding command_of
known verb.Set = refl
known verb.Add = refl
known verb.Replace = refl
known verb.Append = refl
known verb.Prepend = refl
known verb.Cas = refl
known verb.Get = refl
known verb.Gets = refl
known verb.Incr = refl
known verb.Decr = refl
known verb.Delete = refl
known verb.Touch = refl

first_says : (word : Word) (words : Words) (command : Command) → command_of word ≡ Some command
    → words_say (word ∷ words) ≡ command_says (Some command) words
unfolding words_say
first_says word words command e = ap (λ o. command_says o words) e

number_said : (greatest n : ℕ) → n ≤ MAX_64 → n ≤ greatest → number_in greatest (decimal n) ≡ Some n
unfolding number_in
number_said greatest n small h =
    ap (λ b. cond b (Some (digits_value 10 (decimal n))) None)
    (both (has_digits_alone (decimal n)) (nat_le (digits_value 10 (decimal n)) greatest) (alone n small) (within n greatest small h))
    ∙ ap Some (value n small)

never : time_in zero ≡ Some true
unfolding time_in
never = refl

none_left : ending [] ≡ Some false
unfolding ending
none_left = refl

abbrev store_line : Verb → Request → ℕ → StoreLine
store_line v r number =
    record { verb = v; key = r.key; flags = r.flags; number = number; noreply = false; body_len = length r.body }

parts_say : (v : Verb) (r : Request) (number : ℕ) (f : Option ℕ) (t : Option Bool) (l : Option ℕ) (n : Option ℕ) (e : Option Bool)
    → f ≡ Some r.flags → t ≡ Some true → l ≡ Some (length r.body) → n ≡ Some number → e ≡ Some false → is_request_key r.key ≡ true
    → nat_le (length r.body) REQUEST_BODY_LIMIT ≡ true
    → storage_says v r.key f t l n e ≡ Block (store_line v r number)
parts_say v r number f t l n e p q s u w k b = rw (p, q, s, u, w, k, b) refl

stores_said : (v : Verb) (r : Request) → IsSendable r → storage v (words_after_word fields.Item r) ≡ Block (store_line v r 0)
unfolding storage
stores_said v r s =
    let few = s.body in
    let narrow = s.flags in
    parts_say v r 0 (number_in MAX_32 (decimal r.flags)) (time_in zero) (number_in ANNOUNCED_LIMIT (decimal (length r.body))) (Some 0)
    (ending [])
    (number_said MAX_32 r.flags (omega arith) narrow) never
    (number_said ANNOUNCED_LIMIT (length r.body) (omega arith) (omega arith)) refl none_left s.key
    (le-leb (length r.body) REQUEST_BODY_LIMIT few)

swaps_said : (r : Request) → IsSendable r → swapping (words_after_word fields.Swap r) ≡ Block (store_line verb.Cas r r.number)
unfolding swapping
swaps_said r s =
    let few = s.body in
    let narrow = s.flags in
    parts_say verb.Cas r r.number (number_in MAX_32 (decimal r.flags)) (time_in zero)
    (number_in ANNOUNCED_LIMIT (decimal (length r.body)))
    (number_in MAX_64 (decimal r.number)) (ending [])
    (number_said MAX_32 r.flags (omega arith) narrow) never
    (number_said ANNOUNCED_LIMIT (length r.body) (omega arith) (omega arith)) (number_said MAX_64 r.number s.number s.number) none_left
    s.key (le-leb (length r.body) REQUEST_BODY_LIMIT few)

bare_said : (v : Verb) (key : Word) (number : ℕ) (n : Option ℕ) (e : Option Bool) → n ≡ Some number → e ≡ Some false
    → is_request_key key ≡ true → bare_says v key n e ≡ Whole (One (bare v key number) false)
bare_said v key number n e p q k = rw (p, q, k) refl

counts_said : (v : Verb) (r : Request) → IsSendable r → counting v (words_after_word fields.Amount r)
    ≡ Whole (One (bare v r.key r.number) false)
unfolding counting
counts_said v r s =
    bare_said v r.key r.number (number_in MAX_64 (decimal r.number)) (ending []) (number_said MAX_64 r.number s.number s.number) none_left
    s.key

deletes_said : (r : Request) → IsSendable r → deletion (words_after_word fields.KeyAlone r) ≡ Whole (One (bare verb.Delete r.key 0) false)
unfolding deletion
deletes_said r s = bare_said verb.Delete r.key 0 (Some 0) (Some false) refl refl s.key

retrieves_said : (v : Verb) (r : Request) → IsSendable r → retrieval v (words_after_word fields.KeyAlone r)
    ≡ Whole (One (bare v r.key 0) false)
unfolding retrieval
retrieves_said v r s = ap (λ b. cond b (Whole (One (bare v r.key 0) false)) (refused BadLine)) s.key

touch_said : (key : Word) (t e : Option Bool) → t ≡ Some true → e ≡ Some false → is_request_key key ≡ true
    → touch_says key t e ≡ Whole (One (bare verb.Touch key 0) false)
touch_said key t e p q k = rw (p, q, k) refl

touches_said : (r : Request) → IsSendable r → touch (words_after_word fields.Expiry r) ≡ Whole (One (bare verb.Touch r.key 0) false)
unfolding touch
touches_said r s = touch_said r.key (time_in zero) (ending []) never none_left s.key

-- what the line of a request says
abbrev wanted : Verb → Fields → Request → LineSays
wanted v fields.KeyAlone r = Whole (One (bare v r.key 0) false)
wanted v fields.Expiry r = Whole (One (bare v r.key 0) false)
wanted v fields.Item r = Block (store_line v r 0)
wanted v fields.Swap r = Block (store_line v r r.number)
wanted v fields.Amount r = Whole (One (bare v r.key r.number) false)

command_said : (v : Verb) (r : Request) → IsSendable r
    → command_says (Some (command_for v)) (words_after_word (fields_of v) r) ≡ wanted v (fields_of v) r
command_said verb.Set r s = stores_said verb.Set r s
command_said verb.Add r s = stores_said verb.Add r s
command_said verb.Replace r s = stores_said verb.Replace r s
command_said verb.Append r s = stores_said verb.Append r s
command_said verb.Prepend r s = stores_said verb.Prepend r s
command_said verb.Cas r s = swaps_said r s
command_said verb.Get r s = retrieves_said verb.Get r s
command_said verb.Gets r s = retrieves_said verb.Gets r s
command_said verb.Incr r s = counts_said verb.Incr r s
command_said verb.Decr r s = counts_said verb.Decr r s
command_said verb.Delete r s = deletes_said r s
command_said verb.Touch r s = touches_said r s

line_said : (v : Verb) (r : Request) → IsOneWord (verb_word v) → IsSendable r
    → line_says (line_text (verb_word v) (fields_of v) r ++ CR ∷ []) ≡ wanted v (fields_of v) r
line_said v r w s =
    let line = line_text (verb_word v) (fields_of v) r in
    ap (λ o. words_say (words_of Space (unwrap_or o (line ++ CR ∷ [])))) (text_is line CR)
    ∙ ap words_say (words_written (verb_word v) (fields_of v) r w s)
    ∙ first_says (verb_word v) (words_after_word (fields_of v) r) (command_for v) (known v)
    ∙ command_said v r s

-- ---- requests

asked_as : (v : Verb) (word : Word) (f : Fields) (r : Request) → line_says (line_text word f r ++ CR ∷ []) ≡ wanted v f r
    → IsLine (line_text word f r ++ CR ∷ []) → AskEnds (text_as word f r) (One (with_fields v f r) false)
asked_as v word fields.KeyAlone r says l = one_line (line_text word fields.KeyAlone r ++ CR ∷ []) l says (text_split word fields.KeyAlone r)
asked_as v word fields.Expiry r says l = one_line (line_text word fields.Expiry r ++ CR ∷ []) l says (text_split word fields.Expiry r)
asked_as v word fields.Item r says l =
    with_block (line_text word fields.Item r ++ CR ∷ []) (r.body ++ CR ∷ LF ∷ []) (store_line v r 0) l says
    (record { body = r.body; rest = CR ∷ LF ∷ []; whole = refl; cut = refl; ends = crlf refl refl }) (text_split word fields.Item r)
asked_as v word fields.Swap r says l =
    with_block (line_text word fields.Swap r ++ CR ∷ []) (r.body ++ CR ∷ LF ∷ []) (store_line v r r.number) l says
    (record { body = r.body; rest = CR ∷ LF ∷ []; whole = refl; cut = refl; ends = crlf refl refl }) (text_split word fields.Swap r)
asked_as v word fields.Amount r says l = one_line (line_text word fields.Amount r ++ CR ∷ []) l says (text_split word fields.Amount r)

verb_is_word : (v : Verb) → IsOneWord (verb_word v)
verb_is_word verb.Set = record { some = omega arith; one_word = refl; one_line = refl }
verb_is_word verb.Add = record { some = omega arith; one_word = refl; one_line = refl }
verb_is_word verb.Replace = record { some = omega arith; one_word = refl; one_line = refl }
verb_is_word verb.Append = record { some = omega arith; one_word = refl; one_line = refl }
verb_is_word verb.Prepend = record { some = omega arith; one_word = refl; one_line = refl }
verb_is_word verb.Cas = record { some = omega arith; one_word = refl; one_line = refl }
verb_is_word verb.Get = record { some = omega arith; one_word = refl; one_line = refl }
verb_is_word verb.Gets = record { some = omega arith; one_word = refl; one_line = refl }
verb_is_word verb.Incr = record { some = omega arith; one_word = refl; one_line = refl }
verb_is_word verb.Decr = record { some = omega arith; one_word = refl; one_line = refl }
verb_is_word verb.Delete = record { some = omega arith; one_word = refl; one_line = refl }
verb_is_word verb.Touch = record { some = omega arith; one_word = refl; one_line = refl }

verb_is_short : (v : Verb) → length (verb_word v) ≤ 7
verb_is_short verb.Set = omega arith
verb_is_short verb.Add = omega arith
verb_is_short verb.Replace = omega arith
verb_is_short verb.Append = omega arith
verb_is_short verb.Prepend = omega arith
verb_is_short verb.Cas = omega arith
verb_is_short verb.Get = omega arith
verb_is_short verb.Gets = omega arith
verb_is_short verb.Incr = omega arith
verb_is_short verb.Decr = omega arith
verb_is_short verb.Delete = omega arith
verb_is_short verb.Touch = omega arith

pub written : WrittenIsAsked
written r s =
    asked_as r.verb (verb_word r.verb) (fields_of r.verb) r (line_said r.verb r (verb_is_word r.verb) s)
    (is_line (verb_word r.verb) (fields_of r.verb) r (verb_is_word r.verb) (verb_is_short r.verb) s)
