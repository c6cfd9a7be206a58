-- Laws of the grammar of replies.
use Rattle.std.specs.Prelude.{◌≡◌, ℕ, ◌<◌, ◌≤◌, true, false, Some, None, List, ◌++◌, length}
use Rattle.std.specs.List.{list_any}
use Rattle.mc_protocol.specs.declared.request.Verb.{Verb}
use Rattle.mc_protocol.specs.{Decimals.MAX_32, Decimals.MAX_64, Legal.is_fit_for, Lines.Word, Texts.reply_text, declared.reply.Reply.Reply}
use Rattle.mc_protocol.specs.declared.reply.Reply.TheVariants as reply
use Rattle.mc_reader.specs.{Lines.has_end, Replies.Outcome, Replies.Ends, Replies.Spells, Words.is_space}

-- of two texts that end, begun by the same bytes, neither is shorter, and they end alike
abbrev pub OneReply : Type 0
OneReply = (verb : Verb) (key : Word) (s t after_s after_t : List ℕ) (a b : Outcome)
    → Ends verb key s a → Ends verb key t b → s ++ after_s ≡ t ++ after_t → (s ≡ t) × (a ≡ b)

abbrev pub SpelledRepliesFit : Type 0
SpelledRepliesFit = (verb : Verb) (key : Word) (text : List ℕ) (r : Reply) → Spells verb key text r → is_fit_for verb r ≡ true

-- a key as requests have it (protocol.txt): 1 to 250 bytes, and neither a space nor an LF among them
pub record IsKeyText (key : Word) : Type 0 where
  pub some : 0 < length key
  pub short : length key ≤ 250
  pub one_word : list_any is_space key ≡ false
  pub one_line : has_end key ≡ false

-- the numbers are within the widths that replies have
abbrev pub HasWidths : Reply → Type 0
HasWidths (reply.Hit flags body None) = flags ≤ MAX_32
HasWidths (reply.Hit flags body (Some cas)) = (flags ≤ MAX_32) × (cas ≤ MAX_64)
HasWidths (reply.Number n) = n ≤ MAX_64
HasWidths r = Unit {0}

-- what a server writes for a reply that fits is what is read as that reply
abbrev pub WrittenIsSpelled : Type 0
WrittenIsSpelled = (verb : Verb) (key : Word) (r : Reply) → IsKeyText key → HasWidths r → is_fit_for verb r ≡ true
    → Spells verb key (reply_text key r) r
