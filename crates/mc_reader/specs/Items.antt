-- The words of a line that may announce a hit.
use Rattle.std.specs.Prelude.{◌≡◌, Option, Some, None, Err, [], ◌∷◌, if◌then◌else◌, ℕ}
use Rattle.std.specs.{Borrow.Bor, Option.option_map, Str.Parse.digits_value}
use Rattle.mc_protocol.specs.{Lines.Word, Lines.Words, declared.request.Verb.Verb}
use Rattle.mc_reader.specs.declared.fault.ReadFault.TheVariants.{NotAReply}
use Rattle.mc_reader.specs.{Words.hit_says, Words.is_too_large, declared.item.ItemWords.ItemWords}

abbrev pub shown : Option (Bor Word) → Option Word
shown cas = option_map (λ word. word.now) cas

abbrev pub cas_in : ItemWords → Option Word
cas_in item = shown item.cas

abbrev pub word_list : Option Word → Words
word_list None = []
word_list (Some word) = word ∷ []

abbrev pub words_in : ItemWords → Words
words_in item = item.value.now ∷ item.name.now ∷ item.flags.now ∷ item.body_len.now ∷ word_list (cas_in item)

-- the words announce no hit to any request
abbrev pub IsNoItem : Words → Type 0
IsNoItem words = (verb : Verb) (key : Word) → hit_says verb key words ≡ Err NotAReply

-- the cas unique, where one is shown, or none where it is above 64 bits
abbrev pub cas_of : Option (Bor Word) → Option (Option ℕ)
cas_of cas = if is_too_large (shown cas) then None else Some (option_map (digits_value 10) (shown cas))
