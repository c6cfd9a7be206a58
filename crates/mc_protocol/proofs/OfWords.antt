-- A verb, or a class, is found by its word.
use Rattle.std.proofs.Common.{◌≡◌, Option, Some, None, refl, sym, ap, ◌∙◌}
use Rattle.std.proofs.lemmas.Slice.Eq.{bytes_eq-Decides}
use Rattle.std.specs.Str.{bytes_eq}
use Rattle.mc_protocol.specs.declared.request.Verb.TheVariants.{Set, Add, Replace, Append, Prepend, Cas, Get, Gets, Incr, Decr, Delete, Touch}
use Rattle.mc_protocol.specs.Words.{IsOfWord, verb_word, all_verbs, verb_of, class_word, all_classes, class_of_word}
use Rattle.mc_protocol.specs.{declared.request.Verb.Verb, declared.reply.Class.Class, Lines.Word}
use Rattle.mc_protocol.specs.declared.reply.Class.TheVariants as class
use Rattle.mc_protocol.proofs.Found.{find-passes}

-- the verb with a verb's word is that verb
pub verb_of-word : (verb : Verb) → verb_of (verb_word verb) ≡ Some verb
unfolding verb_of
verb_of-word Set = refl
verb_of-word Add = refl
verb_of-word Replace = refl
verb_of-word Append = refl
verb_of-word Prepend = refl
verb_of-word Cas = refl
verb_of-word Get = refl
verb_of-word Gets = refl
verb_of-word Incr = refl
verb_of-word Decr = refl
verb_of-word Delete = refl
verb_of-word Touch = refl

pub word-of_verb : (word : Word) (verb : Verb) → verb_of word ≡ Some verb → verb_word verb ≡ word
unfolding verb_of
word-of_verb word verb h = (bytes_eq-Decides (verb_word verb) word).0 (find-passes (λ v. bytes_eq (verb_word v) word) all_verbs verb h)

-- the class with a class's word is that class
pub class_of-word : (c : Class) → class_of_word (class_word c) ≡ Some c
unfolding class_of_word
class_of-word class.Stored = refl
class_of-word class.NotStored = refl
class_of-word class.Exists = refl
class_of-word class.NotFound = refl
class_of-word class.Hit = refl
class_of-word class.Miss = refl
class_of-word class.Deleted = refl
class_of-word class.Touched = refl
class_of-word class.Number = refl
class_of-word class.NotNumber = refl

pub word-of_class : (word : Word) (c : Class) → class_of_word word ≡ Some c → class_word c ≡ word
unfolding class_of_word
word-of_class word c h = (bytes_eq-Decides (class_word c) word).0 (find-passes (λ d. bytes_eq (class_word d) word) all_classes c h)

-- what is found by a word is of that word, and nothing else is
of_word-found : {V : Type 0} (word_of : V → Word) (found : Word → Option V) → ((v : V) → found (word_of v) ≡ Some v)
    → ((word : Word) (v : V) → found word ≡ Some v → word_of v ≡ word)
    → (word : Word) (result : Option V) → result ≡ found word → IsOfWord word_of word result
of_word-found word_of found again spelled word None e = λ v is. let h = again v in absurd (let g = e ∙ ap found is ∙ h in cc)
of_word-found word_of found again spelled word (Some v) e = sym (spelled word v (sym e))

pub verb-found : (word : Word) (result : Option Verb) → result ≡ verb_of word → IsOfWord verb_word word result
verb-found = of_word-found verb_word verb_of verb_of-word word-of_verb

pub class-found : (word : Word) (result : Option Class) → result ≡ class_of_word word → IsOfWord class_word word result
class-found = of_word-found class_word class_of_word class_of-word word-of_class
