-- The words of sections, verbs and classes of replies.
use Rattle.std.specs.Prelude.{◌≡◌, ℕ, Option, Some, None, List, [], ◌∷◌, codes}
use Rattle.std.specs.{List.find, Str.bytes_eq}
use Rattle.mc_protocol.specs.declared.request.Verb.TheVariants.{Set, Add, Replace, Append, Prepend, Cas}
use Rattle.mc_protocol.specs.declared.request.Verb.TheVariants.{Get, Gets, Incr, Decr, Delete, Touch}
use Rattle.mc_protocol.specs.{Lines.Word, declared.actor.Actor.Actor, declared.reply.Class.Class, declared.request.Verb.Verb}
use Rattle.mc_protocol.specs.declared.actor.Actor.TheVariants as actor
use Rattle.mc_protocol.specs.declared.reply.Class.TheVariants as class

-- the value with this word, or none where no value has it
abbrev pub IsOfWord : {V : Type 0} → (V → Word) → Word → Option V → Type 0
IsOfWord {V} word_of word None = (value : V) → word ≡ word_of value → ⊥
IsOfWord word_of word (Some value) = word ≡ word_of value

-- the word of a section
abbrev pub actor_word : Actor → Word
actor_word actor.P = codes "P"
actor_word actor.A = codes "A"
actor_word actor.B = codes "B"

-- the word of a verb (protocol.txt)
abbrev pub verb_word : Verb → Word
verb_word Set = codes "set"
verb_word Add = codes "add"
verb_word Replace = codes "replace"
verb_word Append = codes "append"
verb_word Prepend = codes "prepend"
verb_word Cas = codes "cas"
verb_word Get = codes "get"
verb_word Gets = codes "gets"
verb_word Incr = codes "incr"
verb_word Decr = codes "decr"
verb_word Delete = codes "delete"
verb_word Touch = codes "touch"

-- the verbs in their order
abbrev pub all_verbs : List Verb
all_verbs = Set ∷ Add ∷ Replace ∷ Append ∷ Prepend ∷ Cas ∷ Get ∷ Gets ∷ Incr ∷ Decr ∷ Delete ∷ Touch ∷ []

-- the verb with this word
unfoldable pub verb_of : Word → Option Verb
verb_of word = find (λ verb. bytes_eq (verb_word verb) word) all_verbs

-- the word of a class in scripts
abbrev pub class_word : Class → Word
class_word class.Stored = codes "stored"
class_word class.NotStored = codes "notstored"
class_word class.Exists = codes "exists"
class_word class.NotFound = codes "notfound"
class_word class.Hit = codes "hit"
class_word class.Miss = codes "miss"
class_word class.Deleted = codes "deleted"
class_word class.Touched = codes "touched"
class_word class.Number = codes "number"
class_word class.NotNumber = codes "notnumber"

-- the classes in their order
abbrev pub all_classes : List Class
all_classes =
    class.Stored ∷ class.NotStored ∷ class.Exists ∷ class.NotFound ∷ class.Hit ∷ class.Miss ∷ class.Deleted
    ∷ class.Touched ∷ class.Number ∷ class.NotNumber ∷ []

-- where a class stands in their order
abbrev pub class_index : Class → ℕ
class_index class.Stored = 0
class_index class.NotStored = 1
class_index class.Exists = 2
class_index class.NotFound = 3
class_index class.Hit = 4
class_index class.Miss = 5
class_index class.Deleted = 6
class_index class.Touched = 7
class_index class.Number = 8
class_index class.NotNumber = 9

-- the class with this word
unfoldable pub class_of_word : Word → Option Class
class_of_word word = find (λ class. bytes_eq (class_word class) word) all_classes
