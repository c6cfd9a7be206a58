-- Where a send leads: the places of the classes that its verb may be answered with.
use Rattle.std.specs.Prelude.{◌≡◌, ℕ, true, List}
use Rattle.mc_protocol.specs.{Legal.is_legal, declared.reply.Class.Class, declared.request.Verb.Verb}
use Rattle.mc_code.specs.Paths.{entry_of}

-- a reply that a request of this verb may have leads to the place
abbrev pub IsEntry : Verb → List ℕ → ℕ → Type 0
IsEntry verb next place = (class : Class) × (is_legal verb class ≡ true) × (place ≡ entry_of next class)
