-- What clap finds in the words of a line.
use Rattle.std.specs.Prelude.{Option, List, ℕ, Bool, false, None, Some, codes, option_and_then, option_map, unwrap_or}
use Rattle.std.specs.Str.{bytes_eq}
use Rattle.clap.specs.Words.{Kinds, Text, fault_of, first_of, subcommand_of}
use Rattle.mc_protocol.specs.declared.actor.Actor.{Actor}
use Rattle.mc_protocol.specs.declared.actor.Actor.TheVariants as actor
use Rattle.mc_cli.specs.Commands.{program_app}

-- the kinds of the first fault that clap finds in the words, of which it gives one; a call for help or for the version is one too
unfoldable pub line_faults : List (List ℕ) → Kinds
line_faults words = fault_of program_app words

-- the name of the subcommand that clap finds in the words
unfoldable pub line_command : List (List ℕ) → Option Text
line_command words = option_map (λ found. found.0) (subcommand_of program_app words)

-- the word that clap finds in the words as the first value of this option or argument
unfoldable pub line_value : List (List ℕ) → Text → Option Text
line_value words name = option_and_then (λ found. first_of name found.1) (subcommand_of program_app words)

-- whether a switch is there, by the word that clap has as its value
abbrev pub is_set : Option (List ℕ) → Bool
is_set None = false
is_set (Some word) = bytes_eq word (codes "true")

-- of the servers of P, A and B, the one that a section runs against: P's where the section has none of its own
abbrev pub section_server : {A : Type 0} → Actor → A → Option A → Option A → A
section_server actor.P p a b = p
section_server actor.A p a b = unwrap_or a p
section_server actor.B p a b = unwrap_or b p
