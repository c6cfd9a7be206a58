-- What clap finds in the words of a line.
use Rattle.std.proofs.Common.{◌≡◌, ◌∙◌, refl, sym, ap, true, Option, ℕ, List, Some, None, option_map}
use Rattle.std.specs.Prelude.{option_and_then}
use Rattle.clap.specs.Words.{App, HasMatchesOf, Row, Text, fault_of, first_of, first_value, found_of, is_simple, is_simple_and_free}
use Rattle.clap.specs.{Words.rows_of, Words.subcommand_name_of, Words.subcommand_of, Words.subcommand_rows_of, declared.parser.matches.ArgMatches.ArgMatches}
use Rattle.clap.proofs.{OnLiterals.clap_on_literals, WalkLemmas.first_value-rows}
use Rattle.mc_cli.specs.{Commands.program_app, Line.line_command, Line.line_faults, Line.line_value}

-- the name of a subcommand that was found, and the first value of an option or an argument of it
abbrev given_name : Option (Text × List Row) → Option Text
given_name entered = option_map (λ found. found.0) entered

abbrev given_value : Option (Text × List Row) → Text → Option Text
given_value entered name = option_and_then (λ found. first_of name found.1) entered

-- the faults of the command that the program makes
pub line_faults-is : (app : App) (words : List (List ℕ)) → app ≡ program_app
    → fault_of app words ≡ line_faults words
unfolding line_faults
line_faults-is app words is = ap (λ (a : App). fault_of a words) is

pub program_is_simple : (app : App) → app ≡ program_app → is_simple_and_free app ≡ true
unfolding clap_on_literals
program_is_simple app is = ap is_simple_and_free is

-- and what a parse by it finds for the subcommand
subcommand-is : (app : App) (words : List (List ℕ)) (m : ArgMatches) → app ≡ program_app → HasMatchesOf app words m
    → subcommand_rows_of m ≡ subcommand_of program_app words
unfolding clap_on_literals
subcommand-is app words m is found = (found (ap is_simple is)).1 ∙ ap (λ (a : App). subcommand_of a words) is

line_command-is : (app : App) (words : List (List ℕ)) (m : ArgMatches) → app ≡ program_app → HasMatchesOf app words m
    → given_name (subcommand_rows_of m) ≡ line_command words
unfolding line_command
line_command-is app words m is found = ap given_name (subcommand-is app words m is found)

line_value-is : (app : App) (words : List (List ℕ)) (m : ArgMatches) → app ≡ program_app → HasMatchesOf app words m
    → (name : Text) → given_value (subcommand_rows_of m) name ≡ line_value words name
unfolding line_value
line_value-is app words m is found name = ap (λ entered. given_value entered name) (subcommand-is app words m is found)

-- the name and a value among what was found for a subcommand
name_of : {X : Type 0} (rows : X → Text × List Row) (o : Option X) → given_name (option_map rows o) ≡ option_map (λ x. (rows x).0) o
name_of rows None = refl
name_of rows (Some x) = refl

name_of_rows : (m : ArgMatches) → given_name (subcommand_rows_of m) ≡ subcommand_name_of m
name_of_rows m = name_of _ _

value_of_rows : (entered : Option (Text × List Row)) (rows : List Row) (name : Text) → Some rows ≡ option_map (λ found. found.1) entered
    → given_value entered name ≡ first_of name rows
value_of_rows None rows name is = absurd (cc)
value_of_rows (Some found) rows name is = ap (λ o. option_and_then (first_of name) o) (sym is)

-- what the line names, by the subcommand that a parse answers
module _ (app : App) (words : List (List ℕ)) (m : ArgMatches) (is : app ≡ program_app) (found : HasMatchesOf app words m) where
  pub command_is : (name : Text) → Some name ≡ subcommand_name_of m → line_command words ≡ Some name
  command_is name named = sym (line_command-is app words m is found) ∙ (name_of_rows m ∙ sym named)

  pub value_is : (options : ArgMatches) → Some (rows_of (found_of options)) ≡ option_map (λ (p : Text × List Row). p.1) (subcommand_rows_of m)
      → (name : Text) → line_value words name ≡ first_value (found_of options) name
  value_is options rows name = sym (line_value-is app words m is found name)
      ∙ (value_of_rows (subcommand_rows_of m) _ name rows ∙ sym (first_value-rows (found_of options) name))
