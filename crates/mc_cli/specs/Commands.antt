-- The program's subcommands and their options, as clap reads them.
use Rattle.std.specs.Prelude.{List, [], ◌∷◌, Some, true, codes, fold}
use Rattle.clap.specs.Words.{App, Rule, Text, new_app, new_rule, with_rule, with_subcommand}
use Rattle.clap.specs.{Simple.new_shape, declared.builder.action.ArgAction.TheVariants.SetTrue}
use Rattle.mc_cli.specs.declared.rows.{Kind.Kind, Place.Place, Row.Row}
use Rattle.mc_cli.specs.declared.rows.Kind.TheVariants as kind
use Rattle.mc_cli.specs.declared.rows.Place.TheVariants as place

-- the option `--NAME` with a word as its value
abbrev pub valued : Text → Rule
valued name = record (new_rule name) { long = Some name; value_names = 1 }

-- the switch `--NAME`
abbrev pub switch : Text → Rule
switch name = record (new_rule name) { long = Some name; action = Some SetTrue }

-- the argument with this name, which has to be there
abbrev pub argument : Text → Rule
argument name = record (new_rule name) { value_names = 1; required = true }

abbrev pub rule_by : Place → Kind → Text → Rule
rule_by place.Required _ name = argument name
rule_by _ kind.Switch name = switch name
rule_by _ _ name = valued name

abbrev pub rule_of_row : Row → Rule
rule_of_row row = rule_by row.place row.kind row.name.now

-- the subcommand with these options
abbrev pub app_with : Text → List Rule → App
app_with name rules = fold with_rule (new_app name) rules

abbrev pub run_rules : List Rule
run_rules =
    argument (codes "target") ∷ valued (codes "limit") ∷ switch (codes "why") ∷ valued (codes "meet") ∷
    valued (codes "a") ∷ valued (codes "b") ∷ valued (codes "name") ∷ valued (codes "timeout") ∷
    valued (codes "wait") ∷ valued (codes "times") ∷ valued (codes "for") ∷ switch (codes "keep-going") ∷
    switch (codes "reconnect") ∷ switch (codes "quiet") ∷ valued (codes "spread") ∷ switch (codes "stats") ∷ switch (codes "json") ∷ []

abbrev pub test_rules : List Rule
test_rules =
    argument (codes "target") ∷ valued (codes "for") ∷ valued (codes "only") ∷ valued (codes "skip") ∷ valued (codes "name") ∷
    valued (codes "timeout") ∷ valued (codes "wait") ∷ valued (codes "a") ∷ valued (codes "b") ∷ valued (codes "seed") ∷
    valued (codes "out") ∷ switch (codes "json") ∷ switch (codes "quiet") ∷ []

abbrev pub record_rules : List Rule
record_rules =
    argument (codes "port") ∷ argument (codes "target") ∷ valued (codes "connections") ∷ valued (codes "for") ∷
    valued (codes "out") ∷ switch (codes "judge") ∷ []

abbrev pub stress_rules : List Rule
stress_rules =
    argument (codes "target") ∷ valued (codes "clients") ∷ valued (codes "requests") ∷ valued (codes "keys") ∷ valued (codes "mix") ∷
    valued (codes "rounds") ∷ valued (codes "for") ∷ switch (codes "why") ∷ valued (codes "name") ∷ valued (codes "timeout") ∷
    valued (codes "wait") ∷ valued (codes "seed") ∷ switch (codes "keep-going") ∷ switch (codes "whole") ∷ switch (codes "smallest") ∷
    valued (codes "limit") ∷ switch (codes "quiet") ∷ switch (codes "stats") ∷ switch (codes "json") ∷ []

abbrev pub campaign_rules : List Rule
campaign_rules =
    argument (codes "target") ∷ valued (codes "seed") ∷ switch (codes "random-seed") ∷ valued (codes "from") ∷
    valued (codes "jobs") ∷ valued (codes "workers") ∷ valued (codes "limit") ∷ valued (codes "meet") ∷ valued (codes "a") ∷
    valued (codes "b") ∷ valued (codes "name") ∷ valued (codes "timeout") ∷ valued (codes "wait") ∷ switch (codes "brief") ∷
    switch (codes "json") ∷ switch (codes "junit") ∷ switch (codes "show") ∷ switch (codes "why") ∷ valued (codes "tries") ∷
    switch (codes "reconnect") ∷ switch (codes "quiet") ∷ valued (codes "spread") ∷ switch (codes "stats") ∷ valued (codes "for") ∷
    valued (codes "stop-after") ∷ []

-- the program without its subcommands
abbrev pub bare_app : App
bare_app = record {
  top = record (new_shape (codes "mcrace")) { subcommand_required = true; arg_required_else_help = true; has_version = true };
  subs = [];
}

-- the program with these subcommands more, each with its options
abbrev pub and_with : App → List (Text × List Rule) → App
and_with app subcommands = fold (λ whole sub. with_subcommand whole (app_with sub.0 sub.1).top) app subcommands

-- with those that need a server, or are one, or make what one is asked
abbrev pub playing_app : App
playing_app = and_with bare_app ((codes "test", test_rules) ∷ (codes "run", run_rules) ∷ (codes "campaign", campaign_rules) ∷
    (codes "stress", stress_rules) ∷ (codes "record", record_rules) ∷
    (codes "serve", argument (codes "port") ∷ valued (codes "connections") ∷ switch (codes "racy") ∷ []) ∷ (codes "selftest", []) ∷
    (codes "generate", valued (codes "seed") ∷ valued (codes "job") ∷ []) ∷ [])

-- with all that ask for something
abbrev pub asking_app : App
asking_app = and_with playing_app ((
  codes "judge",
  valued (codes "limit") ∷ switch (codes "why") ∷ switch (codes "run") ∷
      valued (codes "job") ∷ valued (codes "key") ∷ switch (codes "json") ∷ [],
) ∷ (
  codes "draw",
  switch (codes "text") ∷ switch (codes "lines") ∷ valued (codes "job") ∷ valued (codes "key") ∷ valued (codes "limit") ∷ [],
) ∷
    (codes "convert", valued (codes "to") ∷ valued (codes "job") ∷ []) ∷ (codes "join", []) ∷
    (codes "check", switch (codes "why") ∷ switch (codes "json") ∷ []) ∷ (codes "asm", switch (codes "why") ∷ []) ∷
    (codes "drive", valued (codes "limit") ∷ switch (codes "why") ∷ []) ∷ [])

-- with the topics of help, which are subcommands that ask for nothing
abbrev pub program_app : App
program_app = and_with asking_app ((codes "formats", []) ∷ (codes "history", []) ∷ (codes "image", []) ∷ (codes "script", []) ∷
    (codes "steps", []) ∷ (codes "all", []) ∷ [])
