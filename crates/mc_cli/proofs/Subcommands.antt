-- What clap reads of a command with one subcommand more.
use Rattle.std.proofs.Common.{ap, ap₂, true, ◌≡◌, ◌∙◌}
use Rattle.clap.specs.{Words.AddsSubcommand, Words.App, Words.app_of, Words.with_subcommand, declared.builder.command.Command.Command}
use Rattle.clap.proofs.SimpleLemmas.{plain_fields}

pub added : {old sub new : Command} {whole part : App} → AddsSubcommand old sub new → app_of old ≡ whole → app_of sub ≡ part
    → part.top.is_plain ≡ true → app_of new ≡ with_subcommand whole part.top
added {sub = sub} adds of_old of_sub plain =
    let fields = plain_fields sub (ap (λ (a : App). a.top.is_plain) of_sub ∙ plain) in
    adds.shape fields.globals ∙ ap₂ with_subcommand of_old (ap (λ (a : App). a.top) of_sub)
