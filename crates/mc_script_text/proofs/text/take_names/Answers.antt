use Rattle.std.proofs.Common.{codes, refl, arith}
use Rattle.mc_script.specs.declared.limits.TheConstants.{FLAGS_LIMIT, NAME_BYTES_LIMIT, VARIABLES_LIMIT}
use Rattle.mc_script.specs.Versions.{flags_limit}
use Rattle.mc_script_text.proofs.Declared.{keys-declared, optional-declared, declared-few, declared-within, none-declared, flags-within}
use Rattle.mc_script_text.proofs.text.take_names.Goals as goal

pub new-names-requires : goal.new-names-requires
new-names-requires c =
    let limit = flags_limit c.args.version in
    let flags = c.in_ok-flags.flags.items in
    let keys = keys-declared c.args.lines.now.words c.in_ok-keys.keys.items c.take_keys.new.lines.words c.in_ok-keys.ensures in
    let read = optional-declared (codes "flags") limit c.in_ok-line.line.words c.next_due.new.lines.words flags c.in_ok-flags.line.words
    c.read_optional.new.lines.words (none-declared c.args.version) (rw c.flags_limit-limit.ensures.exact at c.in_ok-flags.ensures) in
    let few = declared-few limit NAME_BYTES_LIMIT flags read in
    let within = flags-within c.args.version in
    record {
      some = keys.0;
      keys = keys.1;
      flags = declared-within FLAGS_LIMIT limit NAME_BYTES_LIMIT flags (omega (arith, few, within)) read;
      vars = optional-declared (codes "vars") VARIABLES_LIMIT c.in_ok-flags.line.words c.read_optional.new.lines.words c.in_ok-vars.vars.items
          c.in_ok-vars.line.words
          c.read_optional-2.new.lines.words refl c.in_ok-vars.ensures;
    }
