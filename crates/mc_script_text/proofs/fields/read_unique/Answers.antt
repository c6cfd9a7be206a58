use Rattle.std.proofs.Common.{◌≡◌}
use Rattle.std.specs.Result.{result_ok}
use Rattle.mc_script_text.specs.Reading.{unique_in}
use Rattle.mc_script_text.proofs.Lists.{first-taken}
use Rattle.mc_script_text.proofs.fields.read_unique.Goals as goal

pub returns : goal.returns
returns c =
    first-taken (λ w. result_ok c.read_variable.result ≡ unique_in c.args.names.now w) c.args.word.now 36 c.in-len1-up.len_at_least
    c.if-first-ne36.false c.read_variable.ensures
