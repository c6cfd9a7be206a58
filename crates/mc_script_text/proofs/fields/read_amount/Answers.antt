use Rattle.std.proofs.Common.{◌≡◌}
use Rattle.std.specs.Result.{result_ok}
use Rattle.mc_script_text.specs.Reading.{amount_in}
use Rattle.mc_script_text.proofs.Lists.{first-taken}
use Rattle.mc_script_text.proofs.fields.read_amount.Goals as goal

pub returns-then-first-eq36 : goal.returns-then-first-eq36
returns-then-first-eq36 c =
    first-taken (λ w. result_ok c.read_variable.result ≡ amount_in c.args.names.now w) c.args.word.now 36 c.in-len1-up.len_at_least
    c.if-first-eq36.true c.read_variable.ensures
