use Rattle.mc_protocol.proofs.Digits.{IsUtf8-digits, parsed_digits}
use Rattle.mc_protocol.proofs.decimal.value_of_digits.Goals as goal

pub returns-in-Ok : goal.returns-in-Ok
returns-in-Ok c =
    let parses = rw c.in-Ok.ensures.cases.0 at c.parse.ensures.value.0 in
    rw c.ok.ensures.value (parsed_digits c.args.digits.now c.parse.result parses c.requires.digits c.requires.some)

pub returns-in-Err : goal.returns-in-Err
returns-in-Err c = absurd (c.in-Err.ensures.cases.0 (IsUtf8-digits c.args.digits.now c.requires.digits))
