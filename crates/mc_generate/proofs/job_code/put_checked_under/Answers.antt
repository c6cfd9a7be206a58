use Rattle.mc_generate.proofs.JobFaults.{key_is_long}
use Rattle.mc_generate.proofs.job_code.put_checked_under.Goals as goal

pub returns-in-KeyTooLong-clause-long : goal.returns-in-KeyTooLong-clause-long
returns-in-KeyTooLong-clause-long c same short =
    key_is_long c.args.name.now c.code.result.now c.args.checked.now.code c.in-Err.fault c.in-KeyTooLong.field-0 c.in-Err.ensures.fault
    c.in-KeyTooLong.is c.code.ensures.code short
