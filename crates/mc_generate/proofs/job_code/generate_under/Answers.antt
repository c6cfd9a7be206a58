use Rattle.mc_generate.proofs.JobFaults.{named_fault}
use Rattle.mc_generate.proofs.job_code.generate_under.Goals as goal

pub returns-in-Some-clause-fault : goal.returns-in-Some-clause-fault
returns-in-Some-clause-fault c =
    rw c.in-Some.is (named_fault c.args.seed c.in-Some.name.now c.args.job c.in_ok-checked.checked.code c.put_checked_under.result c.in_ok-checked.ensures.code
    c.put_checked_under.ensures.refused c.put_checked_under.ensures.long)
