use Rattle.std.proofs.Common.{ap, sym, append_assoc, ◌∙◌, ◌++◌}
use Rattle.mc_convert.proofs.excerpt.find_history.Goals as goal

pub returns-else-is_empty : goal.returns-else-is_empty
returns-else-is_empty c =
    let job = c.from_line_of_job-from_job.ensures in
    let header = c.from_line-from_header.ensures in
    let history = c.up_to_end.ensures in
    record {
      before = job.0 ++ header.0;
      after = history.0;
      is = job.1 ∙ (ap (λ text. job.0 ++ text) (header.1 ∙ ap (λ text. header.0 ++ text) history.1)
          ∙ sym (append_assoc job.0 header.0 _));
    }
