use Rattle.std.proofs.Common.{◌∙◌, inl}
use Rattle.mc_command.proofs.repeated.write_last.Goals as goal

pub returns-in-Ok : goal.returns-in-Ok
returns-in-Ok g c why code comes = record {
  answered = λ before after. let all = c.write_text-status.ensures.written before after in record {
    output = c.in-Ok.text.items;
    right = inl (inl (c.args.runs.number, c.args.runs.played, c.args.runs.totals, comes, c.in-Ok.ensures, all.1 ∙ c.status_of.ensures));
    written = rw c.as_slice.ensures.value at all.0;
  };
  broken = c.write_text-status.ensures.broken;
}
