use Rattle.std.proofs.Common.{◌∙◌, ◌++◌, ap, inl, inr, refl}
use Rattle.std.specs.Prelude.{string_bytes}
use Rattle.mc_answers.specs.Writing.{out_of_memory_text}
use Rattle.mc_command.proofs.{ReportTexts.grows_more, RunTexts.found_then}
use Rattle.mc_command.proofs.repeated.write_and_go_on.Goals as goal

pub returns-in-Ok-totals : goal.returns-in-Ok-totals
returns-in-Ok-totals g c = record {
  answered = λ before after.
      let first = rw c.as_slice.ensures.value at c.in-Ok-write_all.ensures.0 in
      let all = c.write_text.ensures.written (c.in-Ok-write_all.ensures.1 ∙ before) after in
      let totals = c.in-Ok-totals.ensures in
      let line = string_bytes c.in-Ok-totals.line in
      record {
        output = c.in-Ok.text.items ++ line;
        right = inl (inl (
          c.args.first.number,
          c.args.first.played,
          totals.0,
          totals.1,
          ap (λ t. t ++ line) c.in-Ok.ensures
              ∙ found_then c.args.repeat c.args.first.number totals.0 c.args.first.played line c.requires.keeps_going totals.2,
          all.1 ∙ c.status_of-status.ensures,
        ));
        written = grows_more _ _ _ c.in-Ok.text.items line first (rw c.as_bytes.ensures.value at all.0);
      };
  broken = λ before after. c.write_text.ensures.broken (c.in-Ok-write_all.ensures.1 ∙ before) after;
}

pub returns : goal.returns
returns g c = record {
  answered = λ before after.
      let first = rw c.as_slice.ensures.value at c.in-Ok-write_all.ensures.0 in
      let none = c.write_fault-in-Err.ensures.memory refl (c.in-Ok-write_all.ensures.1 ∙ before) after in
      record {
        output = c.in-Ok.text.items ++ out_of_memory_text;
        right = inl (inr (
          c.args.first.number,
          c.args.first.played,
          c.requires.first.so_far.shown,
          c.requires.keeps_going,
          c.requires.failed,
          ap (λ t. t ++ out_of_memory_text) c.in-Ok.ensures,
          c.write_fault-in-Err.ensures.status,
        ));
        written = grows_more _ _ _ c.in-Ok.text.items out_of_memory_text first none;
      };
  broken = λ before after. c.write_fault-in-Err.ensures.status;
}
