use Rattle.std.proofs.Common.{◌∙◌, inl, sym}
use Rattle.std.proofs.lemmas.Bool.{false≢true}
use Rattle.mc_command.proofs.serving.serve_all.Goals as goal

pub returns : goal.returns
returns g c = record {
  answered = λ before after. record {
    output = c.in-Ok.text.items;
    right = inl (inl (
      c.args.port,
      c.listen-listened.result,
      c.requires,
      c.listen-listened.ensures,
      c.in-Ok.ensures,
      c.status_of-status.ensures,
    ));
    written = rw c.as_slice.ensures.value at c.in-Ok-write_all.ensures.0;
  };
  broken = λ before after. absurd (false≢true (sym before ∙ (sym c.in-Ok-write_all.ensures.1 ∙ after)));
}
