use Rattle.std.proofs.{Common.length, Common.drop, lemmas.Bool.Decides.Decides-eqb, lemmas.Slice.Eq.starts_is}
use Rattle.mc_recorded.proofs.recorded.is_prefix.Goals as goal

pub returns : goal.returns
returns c =
    let bytes = c.args.bytes.now in
    let text = c.args.text.now in
    let starts = starts_is Decides-eqb text bytes c.starts_with.result c.starts_with.ensures.value in
    (λ e. (drop (length bytes) text, starts.0 e), λ prefix. starts.1 prefix.0 prefix.1)
