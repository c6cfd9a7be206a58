-- A byte that is pushed is the first of the rest.
use Rattle.std.proofs.lemmas.Result.{err_from_is_err_and}
use Rattle.mc_words.specs.Reading.{bytes_in}
use Rattle.mc_words.proofs.Escaped.{onto-byte, onto-fails, shorter-byte}
use Rattle.mc_words.proofs.body.unescape.Goals as goal

pub bytes-preserved : goal.bytes-preserved
bytes-preserved c =
    let e = rw c.in-Some.is at c.in_ok-byte.ensures.exact in
    rw c.in_ok-push.ensures.items (onto-byte c.bytes.bytes.items c.bytes.rest.now c.in-Some.after.now c.in-Some.byte (bytes_in c.args.text.now)
    c.bytes.invariant e)

pub bytes-smaller : goal.bytes-smaller
bytes-smaller c = shorter-byte c.bytes.rest.now c.in-Some.after.now c.in-Some.byte (rw c.in-Some.is at c.in_ok-byte.ensures.exact)

pub returns-in_err-byte : goal.returns-in_err-byte
returns-in_err-byte c =
    let p = err_from_is_err_and c.from_residual.result c.from_residual.ensures.1 in
    rw (p.1, p.2) (record {
      exact =
          onto-fails c.bytes.bytes.items c.bytes.rest.now (bytes_in c.args.text.now) c.in_err-byte.field-0.0.kind c.bytes.invariant
          c.in_err-byte.ensures.exact;
      form = rw c.in_err-byte.ensures.form (λ e. cc);
      word = c.in_err-byte.ensures.word;
    })
