use Rattle.std.proofs.{Common.ℕ, Common.List, Common.codes, Common.Bor, lemmas.Result.err_from_is_err_and}
use Rattle.mc_protocol.proofs.FirstItems.{words_split}
use Rattle.mc_history.proofs.StepLines.{no_fail}
use Rattle.mc_history.proofs.step_lines.read_event.Goals as goal

pub returns-then-is_word-clause-found : goal.returns-then-is_word-clause-found
returns-then-is_word-clause-found c =
    let is_reply = c.is_word.ensures.same.0 (cc (c.if-is_word.true)) in (
      _,
      words_split (λ (w : Bor (List ℕ)). w.now) c.args.words.now _ (codes "reply") c.in-len1-up.len_at_least is_reply,
      c.in_ok-read_reply.ensures.found,
    )

pub returns-in_err-read_fault-clause-none : goal.returns-in_err-read_fault-clause-none
returns-in_err-read_fault-clause-none c =
    let is_fail = c.is_word-2.ensures.same.0 (cc (c.if-is_word-2.true)) in
    let p = err_from_is_err_and c.from_residual-in_err-read_fault.result c.from_residual-in_err-read_fault.ensures.1 in
    rw (p.1, p.2) (λ real event spelled.
    no_fail _ _ (words_split (λ (w : Bor (List ℕ)). w.now) c.args.words.now _ (codes "fail") c.in-len1-up.len_at_least is_fail)
    c.in_err-read_fault.ensures.none event spelled)
