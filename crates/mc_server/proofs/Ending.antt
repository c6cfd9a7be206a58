-- How the bytes of a client end, and what was written then.
use Rattle.std.proofs.Common.{◌≡◌, ◌≢◌, ℕ, ◌≤◌, Result, Ok, Err, inl, inr, List, [], ◌∷◌, ◌++◌}
use Rattle.std.proofs.Common.{append_assoc, append-nil, sym, ap, subst, refl, ◌∙◌, arith}
use Rattle.mc_lane.specs.Streams.{StreamState, no_counts, a_failed_write, Carries}
use Rattle.mc_reader.specs.{AskReading.Progress, Asks.Asking, Asks.Quit, Asks.Refused}
use Rattle.mc_server.specs.Conversing.{EndsTalk, last_line, Finishes, IsWrittenTo, AnswersPiece, PutsAnswers}
use Rattle.mc_server.specs.Serving.{IsAnswered, IsServedFirst}
use Rattle.mc_server.specs.{Answers.memory_line, Asked.Asks, Asked.count, Puts.IsPut, Puts.IsBroken, Puts.WritesAll, declared.served.Why.Why}
use Rattle.mc_server.specs.declared.served.Why.TheVariants as why
use Rattle.mc_server.proofs.Putting.{Carries-written}

-- ---- all answers that were held back are written

-- all of the text was written in two steps, and a line after it
written_whole : (text left line : List ℕ) (a b c : StreamState) (p : IsPut text [] left a b no_counts) → Carries b c [] (left ++ line) no_counts
    → Carries a c [] (text ++ line) no_counts
written_whole text left line a b c p h =
    subst (λ bytes. Carries a c [] bytes no_counts) (sym (append_assoc p.written left line) ∙ ap (λ bytes. bytes ++ line) (sym p.all))
    (Carries-written a b c p.written (left ++ line) no_counts p.carries h)

-- the front of it was written, and the next write failed
written_front : (text left line more : List ℕ) (w v : List ℕ) → text ≡ w ++ left → left ++ line ≡ v ++ more → (w ++ v) ++ more ≡ text ++ line
written_front text left line more w v h k =
    append_assoc w v more ∙ ap (λ bytes. w ++ bytes) (sym k) ∙ sym (append_assoc w left line) ∙ ap (λ bytes. bytes ++ line) (sym h)

-- a last line that isn't there
written_none : (text more w : List ℕ) → w ++ more ≡ text ++ [] → w ++ (more ++ memory_line) ≡ text ++ memory_line
written_none text more w h =
    sym (append_assoc w more memory_line) ∙ ap (λ bytes. bytes ++ memory_line) (h ∙ append-nil text)

-- ---- what was answered whole was answered first

first_of_all : (got rest text : List ℕ) (asked : List Asking) (n : ℕ) → IsAnswered got rest text asked n → IsServedFirst got text n
first_of_all got rest text asked n h = record {
  asked = asked;
  others = [];
  rest = rest;
  first = text;
  front = [];
  asks = subst (λ all. Asks got all rest) (sym (append-nil asked)) h.asks;
  answered = h.answered;
  begun = refl;
  joined = sym (append-nil text);
  counted = subst (λ all. n ≤ count all) (sym (append-nil asked)) (omega (arith, h.counted));
}

-- ---- how an end is written

broken_longer : (line held : List ℕ) (a b : StreamState) → IsBroken [] held a b → IsBroken line held a b
broken_longer line held a b h = (
  h.0 ++ line,
  record {
    written = h.1.written;
    carries = h.1.carries;
    all = ap (λ xs. xs ++ line) (sym (append-nil held) ∙ h.1.all) ∙ append_assoc h.1.written h.0 line;
  },
)

write_failed : (bytes : List ℕ) (a b : StreamState) (w : Why) → WritesAll bytes a b (Err w) → (w ≡ why.WriteFailed) × IsBroken [] bytes a b
write_failed bytes a b why.WriteFailed h = (refl, h)
write_failed bytes a b why.Ended h = absurd h
write_failed bytes a b why.Quit h = absurd h
write_failed bytes a b why.ReadFailed h = absurd h
write_failed bytes a b why.Refused h = absurd h
write_failed bytes a b why.Memory h = absurd h
write_failed bytes a b why.TooMuch h = absurd h

-- what was held back wasn't written
pub finish_early : (held : List ℕ) (a b : StreamState) (w failed : Why) → w ≢ why.WriteFailed → WritesAll held a b (Err failed)
    → Finishes w held a b failed
finish_early held a b w failed other h =
    let t = write_failed held a b failed h in inr (inr (other, t.0, broken_longer (last_line w) held a b t.1))

-- the last line wasn't written
pub finish_late : (held line : List ℕ) (a b c : StreamState) (w failed : Why) → w ≢ why.WriteFailed → line ≡ last_line w
    → Carries a b [] held no_counts → WritesAll line b c (Err failed) → Finishes w held a c failed
finish_late held line a b c w failed other is carries h =
    let t = write_failed line b c failed h in
    let broken : IsBroken line held a c = (
      t.1.0,
      record {
        written = held ++ t.1.1.written;
        carries = Carries-written a b c held t.1.1.written a_failed_write carries t.1.1.carries;
        all = ap (λ xs. held ++ xs) (sym (append-nil line) ∙ t.1.1.all) ∙ sym (append_assoc held t.1.1.written t.1.0);
      },
    ) in
    inr (inr (other, t.0, subst (λ l. IsBroken l held a c) is broken))

-- ---- the end of a piece

-- a write failed after these answers
broken_to : (got text left line : List ℕ) (a b c : StreamState) (n : ℕ) → IsServedFirst got text n → IsPut text [] left a b no_counts
    → IsBroken line left b c → ((more w : List ℕ) → w ++ more ≡ text ++ line → (unsent : List ℕ) × (w ++ unsent ≡ text ++ memory_line))
    → IsWrittenTo got a c n why.WriteFailed
broken_to got text left line a b c n first p q unsent =
    let front = written_front text left line q.0 p.written q.1.written p.all q.1.all in
    let more = unsent q.0 (p.written ++ q.1.written) front in
    record {
      put = p.written ++ q.1.written;
      comes = tt;
      served = (text, more.0, first, more.1);
      carries = Carries-written a b c p.written q.1.written a_failed_write p.carries q.1.carries;
    }

without_line : (text : List ℕ) (more w : List ℕ) → w ++ more ≡ text ++ [] → (unsent : List ℕ) × (w ++ unsent ≡ text ++ memory_line)
without_line text more w h = (more ++ memory_line, written_none text more w h)

with_line : (text : List ℕ) (more w : List ℕ) → w ++ more ≡ text ++ memory_line → (unsent : List ℕ) × (w ++ unsent ≡ text ++ memory_line)
with_line text more w h = (more, h)

no_line : (text left : List ℕ) (a b c : StreamState) (p : IsPut text [] left a b no_counts) → Carries b c [] (left ++ []) no_counts
    → Carries a c [] text no_counts
no_line text left a b c p h = subst (λ bytes. Carries a c [] bytes no_counts) (append-nil text) (written_whole text left [] a b c p h)

-- no write failed before
ended_well : (got left : List ℕ) (a b c : StreamState) (n : ℕ) (w : Why) → w ≢ why.WriteFailed → EndsTalk got [] left a b n w
    → Carries b c [] (left ++ last_line w) no_counts → IsWrittenTo got a c n w
ended_well got left a b c n why.Quit other h k = record { put = h.0; comes = tt; served = h.1; carries = no_line h.0 left a b c h.2 k }
ended_well got left a b c n why.Refused other h k = record { put = h.0; comes = tt; served = h.1; carries = no_line h.0 left a b c h.2 k }
ended_well got left a b c n why.Memory other h k = record {
  put = h.0 ++ memory_line;
  comes = tt;
  served = (h.0, h.1, refl);
  carries = written_whole h.0 left memory_line a b c h.2 k;
}
ended_well got left a b c n why.WriteFailed other h k = absurd (other refl)
ended_well got left a b c n why.Ended other h k = absurd h
ended_well got left a b c n why.ReadFailed other h k = absurd h
ended_well got left a b c n why.TooMuch other h k = absurd h

ended_broken : (got left : List ℕ) (a b c : StreamState) (n : ℕ) (w : Why) → w ≢ why.WriteFailed → EndsTalk got [] left a b n w
    → IsBroken (last_line w) left b c → IsWrittenTo got a c n why.WriteFailed
ended_broken got left a b c n why.Quit other h k =
    broken_to got h.0 left [] a b c n (first_of_all got h.1.rest h.0 (h.1.before ++ Quit ∷ []) n h.1.all) h.2 k (without_line h.0)
ended_broken got left a b c n why.Refused other h k =
    broken_to got h.0 left [] a b c n
    (first_of_all got h.1.2.rest h.0 (h.1.2.before ++ Refused h.1.0 ∷ []) n h.1.2.all) h.2 k (without_line h.0)
ended_broken got left a b c n why.Memory other h k = broken_to got h.0 left memory_line a b c n h.1 h.2 k (with_line h.0)
ended_broken got left a b c n why.WriteFailed other h k = absurd (other refl)
ended_broken got left a b c n why.Ended other h k = absurd h
ended_broken got left a b c n why.ReadFailed other h k = absurd h
ended_broken got left a b c n why.TooMuch other h k = absurd h

-- a write failed before
ended_before : (got left : List ℕ) (a b : StreamState) (n : ℕ) → EndsTalk got [] left a b n why.WriteFailed
    → IsWrittenTo got a b n why.WriteFailed
ended_before got left a b n h = record {
  put = h.2.1.written;
  comes = tt;
  served = (
    h.0,
    h.2.0 ++ memory_line,
    h.1,
    written_none h.0 h.2.0 h.2.1.written (sym h.2.1.all ∙ sym (append-nil h.0)),
  );
  carries = h.2.1.carries;
}

pub ended : (got left : List ℕ) (a b c : StreamState) (n : ℕ) (w result : Why) → EndsTalk got [] left a b n w → Finishes w left b c result
    → IsWrittenTo got a c n result
ended got left a b c n w result h (inl (is, to, same)) =
    subst (λ x. IsWrittenTo got a c n x) (sym to) (subst (λ s. IsWrittenTo got a s n why.WriteFailed) (sym same)
    (ended_before got left a b n (subst (λ x. EndsTalk got [] left a b n x) is h)))
ended got left a b c n w result h (inr (inl (other, to, carries))) =
    subst (λ x. IsWrittenTo got a c n x) (sym to) (ended_well got left a b c n w other h carries)
ended got left a b c n w result h (inr (inr (other, to, broken))) =
    subst (λ x. IsWrittenTo got a c n x) (sym to) (ended_broken got left a b c n w other h broken)

-- ---- a piece that goes on

pub went_on : (old new : Progress) (piece left : List ℕ) (a b c : StreamState) (n m : ℕ) (result : Result (Unit {0}) Why)
    → PutsAnswers old new piece [] left a b n m (Ok tt) → WritesAll left b c result → AnswersPiece old new piece a c n m result
went_on old new piece left a b c n m (Ok done) h k = λ text read.
    let t = h text read in (
      t.0,
      t.1,
      t.2,
      record {
        asked = t.3.asked;
        put = t.3.text;
        all = t.3.all;
        on = t.3.on;
        last = t.5;
        carries = no_line t.3.text left a b c t.3.put (subst (λ bytes. Carries b c [] bytes no_counts) (sym (append-nil left)) k);
      },
      t.4,
    )
went_on old new piece left a b c n m (Err why.WriteFailed) h k = λ text read.
    let t = h text read in (
      t.1,
      t.2,
      broken_to (text ++ piece) t.3.text left [] a b c t.1 (first_of_all (text ++ piece) t.0 t.3.text t.3.asked t.1 t.3.all) t.3.put k
          (without_line t.3.text),
    )
went_on old new piece left a b c n m (Err why.Ended) h k = absurd k
went_on old new piece left a b c n m (Err why.Quit) h k = absurd k
went_on old new piece left a b c n m (Err why.ReadFailed) h k = absurd k
went_on old new piece left a b c n m (Err why.Refused) h k = absurd k
went_on old new piece left a b c n m (Err why.Memory) h k = absurd k
went_on old new piece left a b c n m (Err why.TooMuch) h k = absurd k
