-- What is served of a connection, piece after piece.
use Rattle.std.proofs.Common.{◌≡◌, ℕ, ◌+◌, ◌<◌, ◌≤◌, Ok, Err, List, [], ◌∷◌, ◌++◌, length, take}
use Rattle.std.proofs.{Common.append-nil, Common.length-append, Common.sym, Common.ap, Common.subst, Common.refl, Common.arith, lemmas.Grind.common_steps}
use Rattle.mc_lane.specs.{Streams.StreamState, Streams.no_counts, Streams.counts_of_read, Streams.Carries, declared.stream.Counts.Counts}
use Rattle.mc_lane.proofs.Carried.{Grows-twice}
use Rattle.mc_reader.specs.AskEnds.{AskEnds, too_long, one_line, with_block, with_skipped, IsAskUnfinished}
use Rattle.mc_reader.specs.{AskReading.Progress, AskReading.InLine, AskReading.HasRead, Asks.Asking, Lines.LF}
use Rattle.mc_server.specs.Conversing.{AnswersPiece, Finishes, IsServedSoFar}
use Rattle.mc_server.specs.{Serving.IsAnswered, Serving.ServesStream, Serving.counts_of, declared.served.Why.Why}
use Rattle.mc_server.specs.declared.served.Why.TheVariants as why
use Rattle.mc_server.proofs.Answered.{answered_none, answered_longer, answered_on, serves_on}
use Rattle.mc_server.proofs.{Asking.goes_on_twice, Ending.ended, Putting.Carries-none, Talking.new_line, Talking.talk_unread}

-- ---- what is carried

-- what is read and written in two steps, of which the last may be counted
Carries-on : (a b c : StreamState) (read read' written written' : List ℕ) (counts : Counts) → Carries a b read written no_counts
    → Carries b c read' written' counts → Carries a c (read ++ read') (written ++ written') counts
Carries-on a b c read read' written written' counts h k = record {
  reads = Grows-twice a.read b.read c.read read read' h.reads k.reads;
  writes = Grows-twice a.written b.written c.written written written' h.writes k.writes;
  failed_reads = omega (arith, h.failed_reads, k.failed_reads);
  failed_writes = omega (arith, h.failed_writes, k.failed_writes);
  ends = omega (arith, h.ends, k.ends);
}

-- a piece was read, and then its answers were written
Carries-piece : (a b c d : StreamState) (read piece written put : List ℕ) (counts : Counts) → Carries a b read written no_counts
    → Carries b c piece [] no_counts → Carries c d [] put counts → Carries a d (read ++ piece) (written ++ put) counts
Carries-piece a b c d read piece written put counts h k l =
    Carries-on a b d read piece written put counts h
    (subst (λ r. Carries b d r put counts) (append-nil piece) (Carries-on b c d piece [] [] put counts k l))

-- a read that brought some bytes counts nothing
counted_none : (room brought : ℕ) → 0 < brought → counts_of_read room brought ≡ no_counts
counted_none room brought h = grind (arith, common_steps)

-- ---- where nothing was read of a request

never_empty : (text : List ℕ) (asked : Asking) → text ≡ [] → AskEnds text asked → ⊥
never_empty text asked none (too_long long is) = absurd (omega (arith, long.full, ap length none))
never_empty text asked none (one_line line whole says is) = absurd (omega (arith, ap length none, ap length is, length-append line (LF ∷ [])))
never_empty text asked none (with_block line chunk store whole says ends is) =
    absurd (omega (arith, ap length none, ap length is, length-append line (LF ∷ chunk)))
never_empty text asked none (with_skipped line skipped refuse whole says at is) =
    absurd (omega (arith, ap length none, ap length is, length-append line (LF ∷ skipped)))

front_empty : (front back : List ℕ) → front ++ back ≡ [] → front ≡ []
front_empty [] back h = refl
front_empty (x ∷ front) back h = absurd (cc)

unfinished_none : IsAskUnfinished []
unfinished_none front back asked is ends = never_empty front asked (front_empty front back is) ends

-- nothing was read of a connection
pub served_none : (a : StreamState) (reader : Progress) → reader ≡ InLine [] → IsServedSoFar a a reader 0 0
served_none a reader is = record {
  got = [];
  put = [];
  asked = [];
  rest = [];
  len = refl;
  all = answered_none [];
  on = refl;
  last = unfinished_none;
  read = subst (λ p. HasRead p []) (sym is) new_line;
  carries = Carries-none a;
}

-- ---- the ends

-- there was no memory for a piece
pub stops_without_memory : (a b : StreamState) (n : ℕ) (w : Why) → n ≡ 0 → Finishes why.Memory [] a b w
    → ServesStream a b (record { requests = n; why = w })
stops_without_memory a b n w none h =
    let end = ended [] [] a a b 0 why.Memory w (talk_unread [] [] a) h in
    subst (λ (k : ℕ). ServesStream a b (record { requests = k; why = w })) (sym none)
    (record { got = []; put = end.put; carries = end.carries; served = end.served })

-- ---- a piece

-- what a read put at the front of the room
pub front_of : (n len : ℕ) (buffer rest xs : List ℕ) → xs ≡ take len (buffer ++ rest) → n ≤ length buffer → n ≤ len
    → take n xs ≡ take n buffer
front_of n len buffer rest xs is h k = grind (arith, common_steps)

pub piece_read : (b c : StreamState) (piece : List ℕ) (room brought : ℕ) → 0 < brought → Carries b c piece [] (counts_of_read room brought)
    → Carries b c piece [] no_counts
piece_read b c piece room brought some h = subst (λ counts. Carries b c piece [] counts) (counted_none room brought some) h

-- after it more is read
pub served_more : (a b c d : StreamState) (reader new : Progress) (piece : List ℕ) (received total n m : ℕ) → total ≡ received + length piece
    → IsServedSoFar a b reader received n → Carries b c piece [] no_counts → AnswersPiece reader new piece c d n m (Ok tt)
    → IsServedSoFar a d new total m
served_more a b c d reader new piece received total n m sum h k answers =
    let t = answers h.rest h.read in
    record {
      got = h.got ++ piece;
      put = h.put ++ t.3.put;
      asked = h.asked ++ t.3.asked;
      rest = t.0;
      len = omega (arith, length-append h.got piece, h.len, sum);
      all = subst (λ (x : ℕ). IsAnswered (h.got ++ piece) t.0 (h.put ++ t.3.put) (h.asked ++ t.3.asked) x) (sym t.2)
          (answered_on (h.got ++ piece) (h.rest ++ piece) h.put t.0 t.3.put h.asked t.3.asked n t.1 h.on
          (answered_longer h.got h.rest h.put h.asked n piece h.on h.all) t.3.all);
      on = goes_on_twice h.asked t.3.asked h.on t.3.on;
      last = t.3.last;
      read = t.4;
      carries = Carries-piece a b c d h.got piece h.put t.3.put no_counts h.carries k t.3.carries;
    }

-- it was the last
pub stops_in_piece : (a b c d : StreamState) (reader new : Progress) (piece : List ℕ) (received n m : ℕ) (w : Why)
    → IsServedSoFar a b reader received n → Carries b c piece [] no_counts → AnswersPiece reader new piece c d n m (Err w)
    → ServesStream a d (record { requests = m; why = w })
stops_in_piece a b c d reader new piece received n m w h k answers =
    let t = answers h.rest h.read in
    subst (λ (x : ℕ). ServesStream a d (record { requests = x; why = w })) (sym t.1)
    (record {
      got = h.got ++ piece;
      put = h.put ++ t.2.put;
      carries = Carries-piece a b c d h.got piece h.put t.2.put (counts_of w) h.carries k t.2.carries;
      served = serves_on (h.got ++ piece) (h.rest ++ piece) h.put t.2.put h.asked n t.0 w t.2.comes h.on
          (answered_longer h.got h.rest h.put h.asked n piece h.on h.all) t.2.served;
    })
