-- What is received for a reply, piece by piece.
use Rattle.std.specs.Prelude.{◌≡◌, ℕ, ◌+◌, ◌-◌, ◌<◌, ◌≤◌, true, Option, Some, None, Result, Ok, Err}
use Rattle.std.specs.Prelude.{List, [], ◌++◌, length, take, drop, slice_range}
use Rattle.std.proofs.Common.{arith, rules, refl, sym, ap, subst, ◌∙◌, append-nil}
use Rattle.std.proofs.lemmas.List.{drop-drop, drop-append-le, drop_at, take-append-drop, take_at, length-drop}
use Rattle.std.proofs.{Math.Seq.take-add, lemmas.Grind.common_steps}
use Rattle.mc_protocol.specs.{Legal.is_fit_for, Lines.Word, declared.fault.Fault.Fault, declared.reply.Reply.Reply, declared.request.Verb.Verb}
use Rattle.mc_protocol.specs.declared.fault.Fault.TheVariants as fault
use Rattle.mc_reader.specs.{Reading.IsAnswer, Reading.IsAnswerAfter, Replies.Spells, Replies.IsUnfinished, declared.fault.ReadFault.ReadFault}
use Rattle.mc_reader.specs.{declared.reader.Fed.Fed, declared.reader.Fed.TheVariants.More, declared.reader.Fed.TheVariants.Done}
use Rattle.mc_reader.specs.declared.fault.ReadFault.TheVariants as read_fault
use Rattle.mc_lane.specs.{Receiving.Brings, Receiving.Adds, Receiving.Stops, Receiving.fault_for, Sending.counts_of, Sending.EndsLast, Streams.StreamState}
use Rattle.mc_lane.specs.{Streams.no_counts, Streams.an_end, Streams.finds_end, Streams.counts_of_read, Streams.Carries, declared.stream.Counts.Counts}
use Rattle.mc_lane.proofs.Carried.{Grows-twice, appended_twice, range_from}

-- ---- parts of what was received

-- what comes after a part
after_part : (xs : List ℕ) (start end : ℕ) → start ≤ end → drop end xs ≡ drop (end - start) (drop start xs)
after_part xs start end h =
    let sum : end ≡ start + (end - start) = omega arith in
    ap (λ (n : ℕ). drop n xs) sum ∙ sym (drop-drop (end - start) start xs)

-- a part and all that follows it
pub part_and_rest : (xs : List ℕ) (start end : ℕ) → start ≤ end → end ≤ length xs
    → slice_range xs start end ++ take (length xs - end) (drop end xs) ≡ drop start xs
part_and_rest xs start end h k =
    ap (λ ys. slice_range xs start end ++ ys) (range_from end xs k ∙ after_part xs start end h)
    ∙ take-append-drop (end - start) (drop start xs)

-- a part and the next bytes
pub part_and_next : (xs : List ℕ) (start end count : ℕ) → start ≤ end → end ≤ length xs
    → slice_range xs start end ++ take count (take (length xs - end) (drop end xs)) ≡ slice_range xs start (end + count)
part_and_next xs start end count h k =
    let sum : end + count - start ≡ (end - start) + count = omega arith in
    ap (λ ys. slice_range xs start end ++ take count ys) (range_from end xs k ∙ after_part xs start end h)
    ∙ sym (take-add (end - start) count (drop start xs)) ∙ ap (λ (n : ℕ). take n (drop start xs)) (sym sum)

-- what was there stays where more is added
pub part_of_longer : (xs new more : List ℕ) (start : ℕ) → start ≤ length xs → new ≡ xs ++ more
    → slice_range new start (length xs) ≡ drop start xs
part_of_longer xs new more start h is =
    ap (λ ys. slice_range ys start (length xs)) is
    ∙ ap (take (length xs - start)) (drop-append-le start xs more h)
    ∙ ap (λ (n : ℕ). take n (drop start xs ++ more)) (sym (length-drop start xs))
    ∙ take_at (drop start xs) more (length (drop start xs)) refl

-- ---- what a call received

-- what was received since the call began, with what one more read brought
pub received_more : (first old new brought : List ℕ) → old ≡ first ++ drop (length first) old → new ≡ old ++ brought
    → drop (length first) new ≡ drop (length first) old ++ brought
received_more first old new brought h k =
    ap (drop (length first)) (appended_twice first old new (drop (length first) old) brought h k)
    ∙ drop_at first (drop (length first) old ++ brought) (length first) refl

-- and all of it
pub grown_more : (first old new brought : List ℕ) → old ≡ first ++ drop (length first) old → new ≡ old ++ brought
    → new ≡ first ++ drop (length first) new
grown_more first old new brought h k =
    appended_twice first old new (drop (length first) old) brought h k
    ∙ ap (λ ys. first ++ ys) (sym (received_more first old new brought h k))

-- what was read comes after what was read before
pub Carries-after : (a b c : StreamState) (read more : List ℕ) (counts : Counts)
    → Carries a b read [] no_counts → Carries b c more [] counts → Carries a c (read ++ more) [] counts
Carries-after a b c read more counts h k = record {
  reads = Grows-twice a.read b.read c.read read more h.reads k.reads;
  writes = Grows-twice a.written b.written c.written [] [] h.writes k.writes;
  failed_reads = omega (arith, h.failed_reads, k.failed_reads);
  failed_writes = omega (arith, h.failed_writes, k.failed_writes);
  ends = omega (arith, h.ends, k.ends);
}

-- ---- what the reader answers, where it was fed this text before

-- its answer, by what it was fed
answer_at : (verb v : Verb) (key k : Word) (fed new : Option (List ℕ)) (text piece p : List ℕ) (result : Result Fed ReadFault)
    → v ≡ verb → k ≡ key → fed ≡ Some text → p ≡ piece → IsAnswerAfter v k fed p result new → IsAnswer verb key text piece result new
answer_at verb v key k fed new text piece p result v_is k_is fed_is p_is answer =
    subst (λ x. IsAnswerAfter verb key x piece result new) fed_is
    (subst (λ x. IsAnswerAfter verb key fed x result new) p_is
    (subst (λ x. IsAnswerAfter verb x fed p result new) k_is (subst (λ x. IsAnswerAfter x k fed p result new) v_is answer)))

-- it needs more, and was fed all this
pub needs_more : (verb v : Verb) (key k : Word) (fed new : Option (List ℕ)) (text piece p : List ℕ) (f : Fed) → v ≡ verb → k ≡ key
    → fed ≡ Some text → p ≡ piece → f ≡ More → IsAnswerAfter v k fed p (Ok f) new
    → (new ≡ Some (text ++ piece)) × IsUnfinished verb key (text ++ piece)
needs_more verb v key k fed new text piece p f v_is k_is fed_is p_is f_is answer =
    subst (λ x. IsAnswer verb key text piece (Ok x) new) f_is
    (answer_at verb v key k fed new text piece p (Ok f) v_is k_is fed_is p_is answer)

-- it answers a reply
pub replies : (verb v : Verb) (key k : Word) (fed new : Option (List ℕ)) (text piece p : List ℕ) (f : Fed) (reply : Reply) (used : ℕ)
    → v ≡ verb → k ≡ key → fed ≡ Some text → p ≡ piece → f ≡ Done reply used → IsAnswerAfter v k fed p (Ok f) new
    → (new ≡ None) × (used ≤ length piece) × Spells verb key (text ++ take used piece) reply × (is_fit_for verb reply ≡ true)
replies verb v key k fed new text piece p f reply used v_is k_is fed_is p_is f_is answer =
    subst (λ x. IsAnswer verb key text piece (Ok x) new) f_is
    (answer_at verb v key k fed new text piece p (Ok f) v_is k_is fed_is p_is answer)

-- the fault that was answered closes the lane
fails_as : (verb : Verb) (key : Word) (new : Option (List ℕ)) (text piece got : List ℕ) (taken limit : ℕ) (f : ReadFault)
    → text ++ piece ≡ drop taken got → IsAnswer verb key text piece (Err f) new → Stops verb key got taken limit (fault_for f)
fails_as verb key new text piece got taken limit read_fault.LineTooLong all answer = (read_fault.LineTooLong, tt, rw all at answer.1)
fails_as verb key new text piece got taken limit read_fault.NotAReply all answer = (read_fault.NotAReply, tt, rw all at answer.1)
fails_as verb key new text piece got taken limit read_fault.WrongKey all answer = (read_fault.WrongKey, tt, rw all at answer.1)
fails_as verb key new text piece got taken limit read_fault.NumberTooLarge all answer = (read_fault.NumberTooLarge, tt, rw all at answer.1)
fails_as verb key new text piece got taken limit read_fault.DataTooLong all answer = (read_fault.DataTooLong, tt, rw all at answer.1)
fails_as verb key new text piece got taken limit read_fault.DataNotEnded all answer = (read_fault.DataNotEnded, tt, rw all at answer.1)
fails_as verb key new text piece got taken limit (read_fault.ErrorLine kind) all answer = (kind, rw all at answer.1)
fails_as verb key new text piece got taken limit read_fault.OutOfMemory all answer = tt
fails_as verb key new text piece got taken limit read_fault.Failed all answer = absurd answer

-- it answers a fault
pub fails : (verb v : Verb) (key k : Word) (fed new : Option (List ℕ)) (text piece p got : List ℕ) (taken limit : ℕ) (f : ReadFault)
    → v ≡ verb → k ≡ key → fed ≡ Some text → p ≡ piece → text ++ piece ≡ drop taken got → IsAnswerAfter v k fed p (Err f) new
    → Stops verb key got taken limit (fault_for f)
fails verb v key k fed new text piece p got taken limit f v_is k_is fed_is p_is all answer =
    fails_as verb key new text piece got taken limit f all
    (answer_at verb v key k fed new text piece p (Err f) v_is k_is fed_is p_is answer)

-- the stream counts nothing then
pub fault_for-no_counts : (T : Type 0) (f : ReadFault) → counts_of {T = T} (Err (fault_for f)) ≡ no_counts
fault_for-no_counts T read_fault.LineTooLong = refl
fault_for-no_counts T read_fault.NotAReply = refl
fault_for-no_counts T read_fault.WrongKey = refl
fault_for-no_counts T read_fault.NumberTooLarge = refl
fault_for-no_counts T read_fault.DataTooLong = refl
fault_for-no_counts T read_fault.DataNotEnded = refl
fault_for-no_counts T (read_fault.ErrorLine kind) = refl
fault_for-no_counts T read_fault.OutOfMemory = refl
fault_for-no_counts T read_fault.Failed = refl

-- and its last read found no end
pub fault_for-last : (T : Type 0) (f : ReadFault) (after : StreamState) → EndsLast {T = T} (Err (fault_for f)) after
fault_for-last T read_fault.LineTooLong after = tt
fault_for-last T read_fault.NotAReply after = tt
fault_for-last T read_fault.WrongKey after = tt
fault_for-last T read_fault.NumberTooLarge after = tt
fault_for-last T read_fault.DataTooLong after = tt
fault_for-last T read_fault.DataNotEnded after = tt
fault_for-last T (read_fault.ErrorLine kind) after = tt
fault_for-last T read_fault.OutOfMemory after = tt
fault_for-last T read_fault.Failed after = tt

-- ---- where a read brings nothing

-- all stays as it was
same : (old brought new : List ℕ) → new ≡ old ++ brought → brought ≡ [] → new ≡ old
same old brought new is none = is ∙ ap (λ ys. old ++ ys) none ∙ (search rules)

-- the reply isn't whole then
pub Stops-from_Brings : (verb : Verb) (key : Word) (old brought new : List ℕ) (taken limit : ℕ) (f : Fault)
    → IsUnfinished verb key (drop taken old) → new ≡ old ++ brought → Brings limit old brought (Err f) → Stops verb key new taken limit f
Stops-from_Brings verb key old brought new taken limit fault.ReadFailed unfinished is none = rw (same old brought new is none) unfinished
Stops-from_Brings verb key old brought new taken limit fault.Ended unfinished is none = rw (same old brought new is none) unfinished
Stops-from_Brings verb key old brought new taken limit fault.TooMuch unfinished is none =
    rw (same old brought new is none.0) (unfinished, none.1)
Stops-from_Brings verb key old brought new taken limit fault.Memory unfinished is none = tt
Stops-from_Brings verb key old brought new taken limit fault.WriteFailed unfinished is none = absurd none
Stops-from_Brings verb key old brought new taken limit fault.BadReply unfinished is none = absurd none
Stops-from_Brings verb key old brought new taken limit fault.ErrorLine unfinished is none = absurd none
Stops-from_Brings verb key old brought new taken limit fault.Closed unfinished is none = absurd none

-- ---- one read

counted_end : (room brought : ℕ) → 0 < room → brought ≡ 0 → counts_of_read room brought ≡ an_end
counted_end room brought h e = grind (arith, common_steps)

found_end : (room brought : ℕ) → 0 < room → brought ≡ 0 → finds_end room brought ≡ true
found_end room brought h e = grind (arith, common_steps)

counted_none : (room brought : ℕ) → 0 < brought → counts_of_read room brought ≡ no_counts
counted_none room brought h = grind (arith, common_steps)

-- it found the end
pub Adds-end : (limit : ℕ) (old new buffer : List ℕ) (before after : StreamState) (n : ℕ) → n ≡ 0 → 0 < length buffer → new ≡ old
    → length old ≤ limit → Carries before after (take n buffer) [] (counts_of_read (length buffer) n)
    → after.at_end ≡ finds_end (length buffer) n → Adds limit old new before after (Err fault.Ended)
Adds-end limit old new buffer before after n none room same within carries last = record {
  brought = [];
  recorded = same ∙ sym (append-nil old);
  within = rw same within;
  carries = subst (λ c. Carries before after [] [] c) (counted_end (length buffer) n room none)
      (subst (λ (k : ℕ). Carries before after (take k buffer) [] (counts_of_read (length buffer) n)) none carries);
  last = last ∙ found_end (length buffer) n room none;
  outcome = refl;
}

-- it brought some bytes
pub Adds-bytes : (limit : ℕ) (old new buffer : List ℕ) (before after : StreamState) (n : ℕ) → 0 < n → n ≤ length buffer
    → new ≡ old ++ take n buffer → length new ≤ limit → Carries before after (take n buffer) [] (counts_of_read (length buffer) n)
    → Adds limit old new before after (Ok tt)
Adds-bytes limit old new buffer before after n some in_buffer more within carries = record {
  brought = take n buffer;
  recorded = more;
  within = within;
  carries = subst (λ c. Carries before after (take n buffer) [] c) (counted_none (length buffer) n some) carries;
  last = tt;
  outcome = grind (arith, common_steps);
}
