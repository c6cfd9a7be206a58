-- What comes of the bytes of a client, one request after another.
use Rattle.std.proofs.Common.{◌≡◌, ℕ, ◌+◌, ◌<◌, ◌≤◌, Bool, true, false, if◌then◌else◌, Some, None, Result, Ok, Err}
use Rattle.std.proofs.Common.{List, [], ◌∷◌, ◌++◌, length, take, drop, append_assoc, sym, ap, subst, refl, ◌∙◌, arith}
use Rattle.std.proofs.{lemmas.List.take-append-drop, lemmas.Bool.or_from}
use Rattle.mc_lane.specs.Streams.{StreamState, no_counts, a_failed_write}
use Rattle.mc_reader.specs.AskReading.{Progress, InLine, InBlock, Skipping, Over, HasRead, goes_on, IsAskAnswer, FeedsAsk}
use Rattle.mc_reader.specs.Asks.{Asking, One, Many, Quit, Refused, closes, refusal_closes, ask_of}
use Rattle.mc_reader.specs.{AskEnds.AskEnds, AskEnds.IsAskUnfinished, declared.ask.Ask.Ask, declared.ask.Asked.Asked, declared.ask.Asked.TheVariants.More}
use Rattle.mc_reader.specs.{declared.ask.Asked.TheVariants.Done, declared.ask.AskFault.AskFault, declared.ask.Refuse.Refuse}
use Rattle.mc_server.specs.{Answering.PutsAnswer, Answers.MayWrite, Answers.MayBegin, Asked.count_one, Conversing.why_closed, Conversing.IsTalk}
use Rattle.mc_server.specs.{Conversing.EndsTalk, Puts.IsPut, Serving.IsAnswered, Serving.IsServedTo, Serving.IsServedFirst, declared.served.Why.Why}
use Rattle.mc_server.specs.declared.served.Why.TheVariants as why
use Rattle.mc_server.proofs.Answered.{answered_none, answered_one, answered_on, served_to_on, served_first_on}
use Rattle.mc_server.proofs.{Asking.asks_one, Asking.goes_on_twice, Putting.IsPut-none, Putting.IsPut-and_none, Putting.IsPut-twice}

-- ---- what the reader answers

-- by the text that it has read
answer_at : (old new : Progress) (text piece : List ℕ) (result : Result Asked AskFault) → HasRead old text → FeedsAsk old piece result new
    → IsAskAnswer text piece result new
answer_at (InLine start) new text piece result read h = h text read
answer_at (InBlock line part) new text piece result read h = h text read
answer_at (Skipping refuse left) new text piece result read h = h text read
answer_at Over new text piece result read h = absurd read

-- it needs more
pub needs_more : (old new : Progress) (text piece : List ℕ) (f : Asked) → f ≡ More → HasRead old text → FeedsAsk old piece (Ok f) new
    → HasRead new (text ++ piece) × IsAskUnfinished (text ++ piece)
needs_more old new text piece f is read h =
    subst (λ x. IsAskAnswer text piece (Ok x) new) is (answer_at old new text piece (Ok f) read h)

-- it answers what is asked
pub is_asked : (old new : Progress) (text piece : List ℕ) (f : Asked) (ask : Ask) (used : ℕ) → f ≡ Done ask used → HasRead old text
    → FeedsAsk old piece (Ok f) new
    → (new ≡ goes_on (ask_of ask)) × (0 < used) × (used ≤ length piece) × AskEnds (text ++ take used piece) (ask_of ask)
is_asked old new text piece f ask used is read h =
    subst (λ x. IsAskAnswer text piece (Ok x) new) is (answer_at old new text piece (Ok f) read h)

-- a line is new
pub new_line : HasRead (InLine []) []
new_line = (record { one = refl; short = omega arith }, refl)

-- ---- what closes

some_or_none : (b : Bool) (w : Why) → (if b then Some w else None) ≡ None → b ≡ false
some_or_none true w h = absurd (cc)
some_or_none false w h = refl

pub goes_on_open : (asked : Asking) → why_closed asked ≡ None → closes asked ≡ false
goes_on_open (One request noreply) h = refl
goes_on_open (Many with_cas keys) h = refl
goes_on_open Quit h = absurd (cc)
goes_on_open (Refused refuse) h = some_or_none (refusal_closes refuse) why.Refused h

-- where the reader goes on then
pub new_after : (asked : Asking) (new : Progress) → why_closed asked ≡ None → new ≡ goes_on asked → new ≡ InLine []
new_after asked new open_ is = is ∙ ap (λ b. if b then Over else InLine []) (goes_on_open asked open_)

-- ---- one request

-- it and what comes after it
cut_at : (text unread : List ℕ) (used : ℕ) → text ++ unread ≡ (text ++ take used unread) ++ drop used unread
cut_at text unread used =
    ap (λ xs. text ++ xs) (sym (take-append-drop used unread)) ∙ sym (append_assoc text (take used unread) (drop used unread))

one_answered : (text unread t : List ℕ) (used : ℕ) (asked : Asking) → AskEnds (text ++ take used unread) asked → MayWrite asked t
    → IsAnswered (text ++ unread) (drop used unread) t (asked ∷ []) (count_one asked)
one_answered text unread t used asked ends may =
    answered_one (text ++ unread) (text ++ take used unread) (drop used unread) t asked ends (cut_at text unread used) may

-- it was answered, and goes on
pub talk_one : (text unread t held left : List ℕ) (a b : StreamState) (used : ℕ) (asked : Asking) → why_closed asked ≡ None
    → AskEnds (text ++ take used unread) asked → MayWrite asked t → IsPut t held left a b no_counts
    → IsTalk (text ++ unread) (drop used unread) held left a b (count_one asked)
talk_one text unread t held left a b used asked open_ ends may put = record {
  asked = asked ∷ [];
  text = t;
  all = one_answered text unread t used asked ends may;
  on = or_from (closes asked) false (goes_on_open asked open_) refl;
  put = put;
}

refused_to : (got held left : List ℕ) (a b : StreamState) (n : ℕ) (refuse : Refuse) (w : Why) (closing : Bool) → refusal_closes refuse ≡ closing
    → (if closing then Some why.Refused else None) ≡ Some w → (t : List ℕ) → IsServedTo (Refused refuse) got t n → IsPut t held left a b no_counts
    → EndsTalk got held left a b n w
refused_to got held left a b n refuse w true is h t served put =
    let e : why.Refused ≡ w = cc in subst (λ x. EndsTalk got held left a b n x) e (t, (refuse, is, served), put)
refused_to got held left a b n refuse w false is h t served put = absurd (cc)

-- it was answered, and closes
pub talk_closed : (text unread t held left : List ℕ) (a b : StreamState) (used : ℕ) (asked : Asking) (w : Why) → why_closed asked ≡ Some w
    → AskEnds (text ++ take used unread) asked → MayWrite asked t → IsPut t held left a b no_counts
    → EndsTalk (text ++ unread) held left a b (count_one asked) w
talk_closed text unread t held left a b used (One request noreply) w closed ends may put = absurd (cc)
talk_closed text unread t held left a b used (Many with_cas keys) w closed ends may put = absurd (cc)
talk_closed text unread t held left a b used Quit w closed ends may put =
    let e : why.Quit ≡ w = cc in
    subst (λ x. EndsTalk (text ++ unread) held left a b 0 x) e
    (t, record { before = []; rest = drop used unread; all = one_answered text unread t used Quit ends may }, put)
talk_closed text unread t held left a b used (Refused refuse) w closed ends may put =
    refused_to (text ++ unread) held left a b 0 refuse w (refusal_closes refuse) refl closed t
    (record { before = []; rest = drop used unread; all = one_answered text unread t used (Refused refuse) ends may }) put

first_of : (text unread front : List ℕ) (used : ℕ) (asked : Asking) → AskEnds (text ++ take used unread) asked
    → MayBegin asked front → IsServedFirst (text ++ unread) front (count_one asked)
first_of text unread front used asked ends begun = record {
  asked = [];
  others = asked ∷ [];
  rest = drop used unread;
  first = [];
  front = front;
  asks = asks_one (text ++ unread) (text ++ take used unread) (drop used unread) asked ends (cut_at text unread used);
  answered = refl;
  begun = begun;
  joined = refl;
  counted = omega arith;
}

-- its answer wasn't finished
pub talk_broken : (text unread held left : List ℕ) (a b : StreamState) (used : ℕ) (asked : Asking) (w : Why)
    → AskEnds (text ++ take used unread) asked → PutsAnswer asked held left a b (Err w)
    → EndsTalk (text ++ unread) held left a b (count_one asked) w
talk_broken text unread held left a b used asked why.Memory ends h = (h.0, first_of text unread h.0 used asked ends h.1, h.2)
talk_broken text unread held left a b used asked why.WriteFailed ends h = (h.0, first_of text unread h.0 used asked ends h.1, h.2)
talk_broken text unread held left a b used asked why.Ended ends h = absurd h
talk_broken text unread held left a b used asked why.Quit ends h = absurd h
talk_broken text unread held left a b used asked why.ReadFailed ends h = absurd h
talk_broken text unread held left a b used asked why.Refused ends h = absurd h
talk_broken text unread held left a b used asked why.TooMuch ends h = absurd h

-- there was no memory to read it
pub talk_unread : (got held : List ℕ) (a : StreamState) → EndsTalk got held held a a 0 why.Memory
talk_unread got held a = (
  [],
  record {
    asked = [];
    others = [];
    rest = got;
    first = [];
    front = [];
    asks = refl;
    answered = refl;
    begun = refl;
    joined = refl;
    counted = omega arith;
  },
  IsPut-none held a,
)

-- ---- one after another

pub talk_none : (got held : List ℕ) (a : StreamState) → IsTalk got got held held a a 0
talk_none got held a = record { asked = []; text = []; all = answered_none got; on = refl; put = IsPut-none held a }

pub talk_on : (got mid rest h i j : List ℕ) (a b c : StreamState) (k l : ℕ) → IsTalk got mid h i a b k → IsTalk mid rest i j b c l
    → IsTalk got rest h j a c (k + l)
talk_on got mid rest h i j a b c k l p q = record {
  asked = p.asked ++ q.asked;
  text = p.text ++ q.text;
  all = answered_on got mid p.text rest q.text p.asked q.asked k l p.on p.all q.all;
  on = goes_on_twice p.asked q.asked p.on q.on;
  put = IsPut-twice p.text q.text h i j a b c no_counts p.put q.put;
}

-- nothing was put after it
pub talk_and_none : (got rest h i j : List ℕ) (a b c : StreamState) (k : ℕ) → IsTalk got rest h i a b k → IsPut [] i j b c no_counts
    → IsTalk got rest h j a c k
talk_and_none got rest h i j a b c k p q = record {
  asked = p.asked;
  text = p.text;
  all = p.all;
  on = p.on;
  put = IsPut-and_none p.text [] h i j a b c no_counts refl p.put q;
}

pub talk_ends_on : (got mid h i j : List ℕ) (a b c : StreamState) (k l : ℕ) (w : Why) → IsTalk got mid h i a b k → EndsTalk mid i j b c l w
    → EndsTalk got h j a c (k + l) w
talk_ends_on got mid h i j a b c k l why.Quit p q =
    (p.text ++ q.0, served_to_on Quit got mid p.text q.0 p.asked k l p.on p.all q.1, IsPut-twice p.text q.0 h i j a b c no_counts p.put q.2)
talk_ends_on got mid h i j a b c k l why.Refused p q = (
  p.text ++ q.0,
  (q.1.0, q.1.1, served_to_on (Refused q.1.0) got mid p.text q.0 p.asked k l p.on p.all q.1.2),
  IsPut-twice p.text q.0 h i j a b c no_counts p.put q.2,
)
talk_ends_on got mid h i j a b c k l why.Memory p q =
    (p.text ++ q.0, served_first_on got mid p.text q.0 p.asked k l p.on p.all q.1, IsPut-twice p.text q.0 h i j a b c no_counts p.put q.2)
talk_ends_on got mid h i j a b c k l why.WriteFailed p q = (
  p.text ++ q.0,
  served_first_on got mid p.text q.0 p.asked k l p.on p.all q.1,
  (q.2.0, IsPut-twice p.text q.0 h i q.2.0 a b c a_failed_write p.put q.2.1),
)
talk_ends_on got mid h i j a b c k l why.Ended p q = absurd q
talk_ends_on got mid h i j a b c k l why.ReadFailed p q = absurd q
talk_ends_on got mid h i j a b c k l why.TooMuch p q = absurd q
