-- What is served, one part of the bytes after another.
use Rattle.std.proofs.Common.{◌≡◌, ℕ, ◌+◌, List, [], ◌∷◌, ◌++◌, append_assoc, append-nil, sym, ap, subst, refl, ◌∙◌, arith}
use Rattle.mc_reader.specs.{AskEnds.AskEnds, Asks.Asking}
use Rattle.mc_server.specs.Serving.{AreAnswered, IsAnswered, IsServedTo, IsServedFirst, Serves}
use Rattle.mc_server.specs.{Answers.MayWrite, Answers.memory_line, Asked.Asks, Asked.GoesOn, Asked.count_one, Conversing.ComesOfPiece, declared.served.Why.Why}
use Rattle.mc_server.specs.declared.served.Why.TheVariants as why
use Rattle.mc_server.proofs.Asking.{asks_longer, asks_one, asks_twice, count_twice}

answered_twice : (asked others : List Asking) (text more : List ℕ) → AreAnswered asked text → AreAnswered others more
    → AreAnswered (asked ++ others) (text ++ more)
answered_twice [] others text more h k = subst (λ t. AreAnswered others (t ++ more)) (sym h) k
answered_twice (asked ∷ rest) others text more h k =
    (h.0, h.1 ++ more, h.2, answered_twice rest others h.1 more h.3 k, ap (λ t. t ++ more) h.4 ∙ append_assoc h.0 h.1 more)

-- nothing was asked yet
pub answered_none : (got : List ℕ) → IsAnswered got got [] [] 0
answered_none got = record { asks = refl; answered = refl; counted = refl }

-- one request
pub answered_one : (got front rest text : List ℕ) (asked : Asking) → AskEnds front asked → got ≡ front ++ rest → MayWrite asked text
    → IsAnswered got rest text (asked ∷ []) (count_one asked)
answered_one got front rest text asked ends is may = record {
  asks = asks_one got front rest asked ends is;
  answered = (text, [], may, refl, sym (append-nil text));
  counted = omega arith;
}

-- more bytes come
pub answered_longer : (got rest text : List ℕ) (asked : List Asking) (n : ℕ) (more : List ℕ) → GoesOn asked → IsAnswered got rest text asked n
    → IsAnswered (got ++ more) (rest ++ more) text asked n
answered_longer got rest text asked n more on h = record {
  asks = asks_longer got asked rest more on h.asks;
  answered = h.answered;
  counted = h.counted;
}

-- what was left is answered
pub answered_on : (got mid text rest more : List ℕ) (asked others : List Asking) (n m : ℕ) → GoesOn asked → IsAnswered got mid text asked n
    → IsAnswered mid rest more others m → IsAnswered got rest (text ++ more) (asked ++ others) (n + m)
answered_on got mid text rest more asked others n m on h k = record {
  asks = asks_twice got asked mid others rest on h.asks k.asks;
  answered = answered_twice asked others text more h.answered k.answered;
  counted = omega (arith, h.counted, k.counted, count_twice asked others);
}

pub served_to_on : (last : Asking) (got mid text more : List ℕ) (asked : List Asking) (n m : ℕ) → GoesOn asked
    → IsAnswered got mid text asked n → IsServedTo last mid more m → IsServedTo last got (text ++ more) (n + m)
served_to_on last got mid text more asked n m on h k = record {
  before = asked ++ k.before;
  rest = k.rest;
  all = subst (λ all. IsAnswered got k.rest (text ++ more) all (n + m)) (sym (append_assoc asked k.before (last ∷ [])))
      (answered_on got mid text k.rest more asked (k.before ++ last ∷ []) n m on h k.all);
}

pub served_first_on : (got mid text more : List ℕ) (asked : List Asking) (n m : ℕ) → GoesOn asked → IsAnswered got mid text asked n
    → IsServedFirst mid more m → IsServedFirst got (text ++ more) (n + m)
served_first_on got mid text more asked n m on h k = record {
  asked = asked ++ k.asked;
  others = k.others;
  rest = k.rest;
  first = text ++ k.first;
  front = k.front;
  asks = subst (λ all. Asks got all k.rest) (sym (append_assoc asked k.asked k.others))
      (asks_twice got asked mid (k.asked ++ k.others) k.rest on h.asks k.asks);
  answered = answered_twice asked k.asked text k.first h.answered k.answered;
  begun = k.begun;
  joined = ap (λ t. text ++ t) k.joined ∙ sym (append_assoc text k.first k.front);
  counted = omega (arith, h.counted, k.counted, count_twice (asked ++ k.asked) k.others, count_twice asked k.asked, count_twice k.asked k.others);
}

-- the end that came with the bytes that were left
pub serves_on : (got mid text put : List ℕ) (asked : List Asking) (n m : ℕ) (w : Why) → ComesOfPiece w → GoesOn asked
    → IsAnswered got mid text asked n → Serves mid put m w → Serves got (text ++ put) (n + m) w
serves_on got mid text put asked n m why.Ended comes on h k = absurd comes
serves_on got mid text put asked n m why.ReadFailed comes on h k = absurd comes
serves_on got mid text put asked n m why.TooMuch comes on h k = absurd comes
serves_on got mid text put asked n m why.Quit comes on h k = served_to_on _ got mid text put asked n m on h k
serves_on got mid text put asked n m why.Refused comes on h k = (k.0, k.1, served_to_on _ got mid text put asked n m on h k.2)
serves_on got mid text put asked n m why.Memory comes on h k =
    (text ++ k.0, served_first_on got mid text k.0 asked n m on h k.1, ap (λ t. text ++ t) k.2 ∙ sym (append_assoc text k.0 memory_line))
serves_on got mid text put asked n m why.WriteFailed comes on h k = (
  text ++ k.0,
  k.1,
  served_first_on got mid text k.0 asked n m on h k.2,
  append_assoc text put k.1 ∙ ap (λ t. text ++ t) k.3 ∙ sym (append_assoc text k.0 memory_line),
)
