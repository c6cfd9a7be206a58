-- What holds of places holds of the operations that begin there.
use Rattle.std.proofs.Common.{◌≡◌, ◌+◌, ◌<◌, inl, inr, ℕ, suc, nat_lt, Bool, true, false, cond, not, ◌&&◌, eqb, get_or, length, drop, add-one, Some}
use Rattle.std.proofs.Common.{List, [], ◌∷◌, ◌++◌, append_assoc, refl, ap, sym, ◌∙◌, arith}
use Rattle.std.proofs.{lemmas.Bool.and_parts, lemmas.List.drop_more}
use Rattle.mc_protocol.specs.declared.reply.Reply.TheVariants as reply
use Rattle.mc_model.specs.declared.note.Note.TheVariants as note
use Rattle.mc_timeline.specs.Timelines.{ClientNote, placed, answer_to, operations_in}
use Rattle.mc_timeline.specs.{Members.IsIn, Operations.Operation, Explanations.received}
use Rattle.mc_shrink.specs.{Parts.MayGo, Parts.is_unchanging, Parts.stays_by, Going.Tells, Going.may_first_go, Going.may_go_from, Going.reply_to}

-- ---- one operation

same_reply : (client place : ℕ) (notes : List ClientNote) → received (answer_to client (placed place notes)) ≡ reply_to client notes
same_reply client place [] = refl
same_reply client place ((who, note.Begin request) ∷ notes) = same_reply client (suc place) notes
same_reply client place ((who, note.Reply reply) ∷ notes) = by (eqb who client) (same_reply client (suc place) notes)
  where
    by : (b : Bool) → received (answer_to client (placed (suc place) notes)) ≡ reply_to client notes
        → received (cond b (Some (record { time = place; reply = reply })) (answer_to client (placed (suc place) notes)))
        ≡ cond b (Some reply) (reply_to client notes)
    by true rest = refl
    by false rest = rest

-- ---- all operations

-- what goes may go, by how far its place is from this one
abbrev TellsFrom : ℕ → List ClientNote → (ℕ → Bool) → Type 0
TellsFrom place notes stays = (i : ℕ) → stays (place + i) ≡ false → get_or (may_go_from place notes) i false ≡ true

tells_later : (place : ℕ) (noted : ClientNote) (notes : List ClientNote) (stays : ℕ → Bool)
    → TellsFrom place (noted ∷ notes) stays → TellsFrom (suc place) notes stays
tells_later place noted notes stays tells i goes =
    let same : place + suc i ≡ suc place + i = omega arith in
    tells (suc i) (ap stays same ∙ goes)

may_from : (place : ℕ) (notes : List ClientNote) (stays : ℕ → Bool) → TellsFrom place notes stays → (x : Operation)
    → IsIn x (operations_in (placed place notes)) → stays x.began ≡ false → is_unchanging (received x.answer) ≡ true
may_from place [] stays tells x h goes = absurd h
may_from place ((who, note.Begin request) ∷ notes) stays tells x (inl same) goes =
    let here : place + 0 ≡ place = omega arith in
    let gone : stays place ≡ false = ap (λ (y : Operation). stays y.began) (sym same) ∙ goes in
    let told = and_parts (nat_lt 0 place) (may_first_go ((who, note.Begin request) ∷ notes)) (tells 0 (ap stays here ∙ gone)) in
    ap (λ (y : Operation). is_unchanging (received y.answer)) same ∙ ap is_unchanging (same_reply who (suc place) notes) ∙ told.1
may_from place ((who, note.Begin request) ∷ notes) stays tells x (inr more) goes =
    may_from (suc place) notes stays (tells_later place (who, note.Begin request) notes stays tells) x more goes
may_from place ((who, note.Reply reply) ∷ notes) stays tells x more goes =
    may_from (suc place) notes stays (tells_later place (who, note.Reply reply) notes stays tells) x more goes

from_not : (b : Bool) → not b ≡ false → b ≡ true
from_not true e = refl
from_not false e = absurd (cc)

pub may_all_go : (notes : List ClientNote) (goes : List Bool) → Tells (may_go_from 0 notes) goes → MayGo (stays_by goes) (operations_in (placed 0 notes))
may_all_go notes goes tells =
    may_from 0 notes (stays_by goes)
    (λ i e. (let from_none : 0 + i ≡ i = omega arith in
    tells i (from_not (get_or goes i false) (ap (stays_by goes) (sym from_none) ∙ e))))

-- the first request stays
pub first_stays : (notes : List ClientNote) (goes : List Bool) → Tells (may_go_from 0 notes) goes → stays_by goes 0 ≡ true
first_stays notes goes tells = by notes (get_or goes 0 false) refl
  where
    never : (l : List ClientNote) → get_or (may_go_from 0 l) 0 false ≡ true → ⊥
    never [] e = absurd (cc)
    never (n ∷ l) e = absurd (cc)

    by : (l : List ClientNote) (b : Bool) → get_or goes 0 false ≡ b → not b ≡ true
    by l true e = absurd (never notes (tells 0 e))
    by l false e = refl

-- ---- one place more

-- what is said of one place more
pub one_more : (may : List Bool) (place : ℕ) (notes : List ClientNote) (all : List Bool) (b : Bool) → place < length notes
    → b ≡ (nat_lt 0 place && may_first_go (drop place notes)) → may ++ may_go_from place (drop place notes) ≡ all
    → (may ++ b ∷ []) ++ may_go_from (place + 1) (drop (place + 1) notes) ≡ all
one_more may place notes all b within is whole =
    append_assoc may (b ∷ []) (may_go_from (place + 1) others) ∙ ap (λ l. may ++ l) here ∙ whole
  where
    none : ClientNote
    none = (0, note.Reply reply.Miss)

    others : List ClientNote
    others = drop (place + 1) notes

    rest : drop place notes ≡ get_or notes place none ∷ others
    rest = drop_more notes place none within

    told : List ClientNote → Bool
    told l = nat_lt 0 place && may_first_go l

    here : b ∷ may_go_from (place + 1) others ≡ may_go_from place (drop place notes)
    here =
        ap (λ c. c ∷ may_go_from (place + 1) others) (is ∙ ap told rest)
        ∙ ap (λ p. told (get_or notes place none ∷ others) ∷ may_go_from p others) (add-one place)
        ∙ ap (may_go_from place) (sym rest)
