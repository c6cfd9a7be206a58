-- The operations that notes and one more tell.
use Rattle.std.proofs.Common.{◌≡◌, ◌+◌, ℕ, suc, Bool, true, false, cond, not, ◌&&◌, eqb, eqb-true, eq-eqb, is_some}
use Rattle.std.proofs.Common.{Option, Some, None, List, [], ◌∷◌, ◌++◌, map, length, inl, inr, refl, ap, subst, sym, ◌∙◌, arith}
use Rattle.std.specs.List.{slice_get}
use Rattle.mc_protocol.specs.declared.{request.Request.Request, reply.Reply.Reply}
use Rattle.mc_model.specs.declared.note.Note.TheVariants as note
use Rattle.mc_timeline.specs.Timelines.{ClientNote, Placed, placed, answer_to, operations_in, operations_of}
use Rattle.mc_timeline.specs.{Members.IsIn, Operations.Answer, Operations.Operation}

pub eqb_turned : (a b : ℕ) → eqb a b ≡ eqb b a
eqb_turned a b = by (eqb a b) refl (eqb b a) refl
  where
    by : (x : Bool) → eqb a b ≡ x → (y : Bool) → eqb b a ≡ y → x ≡ y
    by true e true f = refl
    by false e false f = refl
    by true e false f = let back = eq-eqb b a (sym (eqb-true a b e)) in absurd (cc)
    by false e true f = let back = eq-eqb a b (sym (eqb-true b a f)) in absurd (cc)

-- an operation that has no answer yet
abbrev pub unanswered : ℕ → Request → ℕ → Operation
unanswered client request began = record { client = client; request = request; began = began; answer = None }

-- the answer of a client's operation that waits for it
abbrev pub answered : ℕ → Answer → Operation → Operation
answered client answer x = cond (eqb x.client client && not (is_some x.answer)) (record x { answer = Some answer }) x

placed_more : (from : ℕ) (notes : List ClientNote) (next : ClientNote)
    → placed from (notes ++ next ∷ []) ≡ placed from notes ++ (from + length notes, next) ∷ []
placed_more from [] next = let e : from ≡ from + 0 = omega arith in ap (λ k. (k, next) ∷ []) e
placed_more from (n ∷ notes) next =
    let e : suc from + length notes ≡ from + suc (length notes) = omega arith in
    ap (λ l. (from, n) ∷ l) (placed_more (suc from) notes next ∙ ap (λ k. placed (suc from) notes ++ (k, next) ∷ []) e)

placed_last : (notes : List ClientNote) (next : ClientNote) → placed 0 (notes ++ next ∷ []) ≡ placed 0 notes ++ (length notes, next) ∷ []
placed_last notes next =
    let e : 0 + length notes ≡ length notes = omega arith in
    placed_more 0 notes next ∙ ap (λ k. placed 0 notes ++ (k, next) ∷ []) e

-- ---- a request begins

answer_before : (client who place : ℕ) (request : Request) (ts : List Placed)
    → answer_to client (ts ++ (place, (who, note.Begin request)) ∷ []) ≡ answer_to client ts
answer_before client who place request [] = refl
answer_before client who place request ((at, (other, note.Begin r)) ∷ ts) = answer_before client who place request ts
answer_before client who place request ((at, (other, note.Reply r)) ∷ ts) =
    ap (cond (eqb other client) (Some (record { time = at; reply = r }))) (answer_before client who place request ts)

begun_in : (who place : ℕ) (request : Request) (ts : List Placed)
    → operations_in (ts ++ (place, (who, note.Begin request)) ∷ []) ≡ operations_in ts ++ unanswered who request place ∷ []
begun_in who place request [] = refl
begun_in who place request ((at, (other, note.Begin r)) ∷ ts) =
    rw (answer_before other who place request ts, begun_in who place request ts) refl
begun_in who place request ((at, (other, note.Reply r)) ∷ ts) = begun_in who place request ts

pub begun : (notes : List ClientNote) (who : ℕ) (request : Request)
    → operations_of (notes ++ (who, note.Begin request) ∷ []) ≡ operations_of notes ++ unanswered who request (length notes) ∷ []
begun notes who request =
    ap operations_in (placed_last notes (who, note.Begin request)) ∙ begun_in who (length notes) request (placed 0 notes)

-- ---- a reply comes

abbrev or_else : Option Answer → Option Answer → Option Answer
or_else (Some answer) other = Some answer
or_else None other = other

answer_after : (client who : ℕ) (answer : Answer) (ts : List Placed)
    → answer_to client (ts ++ (answer.time, (who, note.Reply answer.reply)) ∷ [])
    ≡ or_else (answer_to client ts) (cond (eqb who client) (Some answer) None)
answer_after client who answer [] = refl
answer_after client who answer ((at, (other, note.Begin r)) ∷ ts) = answer_after client who answer ts
answer_after client who answer ((at, (other, note.Reply r)) ∷ ts) = by (eqb other client) (answer_after client who answer ts)
  where
    by : (b : Bool)
        → answer_to client (ts ++ (answer.time, (who, note.Reply answer.reply)) ∷ [])
        ≡ or_else (answer_to client ts) (cond (eqb who client) (Some answer) None)
        → cond b (Some (record { time = at; reply = r })) (answer_to client (ts ++ (answer.time, (who, note.Reply answer.reply)) ∷ []))
        ≡ or_else (cond b (Some (record { time = at; reply = r })) (answer_to client ts)) (cond (eqb who client) (Some answer) None)
    by true rest = refl
    by false rest = rest

one_answered : (client : ℕ) (request : Request) (began : ℕ) (answer : Answer) (old : Option Answer) (b : Bool)
    → ◌≡◌ {A = Operation} (record { client = client; request = request; began = began; answer = or_else old (cond b (Some answer) None) })
    (cond (b && not (is_some old)) (record { client = client; request = request; began = began; answer = Some answer })
    (record { client = client; request = request; began = began; answer = old }))
one_answered client request began answer None true = refl
one_answered client request began answer None false = refl
one_answered client request began answer (Some old) true = refl
one_answered client request began answer (Some old) false = refl

answered_in : (who : ℕ) (answer : Answer) (ts : List Placed)
    → operations_in (ts ++ (answer.time, (who, note.Reply answer.reply)) ∷ []) ≡ map (answered who answer) (operations_in ts)
answered_in who answer [] = refl
answered_in who answer ((at, (other, note.Begin r)) ∷ ts) =
    let now = answer_after other who answer ts ∙ ap (λ b. or_else (answer_to other ts) (cond b (Some answer) None)) (eqb_turned who other) in
    let one = one_answered other r at answer (answer_to other ts) (eqb other who) in
    rw (now, one, answered_in who answer ts) refl
answered_in who answer ((at, (other, note.Reply r)) ∷ ts) = answered_in who answer ts

pub replied : (notes : List ClientNote) (who : ℕ) (reply : Reply)
    → operations_of (notes ++ (who, note.Reply reply) ∷ [])
    ≡ map (answered who (record { time = length notes; reply = reply })) (operations_of notes)
replied notes who reply =
    ap operations_in (placed_last notes (who, note.Reply reply))
    ∙ answered_in who (record { time = length notes; reply = reply }) (placed 0 notes)

-- ---- the note with which an operation began

record BeganAt (x : Operation) (from : ℕ) (notes : List ClientNote) : Type 0 where
  pub place : ℕ
  pub began : x.began ≡ from + place
  pub noted : slice_get notes place ≡ Some (x.client, note.Begin x.request)

began_at : (x : Operation) (from : ℕ) (notes : List ClientNote) → IsIn x (operations_in (placed from notes)) → BeganAt x from notes
began_at x from [] h = absurd h
began_at x from ((who, note.Begin request) ∷ notes) (inl same) =
    let began : x.began ≡ from = ap (λ y. y.began) same in
    record { place = 0; began = omega arith; noted = ap (λ y. Some (y.client, note.Begin y.request)) (sym same) }
began_at x from ((who, note.Begin request) ∷ notes) (inr more) =
    let b = began_at x (suc from) notes more in
    let began = b.began in
    record { place = suc b.place; began = omega arith; noted = b.noted }
began_at x from ((who, note.Reply reply) ∷ notes) h =
    let b = began_at x (suc from) notes h in
    let began = b.began in
    record { place = suc b.place; began = omega arith; noted = b.noted }

pub begin_note : (notes : List ClientNote) (x : Operation) → IsIn x (operations_of notes)
    → slice_get notes x.began ≡ Some (x.client, note.Begin x.request)
begin_note notes x h =
    let b = began_at x 0 notes h in
    let began = b.began in
    let at : x.began ≡ b.place = omega arith in
    subst (λ place. slice_get notes place ≡ Some (x.client, note.Begin x.request)) (sym at) b.noted
