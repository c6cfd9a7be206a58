-- The note with which an operation was answered.
use Rattle.std.proofs.Common.{◌≡◌, ◌+◌, inl, inr, ℕ, suc, Bool, true, false, cond, eqb, eqb-true}
use Rattle.std.proofs.Common.{Some, List, [], ◌∷◌, refl, ap, subst, sym, ◌∙◌, arith}
use Rattle.std.specs.List.{slice_get}
use Rattle.mc_model.specs.declared.note.Note.TheVariants as note
use Rattle.mc_timeline.specs.Timelines.{ClientNote, placed, answer_to, operations_in, operations_of}
use Rattle.mc_timeline.specs.{Members.IsIn, Operations.Answer, Operations.Operation}

-- ---- answers

record CameAt (client : ℕ) (answer : Answer) (from : ℕ) (notes : List ClientNote) : Type 0 where
  pub place : ℕ
  pub came : answer.time ≡ from + place
  pub noted : slice_get notes place ≡ Some (client, note.Reply answer.reply)

later : (client : ℕ) (answer : Answer) (from : ℕ) (n : ClientNote) (notes : List ClientNote) → CameAt client answer (suc from) notes
    → CameAt client answer from (n ∷ notes)
later client answer from n notes c =
    let came = c.came in
    record { place = suc c.place; came = omega arith; noted = c.noted }

came_at : (client : ℕ) (answer : Answer) (from : ℕ) (notes : List ClientNote) → answer_to client (placed from notes) ≡ Some answer
    → CameAt client answer from notes
came_at client answer from [] e = absurd (cc)
came_at client answer from ((who, note.Begin request) ∷ notes) e =
    later client answer from (who, note.Begin request) notes (came_at client answer (suc from) notes e)
came_at client answer from ((who, note.Reply reply) ∷ notes) e =
    by (eqb who client) refl e (λ f. came_at client answer (suc from) notes f)
  where
    by : (b : Bool) → eqb who client ≡ b
        → cond b (Some (record { time = from; reply = reply })) (answer_to client (placed (suc from) notes)) ≡ Some answer
        → (answer_to client (placed (suc from) notes) ≡ Some answer → CameAt client answer (suc from) notes)
        → CameAt client answer from ((who, note.Reply reply) ∷ notes)
    by true is found rest =
        let same : ◌≡◌ {A = Answer} (record { time = from; reply = reply }) answer = cc in
        let time : from ≡ answer.time = ap (λ (a : Answer). a.time) same in
        let given : reply ≡ answer.reply = ap (λ (a : Answer). a.reply) same in
        let who_is = eqb-true who client is in
        record { place = 0; came = omega arith; noted = ap (λ c. Some (c, note.Reply reply)) who_is ∙ ap (λ r. Some (client, note.Reply r)) given }
    by false is found rest = later client answer from (who, note.Reply reply) notes (rest found)

answered_at : (x : Operation) (answer : Answer) (from : ℕ) (notes : List ClientNote) → IsIn x (operations_in (placed from notes))
    → x.answer ≡ Some answer → CameAt x.client answer from notes
answered_at x answer from [] h e = absurd h
answered_at x answer from ((who, note.Begin request) ∷ notes) (inl same) e =
    let found : answer_to who (placed (suc from) notes) ≡ Some answer = ap (λ (y : Operation). y.answer) (sym same) ∙ e in
    let who_is : who ≡ x.client = ap (λ (y : Operation). y.client) (sym same) in
    later x.client answer from (who, note.Begin request) notes
    (subst (λ c. CameAt c answer (suc from) notes) who_is (came_at who answer (suc from) notes found))
answered_at x answer from ((who, note.Begin request) ∷ notes) (inr more) e =
    later x.client answer from (who, note.Begin request) notes (answered_at x answer (suc from) notes more e)
answered_at x answer from ((who, note.Reply reply) ∷ notes) h e =
    later x.client answer from (who, note.Reply reply) notes (answered_at x answer (suc from) notes h e)

pub answer_note : (notes : List ClientNote) (x : Operation) (answer : Answer) → IsIn x (operations_of notes) → x.answer ≡ Some answer
    → slice_get notes answer.time ≡ Some (x.client, note.Reply answer.reply)
answer_note notes x answer h e =
    let c = answered_at x answer 0 notes h e in
    let came = c.came in
    let at : answer.time ≡ c.place = omega arith in
    subst (λ place. slice_get notes place ≡ Some (x.client, note.Reply answer.reply)) (sym at) c.noted
