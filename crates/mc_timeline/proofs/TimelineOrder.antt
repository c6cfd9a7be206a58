-- Timelines are in order.
use Rattle.std.proofs.Common.{◌≡◌, ◌≢◌, ℕ, Bool, true, false, cond, not, ◌&&◌, eqb, eqb-true, eq-eqb, is_some}
use Rattle.std.proofs.Common.{None, List, [], ◌∷◌, ◌++◌, map, length, refl, ap, subst, sym, ◌∙◌}
use Rattle.std.proofs.{lemmas.Bool.and_from, lemmas.List.append-nil, lemmas.List.Elements.filter-append}
use Rattle.mc_protocol.specs.declared.{request.Request.Request, reply.Reply.Reply}
use Rattle.mc_model.specs.declared.note.Note.TheVariants as note
use Rattle.mc_timeline.specs.Timelines.{ClientNote, Waiting, with_waiting, are_in_order, operations_of}
use Rattle.mc_timeline.specs.{Operations.Answer, Operations.Operation, Laws.TimelinesAreInOrder}
use Rattle.mc_timeline.specs.Rules as rule
use Rattle.mc_timeline.proofs.MoreNotes.{unanswered, answered, begun, replied}
use Rattle.mc_timeline.proofs.{Begun.room_and_free, Begun.none_of, Answered.none_left, Answered.others_wait}

abbrev Tells : Waiting → List ClientNote → Type 0
Tells waits notes = (client : ℕ) → waits client ≡ not (rule.is_unused (rule.waiting_of client (operations_of notes)))

turned : (a b : ℕ) → eqb a b ≡ false → eqb b a ≡ false
turned a b e = by (eqb b a) refl
  where
    by : (x : Bool) → eqb b a ≡ x → x ≡ false
    by false f = refl
    by true f = let back = eq-eqb a b (sym (eqb-true b a f)) in absurd (cc)

tells_begun : (waits : Waiting) (notes : List ClientNote) (who : ℕ) (request : Request) → Tells waits notes
    → rule.waiting_of who (operations_of notes) ≡ [] → Tells (with_waiting waits who true) (notes ++ (who, note.Begin request) ∷ [])
tells_begun waits notes who request tells free client =
    by (eqb client who) refl
    ∙ ap (λ l. not (rule.is_unused (rule.waiting_of client l))) (sym (begun notes who request))
  where
    told : List Operation
    told = operations_of notes

    next : Operation
    next = unanswered who request (length notes)

    parts : rule.waiting_of client (told ++ next ∷ []) ≡ rule.waiting_of client told ++ cond (eqb who client && true) (next ∷ []) []
    parts = filter-append (λ x. eqb x.client client && not (is_some x.answer)) told (next ∷ [])

    by : (b : Bool) → eqb client who ≡ b → cond b true (waits client) ≡ not (rule.is_unused (rule.waiting_of client (told ++ next ∷ [])))
    by true e =
        let same : client ≡ who = eqb-true client who e in
        let here : eqb who client ≡ true = eq-eqb who client (sym same) in
        let none : rule.waiting_of client told ≡ [] = subst (λ c. rule.waiting_of c told ≡ []) (sym same) free in
        sym (ap (λ l. not (rule.is_unused l))
        (parts ∙ ap (λ b. rule.waiting_of client told ++ cond (b && true) (next ∷ []) []) here ∙ ap (λ l. l ++ next ∷ []) none))
    by false e =
        let off = turned client who e in
        tells client
        ∙ sym (ap (λ l. not (rule.is_unused l))
        (parts ∙ ap (λ b. rule.waiting_of client told ++ cond (b && true) (next ∷ []) []) off ∙ append-nil (rule.waiting_of client told)))

tells_replied : (waits : Waiting) (notes : List ClientNote) (who : ℕ) (reply : Reply) → Tells waits notes
    → Tells (with_waiting waits who false) (notes ++ (who, note.Reply reply) ∷ [])
tells_replied waits notes who reply tells client =
    by (eqb client who) refl ∙ ap (λ l. not (rule.is_unused (rule.waiting_of client l))) (sym (replied notes who reply))
  where
    answer : Answer
    answer = record { time = length notes; reply = reply }

    after : List Operation
    after = map (answered who answer) (operations_of notes)

    by : (b : Bool) → eqb client who ≡ b → cond b false (waits client) ≡ not (rule.is_unused (rule.waiting_of client after))
    by true e =
        let same : who ≡ client = sym (eqb-true client who e) in
        sym (ap (λ l. not (rule.is_unused l)) (subst (λ c. rule.waiting_of c after ≡ []) same (none_left who answer (operations_of notes))))
    by false e =
        let apart : client ≢ who = λ same. (let on = eq-eqb client who same in absurd (cc)) in
        tells client ∙ sym (ap (λ l. not (rule.is_unused l)) (others_wait who answer client apart (operations_of notes)))

someone_waits : (xs : List Operation) (reply : Reply) → rule.reply_fault xs reply ≡ None → not (rule.is_unused xs) ≡ true
someone_waits [] reply e = absurd (cc)
someone_waits (x ∷ xs) reply e = refl

keeps_order : (waits : Waiting) (earlier notes : List ClientNote) → Tells waits earlier → rule.KeepRules earlier notes
    → are_in_order waits notes ≡ true
keeps_order waits earlier [] tells k = refl
keeps_order waits earlier ((who, note.Begin request) ∷ notes) tells k =
    let free = (room_and_free (operations_of earlier) who request k.0).1 in
    and_from (not (waits who)) (are_in_order (with_waiting waits who true) notes)
    (ap not (tells who ∙ ap not free))
    (keeps_order (with_waiting waits who true) (earlier ++ (who, note.Begin request) ∷ []) notes
    (tells_begun waits earlier who request tells (none_of (rule.waiting_of who (operations_of earlier)) free)) k.1)
keeps_order waits earlier ((who, note.Reply reply) ∷ notes) tells k =
    and_from (waits who) (are_in_order (with_waiting waits who false) notes)
    (tells who ∙ someone_waits (rule.waiting_of who (operations_of earlier)) reply k.0)
    (keeps_order (with_waiting waits who false) (earlier ++ (who, note.Reply reply) ∷ []) notes (tells_replied waits earlier who reply tells) k.1)

pub are_ordered : TimelinesAreInOrder
are_ordered notes k = keeps_order (λ client. false) [] notes (λ client. refl) k
