-- The operations of a section, which is a client of the timeline of the same notes.
use Rattle.std.proofs.Common.{◌≡◌, ◌<◌, zero, ◌+◌, ◌≤◌, ℕ, suc, Bool, true, false, cond, not, ◌&&◌, eqb, Option, Some, None}
use Rattle.std.proofs.Common.{List, [], ◌∷◌, filter, length, inl, inr, refl, ap, subst, sym, arith}
use Rattle.std.proofs.lemmas.Bool.{and_parts, and_from}
use Rattle.mc_protocol.specs.declared.{actor.Actor.Actor, request.Request.Request}
use Rattle.mc_protocol.specs.declared.actor.Actor.TheVariants as actor
use Rattle.mc_model.specs.declared.note.Note.TheVariants as note
use Rattle.mc_model.specs.Notes.{Noted, is_same_section}
use Rattle.mc_timeline.specs.Timelines.{Waiting, with_waiting, are_in_order, placed, answer_to, operations_in}
use Rattle.mc_timeline.specs.{Members.IsIn, Operations.Answer, Operations.Operation, Walks.CameNoEarlier}
use Rattle.mc_timeline_of.specs.SameNotes.{client_of, of_clients}

-- ---- sections and their clients

pub same_client : (section who : Actor) → eqb (client_of who) (client_of section) ≡ is_same_section section who
same_client actor.P actor.P = refl
same_client actor.P actor.A = refl
same_client actor.P actor.B = refl
same_client actor.A actor.P = refl
same_client actor.A actor.A = refl
same_client actor.A actor.B = refl
same_client actor.B actor.P = refl
same_client actor.B actor.A = refl
same_client actor.B actor.B = refl

client_same : (section who : Actor) → eqb (client_of section) (client_of who) ≡ is_same_section section who
client_same actor.P actor.P = refl
client_same actor.P actor.A = refl
client_same actor.P actor.B = refl
client_same actor.A actor.P = refl
client_same actor.A actor.A = refl
client_same actor.A actor.B = refl
client_same actor.B actor.P = refl
client_same actor.B actor.A = refl
client_same actor.B actor.B = refl

pub same_actor : (section who : Actor) → is_same_section section who ≡ true → who ≡ section
same_actor actor.P actor.P e = refl
same_actor actor.A actor.A e = refl
same_actor actor.B actor.B e = refl
same_actor _ _ e = absurd (cc)

-- the section that a client is
abbrev pub section_by : ℕ → Actor
section_by zero = actor.P
section_by (suc zero) = actor.A
section_by (suc (suc client)) = actor.B

pub section_is : (section : Actor) → section_by (client_of section) ≡ section
section_is actor.P = refl
section_is actor.A = refl
section_is actor.B = refl

-- ---- the operations of a section

-- the first reply to the section, with its time, if the first of these notes has this place
abbrev pub first_reply : Actor → ℕ → List Noted → Option Answer
first_reply section place [] = None
first_reply section place ((who, note.Begin request) ∷ notes) = first_reply section (suc place) notes
first_reply section place ((who, note.Reply reply) ∷ notes) =
    cond (is_same_section section who) (Some (record { time = place; reply = reply })) (first_reply section (suc place) notes)

-- the operation that begins with a request of the section, at this place before these notes
abbrev pub operation_at : Actor → ℕ → Request → List Noted → Operation
operation_at section place request notes =
    record { client = client_of section; request = request; began = place; answer = first_reply section (suc place) notes }

-- the operations of the section, if the first of these notes has this place
abbrev pub queue : Actor → ℕ → List Noted → List Operation
queue section place [] = []
queue section place ((who, note.Begin request) ∷ notes) =
    cond (is_same_section section who)
    (operation_at section place request notes ∷ queue section (suc place) notes)
    (queue section (suc place) notes)
queue section place ((who, note.Reply reply) ∷ notes) = queue section (suc place) notes

first_is : (section : Actor) (place : ℕ) (notes : List Noted)
    → answer_to (client_of section) (placed place (of_clients notes)) ≡ first_reply section place notes
first_is section place [] = refl
first_is section place ((who, note.Begin request) ∷ notes) = first_is section (suc place) notes
first_is section place ((who, note.Reply reply) ∷ notes) = rw (same_client section who, first_is section (suc place) notes) refl

begun_is : (section who : Actor) (place : ℕ) (request : Request) (notes : List Noted) → is_same_section section who ≡ true
    → ◌≡◌ {A = Operation}
    (record { client = client_of who; request = request; began = place; answer = answer_to (client_of who) (placed (suc place) (of_clients notes)) })
    (operation_at section place request notes)
begun_is section who place request notes same =
    subst
    (λ (w : Actor). ◌≡◌ {A = Operation}
    (record { client = client_of w; request = request; began = place; answer = answer_to (client_of w) (placed (suc place) (of_clients notes)) })
    (operation_at section place request notes))
    (sym (same_actor section who same))
    (ap (λ a. record { client = client_of section; request = request; began = place; answer = a }) (first_is section (suc place) notes))

-- the operations of the section's client are those of the section
pub queue_is : (section : Actor) (place : ℕ) (notes : List Noted)
    → filter (λ x. eqb x.client (client_of section)) (operations_in (placed place (of_clients notes))) ≡ queue section place notes
queue_is section place [] = refl
queue_is section place ((who, note.Begin request) ∷ notes) =
    rw (same_client section who, queue_is section (suc place) notes) (by (is_same_section section who) refl)
  where
    by : (b : Bool) → is_same_section section who ≡ b
        → cond b
        (record { client = client_of who; request = request; began = place; answer = answer_to (client_of who) (placed (suc place) (of_clients notes)) }
        ∷ queue section (suc place) notes)
        (queue section (suc place) notes)
        ≡ cond b
        (operation_at section place request notes ∷ queue section (suc place) notes)
        (queue section (suc place) notes)
    by true e = ap (λ (x : Operation). x ∷ queue section (suc place) notes) (begun_is section who place request notes e)
    by false e = refl
queue_is section place ((who, note.Reply reply) ∷ notes) = queue_is section (suc place) notes

-- each operation is one of a section
pub queues_hold_all : (place : ℕ) (notes : List Noted) → length (operations_in (placed place (of_clients notes)))
    ≡ length (queue actor.P place notes) + (length (queue actor.A place notes) + length (queue actor.B place notes))
queues_hold_all place [] = refl
queues_hold_all place ((actor.P, note.Begin request) ∷ notes) = let h = queues_hold_all (suc place) notes in omega arith
queues_hold_all place ((actor.A, note.Begin request) ∷ notes) = let h = queues_hold_all (suc place) notes in omega arith
queues_hold_all place ((actor.B, note.Begin request) ∷ notes) = let h = queues_hold_all (suc place) notes in omega arith
queues_hold_all place ((who, note.Reply reply) ∷ notes) = queues_hold_all (suc place) notes

-- ---- one request at a time

-- the section begins a request only if it waits for no reply, and gets one only if it waits
abbrev pub takes_turns : Actor → Bool → List Noted → Bool
takes_turns section waits [] = true
takes_turns section waits ((who, note.Begin request) ∷ notes) =
    cond (is_same_section section who) (not waits && takes_turns section true notes) (takes_turns section waits notes)
takes_turns section waits ((who, note.Reply reply) ∷ notes) =
    cond (is_same_section section who) (waits && takes_turns section false notes) (takes_turns section waits notes)

pub in_turn : (section : Actor) (waits : Waiting) (notes : List Noted) → are_in_order waits (of_clients notes) ≡ true
    → takes_turns section (waits (client_of section)) notes ≡ true
in_turn section waits [] ordered = refl
in_turn section waits ((who, note.Begin request) ∷ notes) ordered =
    let parts = and_parts (not (waits (client_of who))) (are_in_order (with_waiting waits (client_of who) true) (of_clients notes)) ordered in
    by (is_same_section section who) refl parts.0
    (subst (λ (b : Bool). takes_turns section (cond b true (waits (client_of section))) notes ≡ true) (client_same section who)
    (in_turn section (with_waiting waits (client_of who) true) notes parts.1))
  where
    by : (b : Bool) → is_same_section section who ≡ b → not (waits (client_of who)) ≡ true
        → takes_turns section (cond b true (waits (client_of section))) notes ≡ true
        → cond b (not (waits (client_of section)) && takes_turns section true notes) (takes_turns section (waits (client_of section)) notes) ≡ true
    by true e free rest =
        and_from (not (waits (client_of section))) (takes_turns section true notes)
        (subst (λ (w : Actor). not (waits (client_of w)) ≡ true) (same_actor section who e) free) rest
    by false e free rest = rest
in_turn section waits ((who, note.Reply reply) ∷ notes) ordered =
    let parts = and_parts (waits (client_of who)) (are_in_order (with_waiting waits (client_of who) false) (of_clients notes)) ordered in
    by (is_same_section section who) refl parts.0
    (subst (λ (b : Bool). takes_turns section (cond b false (waits (client_of section))) notes ≡ true) (client_same section who)
    (in_turn section (with_waiting waits (client_of who) false) notes parts.1))
  where
    by : (b : Bool) → is_same_section section who ≡ b → waits (client_of who) ≡ true
        → takes_turns section (cond b false (waits (client_of section))) notes ≡ true
        → cond b (waits (client_of section) && takes_turns section false notes) (takes_turns section (waits (client_of section)) notes) ≡ true
    by true e asked rest =
        and_from (waits (client_of section)) (takes_turns section false notes)
        (subst (λ (w : Actor). waits (client_of w) ≡ true) (same_actor section who e) asked) rest
    by false e asked rest = rest

-- ---- each operation of a section

-- it is its client's
pub of_section : (section : Actor) (place : ℕ) (notes : List Noted) (x : Operation) → IsIn x (queue section place notes) → x.client ≡ client_of section
of_section section place [] x h = absurd h
of_section section place ((who, note.Begin request) ∷ notes) x h =
    by (is_same_section section who) h (of_section section (suc place) notes x)
  where
    by : (b : Bool)
        → IsIn x
        (cond b
        (operation_at section place request notes ∷ queue section (suc place) notes)
        (queue section (suc place) notes))
        → (IsIn x (queue section (suc place) notes) → x.client ≡ client_of section) → x.client ≡ client_of section
    by true (inl same) rest = ap (λ (y : Operation). y.client) same
    by true (inr more) rest = rest more
    by false more rest = rest more
of_section section place ((who, note.Reply reply) ∷ notes) x h = of_section section (suc place) notes x h

-- it began at one of these places
pub began_later : (section : Actor) (place : ℕ) (notes : List Noted) (x : Operation) → IsIn x (queue section place notes) → place ≤ x.began
began_later section place [] x h = absurd h
began_later section place ((who, note.Begin request) ∷ notes) x h =
    by (is_same_section section who) h (began_later section (suc place) notes x)
  where
    by : (b : Bool)
        → IsIn x
        (cond b
        (operation_at section place request notes ∷ queue section (suc place) notes)
        (queue section (suc place) notes))
        → (IsIn x (queue section (suc place) notes) → suc place ≤ x.began) → place ≤ x.began
    by true (inl same) rest = let e : x.began ≡ place = ap (λ (y : Operation). y.began) same in omega arith
    by true (inr more) rest = let l = rest more in omega arith
    by false more rest = let l = rest more in omega arith
began_later section place ((who, note.Reply reply) ∷ notes) x h = let l = began_later section (suc place) notes x h in omega arith

-- a reply comes at one of these places
pub came_later : (section : Actor) (from place : ℕ) (notes : List Noted) → from ≤ place → CameNoEarlier (first_reply section place notes) from
came_later section from place [] le = tt
came_later section from place ((who, note.Begin request) ∷ notes) le = came_later section from (suc place) notes (omega arith)
came_later section from place ((who, note.Reply reply) ∷ notes) le =
    by (is_same_section section who) (came_later section from (suc place) notes (omega arith))
  where
    by : (b : Bool) → CameNoEarlier (first_reply section (suc place) notes) from
        → CameNoEarlier (cond b (Some (record { time = place; reply = reply })) (first_reply section (suc place) notes)) from
    by true rest = le
    by false rest = rest

-- it was answered no earlier than it began
pub after_itself : (section : Actor) (place : ℕ) (notes : List Noted) (x : Operation) → IsIn x (queue section place notes) → CameNoEarlier x.answer x.began
after_itself section place [] x h = absurd h
after_itself section place ((who, note.Begin request) ∷ notes) x h =
    by (is_same_section section who) h (after_itself section (suc place) notes x)
  where
    by : (b : Bool)
        → IsIn x
        (cond b
        (operation_at section place request notes ∷ queue section (suc place) notes)
        (queue section (suc place) notes))
        → (IsIn x (queue section (suc place) notes) → CameNoEarlier x.answer x.began) → CameNoEarlier x.answer x.began
    by true (inl same) rest =
        subst (λ (y : Operation). CameNoEarlier y.answer y.began) (sym same) (came_later section place (suc place) notes (omega arith))
    by true (inr more) rest = rest more
    by false more rest = rest more
after_itself section place ((who, note.Reply reply) ∷ notes) x h = after_itself section (suc place) notes x h

-- each operation is of one of the three clients
low : (who : Actor) → client_of who < 3
low actor.P = omega arith
low actor.A = omega arith
low actor.B = omega arith

pub low_clients : (place : ℕ) (notes : List Noted) (x : Operation) → IsIn x (operations_in (placed place (of_clients notes))) → x.client < 3
low_clients place [] x h = absurd h
low_clients place ((who, note.Begin request) ∷ notes) x (inl same) = subst (λ (y : Operation). y.client < 3) (sym same) (low who)
low_clients place ((who, note.Begin request) ∷ notes) x (inr more) = low_clients (suc place) notes x more
low_clients place ((who, note.Reply reply) ∷ notes) x h = low_clients (suc place) notes x h
