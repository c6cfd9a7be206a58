-- The orders that a history allows are the linearizations of the timeline of the same notes.
use Rattle.std.proofs.Common.{◌≡◌, ◌↔◌, true, Some, List, [], ◌∷◌, map, refl, subst, sym}
use Rattle.mc_protocol.specs.declared.actor.Actor.TheVariants as actor
use Rattle.mc_model.specs.Notes.{Noted, is_record, with_notes}
use Rattle.mc_history.specs.Turns.{Turn}
use Rattle.mc_claims.specs.{Orders.IsAllowed, Walk.all_left}
use Rattle.mc_claims.proofs.Recorded.{IsAllowedFrom, allowed_from_start, start_allowed}
use Rattle.mc_timeline.specs.{Operations.Operation, Operations.IsLinearization, Queues.WalksByNext, Queues.queues_of, Timelines.operations_of}
use Rattle.mc_timeline.proofs.{Queues.are_walked, TimelineOrder.are_ordered}
use Rattle.mc_timeline_of.specs.SameNotes.{of_clients}
use Rattle.mc_timeline_of.proofs.{ClientQueues.low_clients, ClientQueues.queue, ClientQueues.queue_is, SectionQueues.sent_is, Keeping.are_timelines}
use Rattle.mc_timeline_of.proofs.{NextActs.in_its_turn, Acting.turn_of, Acting.left_at, Acting.queues_at, Acting.Stands, Acting.to_walk, Acting.from_walk}

module _ (notes : List Noted) (is_history : is_record notes ≡ true) where
  abbrev told : List Operation
  told = operations_of (of_clients notes)

  start_is : left_at notes is_history (queue actor.P 0 notes) (queue actor.A 0 notes) (queue actor.B 0 notes) 0 0 ≡ all_left (with_notes notes)
  start_is = λ i. record {
    notes = Some notes;
    sections = record {
      p = sent_is actor.P notes (in_its_turn notes is_history actor.P) i;
      a = sent_is actor.A notes (in_its_turn notes is_history actor.A) i;
      b = sent_is actor.B notes (in_its_turn notes is_history actor.B) i;
    };
    acted_a = 0;
    acted_b = 0;
  }

  at_start : Stands notes is_history (queue actor.P 0 notes) (queue actor.A 0 notes) (queue actor.B 0 notes) 0 0
  at_start = record {
    acted_p = 0;
    of_p = record { acted = []; all = refl; is = refl };
    of_a = record { acted = []; all = refl; is = refl };
    of_b = record { acted = []; all = refl; is = refl };
  }

  queues_are : queues_of 3 told ≡ queues_at notes is_history (queue actor.P 0 notes) (queue actor.A 0 notes) (queue actor.B 0 notes)
  queues_are = λ i. queue_is actor.B 0 notes i ∷ queue_is actor.A 0 notes i ∷ queue_is actor.P 0 notes i ∷ []

  walked : (order : List Operation)
      → IsLinearization told order ↔ WalksByNext (queues_at notes is_history (queue actor.P 0 notes) (queue actor.A 0 notes) (queue actor.B 0 notes)) order
  walked order =
      subst (λ q. IsLinearization told order ↔ WalksByNext q order) queues_are
      (are_walked (of_clients notes) 3 order (are_ordered (of_clients notes) (are_timelines notes is_history)) (low_clients 0 notes))

  pub record Linearized (turns : List Turn) : Type 0 where
    pub order : List Operation
    pub told : map turn_of order ≡ turns
    pub linear : IsLinearization (operations_of (of_clients notes)) order

  -- an order that the history allows is a linearization
  pub linearized : (turns : List Turn) → IsAllowed (with_notes notes) turns → Linearized turns
  linearized turns allowed =
      let w = to_walk notes is_history turns (queue actor.P 0 notes) (queue actor.A 0 notes) (queue actor.B 0 notes) 0 0 at_start
      (subst (λ l. IsAllowedFrom l turns) (sym start_is) (allowed_from_start (with_notes notes) turns allowed)) in
      record { order = w.order; told = w.told; linear = (walked w.order).1 w.walks }

  -- and the other way round
  pub is_allowed : (order : List Operation) → IsLinearization (operations_of (of_clients notes)) order → IsAllowed (with_notes notes) (map turn_of order)
  is_allowed order linear =
      start_allowed (with_notes notes) (map turn_of order)
      (subst (λ l. IsAllowedFrom l (map turn_of order)) start_is
      (from_walk notes is_history order (queue actor.P 0 notes) (queue actor.A 0 notes) (queue actor.B 0 notes) 0 0 at_start ((walked order).0 linear)))
