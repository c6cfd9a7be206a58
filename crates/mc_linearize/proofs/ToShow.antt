-- A number that is shown later of what is there: it was not shown, what is there has no mark, and a reply shows it.
use Rattle.std.proofs.Common.{◌≡◌, ◌||◌, ℕ, Bool, true, false, Option, Some, None, List, [], ◌∷◌, length, refl, ap, subst, sym, ◌∙◌}
use Rattle.mc_protocol.specs.declared.reply.Reply.{Reply}
use Rattle.mc_model.specs.Act.{Change, Keeps, Puts, Removes}
use Rattle.mc_timeline.specs.Timelines.{ClientNote}
use Rattle.mc_timeline.specs.{Operations.Operation, Explanations.received}
use Rattle.mc_linearize.specs.declared.numbering.Step.{Step}
use Rattle.mc_linearize.specs.Held.{Held, effect_on, held_after, is_unmarked, marked, new_mark, shows, was_shown}
use Rattle.mc_linearize.specs.Ways.{IsWay, is_noted, makes_version, operation_makes, shown_later}
use Rattle.mc_linearize.specs.{Points.Point, Standing.AreQueues}
use Rattle.mc_linearize.proofs.Advancing.{Advances, advances, operation_noted}
use Rattle.mc_linearize.proofs.Following.{gets_mark, unmarked_before}

pub neither : (a b : Bool) → (a || b) ≡ false → a ≡ false
neither true b q = absurd (cc)
neither false b q = refl

module _ (notes : List ClientNote) (all : List (List Operation)) (queues : AreQueues notes all) where
  -- a number that is shown later of what is there: it was not shown, what is there has no mark, and a reply shows it
  pub record IsToShow (p : Point) (n : ℕ) : Type 0 where
    pub unshown : was_shown all p.counts n ≡ false
    pub unmarked : is_unmarked p.held ≡ true
    pub noted : is_noted notes n ≡ true

  pub to_show : (steps : List Step) (p : Point) (n : ℕ) → length p.counts ≡ length all → IsWay all p (Some n) steps → IsToShow p n
  to_show [] p n counted w = absurd (let none = w.0 in cc)
  to_show (s ∷ steps) p n counted w = by (new_mark got p.held) refl (operation_makes x s.choice p.held) refl w.shown_is (to_show steps)
    where
      x : Operation
      x = w.moves.operation

      got : Option Reply
      got = received x.answer

      a : Advances notes all p w.next x w.moves.left
      a = advances notes all p w.next s.client s.choice queues counted w.moves

      at_key : Change → Option Held
      at_key change = held_after change (marked got p.held)

      unmarked_by : (change : Change) → makes_version change ≡ false → new_mark got p.held ≡ None → is_unmarked (at_key change) ≡ true
          → is_unmarked p.held ≡ true
      unmarked_by Keeps quiet none u = unmarked_before got p.held none u
      unmarked_by (Puts item) quiet none u = absurd (cc)
      unmarked_by Removes quiet none u = absurd (cc)

      by : (mark : Option ℕ) → new_mark got p.held ≡ mark → (makes : Bool) → operation_makes x s.choice p.held ≡ makes
          → Some n ≡ shown_later mark makes w.later
          → ((q : Point) (m : ℕ) → length q.counts ≡ length all → IsWay all q (Some m) steps → IsToShow q m) → IsToShow p n
      by (Some k) e makes f g rest =
          let same : k ≡ n = cc in
          let m = gets_mark got p.held n (e ∙ ap (λ j. Some j) same) in
          record {
            unshown = w.moves.unshown n (e ∙ ap (λ j. Some j) same);
            unmarked = m.unmarked;
            noted = operation_noted notes x n a.there m.shows;
          }
      by None e true f g rest = absurd (cc)
      by None e false f g rest =
          let c = rest w.next n a.counted (subst (λ o. IsWay all w.next o steps) (sym g) w.others) in
          record {
            unshown = neither (was_shown all p.counts n) (shows n x) (sym (a.shown n) ∙ c.unshown);
            unmarked = unmarked_by (effect_on x.request.verb x.request s.choice (marked got p.held)).change f e
                (subst (λ (r : Point). is_unmarked r.held ≡ true) w.moves.after c.unmarked);
            noted = c.noted;
          }
