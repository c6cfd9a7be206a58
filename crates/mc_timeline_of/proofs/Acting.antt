-- What may act next in a history comes next in its timeline: from what is left, the turns that are allowed are the operations that
-- are walked.
use Rattle.std.proofs.Common.{◌≡◌, ◌+◌, inl, inr, ℕ, nat_le, true, false, ◌&&◌, Some}
use Rattle.std.proofs.Common.{List, [], ◌∷◌, ◌++◌, append_assoc, map, length, length-append, refl, ap, ap₂, subst, sym, ◌∙◌, arith}
use Rattle.std.proofs.lemmas.Bool.{and_parts, and_from}
use Rattle.mc_protocol.specs.declared.actor.Actor.{Actor}
use Rattle.mc_protocol.specs.declared.actor.Actor.TheVariants as actor
use Rattle.mc_protocol.proofs.FirstItems.{head_is, rest_is}
use Rattle.mc_model.specs.{declared.sent.Sent.Sent, Notes.Noted, Notes.answered_before, Notes.is_record, Sections.Sections}
use Rattle.mc_model.proofs.NoteFaults.{record_parts}
use Rattle.mc_history.specs.Turns.{Turn}
use Rattle.mc_claims.specs.Walk.{Left, first_of, left_after, may_end, next_at}
use Rattle.mc_claims.proofs.Recorded.{IsAllowedFrom, allowed_end, allowed_more, begins_allowed, end_allowed, next_parts}
use Rattle.mc_claims.proofs.Orders.{met}
use Rattle.mc_timeline.specs.Queues.{Queues, NoNextCameBefore, WalksByNext}
use Rattle.mc_timeline.specs.{Members.IsIn, Operations.Operation, Rules.sent_of, Walks.CameNoEarlier}
use Rattle.mc_timeline.proofs.Members.{among_back}
use Rattle.mc_timeline_of.proofs.ClientQueues.{section_by, section_is, queue, of_section, after_itself}
use Rattle.mc_timeline_of.proofs.NextActs.{NextLast, more_last, first_last, no_answer, more_end, first_end, later_too, over_and_later, lets, p_answered}
use Rattle.mc_timeline_of.proofs.{Leading.IsOfBranch, Leading.prefix_leads, Leading.comes_first, Tests.answered_in}

-- ---- operations and turns

abbrev pub turn_of : Operation → Turn
turn_of x = (section_by x.client, sent_of x)

some_is : (x y : Sent × Left) → Some x ≡ Some y → x ≡ y
some_is x y e = cc

both_are : (m n : Sent × Sections) → Some m ≡ Some n → (m.0 ≡ n.0) × (m.1 ≡ n.1)
both_are m n e = let same : m ≡ n = cc in (ap (λ (o : Sent × Sections). o.0) same, ap (λ (o : Sent × Sections). o.1) same)

module _ (notes : List Noted) (is_history : is_record notes ≡ true) where
  -- ---- where sections and clients stand

  abbrev pub left_at : List Operation → List Operation → List Operation → ℕ → ℕ → Left
  left_at p a b acted_a acted_b = record {
    notes = Some notes;
    sections = record { p = map sent_of p; a = map sent_of a; b = map sent_of b };
    acted_a = acted_a;
    acted_b = acted_b;
  }

  abbrev pub queues_at : List Operation → List Operation → List Operation → Queues
  queues_at p a b = b ∷ a ∷ p ∷ []

  -- these are left of the section, when so many acted
  pub record IsLeft (section : Actor) (left : List Operation) (count : ℕ) : Type 0 where
    pub acted : List Operation
    pub all : queue section 0 notes ≡ acted ++ left
    pub is : count ≡ length acted

  one_less : (section : Actor) (x : Operation) (left : List Operation) (count : ℕ) → IsLeft section (x ∷ left) count → IsLeft section left (count + 1)
  one_less section x left count l =
      let is = l.is in
      let long = length-append l.acted (x ∷ []) in
      record { acted = l.acted ++ x ∷ []; all = l.all ∙ sym (append_assoc l.acted (x ∷ []) left); is = omega arith }

  there : (section : Actor) (x : Operation) (left : List Operation) (count : ℕ) → IsLeft section (x ∷ left) count → IsIn x (queue section 0 notes)
  there section x left count l = subst (IsIn x) (sym l.all) (among_back x l.acted (x ∷ left) (inl refl))

  its_turn : (section : Actor) (x : Operation) (left : List Operation) (count : ℕ) → IsLeft section (x ∷ left) count → turn_of x ≡ (section, sent_of x)
  its_turn section x left count l =
      ap (λ k. (k, sent_of x)) (ap section_by (of_section section 0 notes x (there section x left count l)) ∙ section_is section)

  itself_last : (section : Actor) (x : Operation) (left : List Operation) (count : ℕ) → IsLeft section (x ∷ left) count → CameNoEarlier x.answer x.began
  itself_last section x left count l = after_itself section 0 notes x (there section x left count l)

  pub record Stands (p a b : List Operation) (acted_a acted_b : ℕ) : Type 0 where
    pub acted_p : ℕ
    pub of_p : IsLeft actor.P p acted_p
    pub of_a : IsLeft actor.A a acted_a
    pub of_b : IsLeft actor.B b acted_b

  -- what is left of P was answered before an operation of a branch began: then it acted first
  p_waits : (x y : Operation) (p : List Operation) (count : ℕ) → IsLeft actor.P (x ∷ p) count → IsOfBranch 0 notes y → CameNoEarlier x.answer y.began → ⊥
  p_waits x y p count l h later =
      let here = there actor.P x p count l in
      over_and_later x.answer y.began (answered_in (queue actor.P 0 notes) x (p_answered notes is_history y h) here)
      ((comes_first false 0 notes y (prefix_leads notes (record_parts notes is_history).0) h).over x here) later

  -- the next of a branch was answered after each operation of P began
  branch_last : (x : Operation) → IsIn x (queue actor.P 0 notes) → (section : Actor) (left : List Operation) (count : ℕ) → IsLeft section left count
      → ((y : Operation) → IsIn y (queue section 0 notes) → IsOfBranch 0 notes y) → NextLast x.began left
  branch_last x here section [] count l of_branch = tt
  branch_last x here section (y ∷ left) count l of_branch =
      let first = comes_first false 0 notes y (prefix_leads notes (record_parts notes is_history).0) (of_branch y (there section y left count l)) in
      let began = first.began x here in
      later_too y.answer x.began y.began (omega arith) (itself_last section y left count l)

  p_last : (x : Operation) (p a b : List Operation) (acted_a acted_b : ℕ) → Stands (x ∷ p) a b acted_a acted_b
      → NoNextCameBefore x.began (queues_at (x ∷ p) a b)
  p_last x p a b acted_a acted_b s =
      let here = there actor.P x p s.acted_p s.of_p in
      more_last x.began b (a ∷ (x ∷ p) ∷ []) (branch_last x here actor.B b acted_b s.of_b (λ y h. inr h))
      (more_last x.began a ((x ∷ p) ∷ []) (branch_last x here actor.A a acted_a s.of_a (λ y h. inl h)) (itself_last actor.P x p s.acted_p s.of_p, tt))

  -- ---- from turns to operations

  pub record Walked (turns : List Turn) (queues : Queues) : Type 0 where
    pub order : List Operation
    pub told : map turn_of order ≡ turns
    pub walks : WalksByNext queues order

  -- P's next acts
  walk_p : (sent : Sent) (turns : List Turn) (p a b : List Operation) (acted_a acted_b : ℕ) → Stands p a b acted_a acted_b
      → (rest : Left) → next_at actor.P (left_at p a b acted_a acted_b) ≡ Some (sent, rest) → IsAllowedFrom rest turns
      → ((p a b : List Operation) (acted_a acted_b : ℕ) → Stands p a b acted_a acted_b → IsAllowedFrom (left_at p a b acted_a acted_b) turns
      → Walked turns (queues_at p a b))
      → Walked ((actor.P, sent) ∷ turns) (queues_at p a b)
  walk_p sent turns [] a b acted_a acted_b s rest next allowed others = absurd (cc)
  walk_p sent turns (x ∷ p) a b acted_a acted_b s rest next allowed others =
      let e = some_is (sent_of x, left_at p a b acted_a acted_b) (sent, rest) next in
      let w = others p a b acted_a acted_b
      (record { acted_p = s.acted_p + 1; of_p = one_less actor.P x p s.acted_p s.of_p; of_a = s.of_a; of_b = s.of_b })
      (subst (λ l. IsAllowedFrom l turns) (sym (ap (λ n. n.1) e)) allowed) in
      record {
        order = x ∷ w.order;
        told = ap₂ (λ t ts. t ∷ ts) (its_turn actor.P x p s.acted_p s.of_p ∙ ap (λ n. (actor.P, n.0)) e) w.told;
        walks = (b ∷ a ∷ [], p, [], refl, p_last x p a b acted_a acted_b s, w.walks);
      }

  -- P may not end before an answered request
  p_ends : (y : Operation) → IsOfBranch 0 notes y → (p : List Operation) (count : ℕ) → IsLeft actor.P p count → may_end (map sent_of p) ≡ true → p ≡ []
  p_ends y h [] count l e = refl
  p_ends y h (x ∷ []) count l e =
      let some = answered_in (queue actor.P 0 notes) x (p_answered notes is_history y h) (there actor.P x [] count l) in
      let none = no_answer x.answer e in
      absurd (cc)
  p_ends y h (x ∷ z ∷ p) count l e = absurd (cc)

  -- A's next acts
  walk_a : (sent : Sent) (turns : List Turn) (p a b : List Operation) (acted_a acted_b : ℕ) → Stands p a b acted_a acted_b
      → (rest : Left) → next_at actor.A (left_at p a b acted_a acted_b) ≡ Some (sent, rest) → IsAllowedFrom rest turns
      → ((p a b : List Operation) (acted_a acted_b : ℕ) → Stands p a b acted_a acted_b → IsAllowedFrom (left_at p a b acted_a acted_b) turns
      → Walked turns (queues_at p a b))
      → Walked ((actor.A, sent) ∷ turns) (queues_at p a b)
  walk_a sent turns p a b acted_a acted_b s rest next allowed others =
      let (may, (left, at, is)) = next_parts actor.A (left_at p a b acted_a acted_b) (sent, rest) next in
      let m = met (may_end (map sent_of p)) (first_of (map sent_of a) (λ l. record { p = []; a = l; b = map sent_of b })) (sent, left) at in
      by a s may m.0 m.1 (subst (λ l. IsAllowedFrom l turns) is allowed)
    where
      by : (a : List Operation) → Stands p a b acted_a acted_b → nat_le (answered_before (Some notes) actor.A acted_a) acted_b ≡ true
          → may_end (map sent_of p) ≡ true
          → {left : Sections} → first_of (map sent_of a) (λ l. record { p = []; a = l; b = map sent_of b }) ≡ Some (sent, left)
          → IsAllowedFrom (left_after (left_at p a b acted_a acted_b) actor.A left) turns → Walked ((actor.A, sent) ∷ turns) (queues_at p a b)
      by [] s may ends at allowed = absurd (cc)
      by (x ∷ a) s may ends {left} at allowed =
          let e = both_are (sent_of x, record { p = []; a = map sent_of a; b = map sent_of b }) (sent, left) at in
          let here = there actor.A x a acted_a s.of_a in
          let none = p_ends x (inl here) p s.acted_p s.of_p ends in
          let stands : Stands [] a b (acted_a + 1) acted_b = record {
            acted_p = s.acted_p;
            of_p = subst (λ l. IsLeft actor.P l s.acted_p) none s.of_p;
            of_a = one_less actor.A x a acted_a s.of_a;
            of_b = s.of_b;
          } in
          let w = others [] a b (acted_a + 1) acted_b stands
          (subst (λ l. IsAllowedFrom (left_after (left_at p (x ∷ a) b acted_a acted_b) actor.A l) turns) (sym e.1) allowed) in
          let next_of_b = (lets notes is_history actor.B actor.A refl refl s.of_a.acted x a acted_a s.of_a.all s.of_a.is
          s.of_b.acted b acted_b s.of_b.all s.of_b.is).0 may in
          record {
            order = x ∷ w.order;
            told = ap₂ (λ t ts. t ∷ ts) (its_turn actor.A x a acted_a s.of_a ∙ ap (λ n. (actor.A, n)) e.0) w.told;
            walks = (
              b ∷ [],
              a,
              p ∷ [],
              refl,
              more_last x.began b ((x ∷ a) ∷ p ∷ []) next_of_b
                  (itself_last actor.A x a acted_a s.of_a, more_last x.began p [] (subst (NextLast x.began) (sym none) tt) tt),
              subst (λ l. WalksByNext (b ∷ a ∷ l ∷ []) w.order) (sym none) w.walks,
            );
          }

  -- B's next acts
  walk_b : (sent : Sent) (turns : List Turn) (p a b : List Operation) (acted_a acted_b : ℕ) → Stands p a b acted_a acted_b
      → (rest : Left) → next_at actor.B (left_at p a b acted_a acted_b) ≡ Some (sent, rest) → IsAllowedFrom rest turns
      → ((p a b : List Operation) (acted_a acted_b : ℕ) → Stands p a b acted_a acted_b → IsAllowedFrom (left_at p a b acted_a acted_b) turns
      → Walked turns (queues_at p a b))
      → Walked ((actor.B, sent) ∷ turns) (queues_at p a b)
  walk_b sent turns p a b acted_a acted_b s rest next allowed others =
      let (may, (left, at, is)) = next_parts actor.B (left_at p a b acted_a acted_b) (sent, rest) next in
      let m = met (may_end (map sent_of p)) (first_of (map sent_of b) (λ l. record { p = []; a = map sent_of a; b = l })) (sent, left) at in
      by b s may m.0 m.1 (subst (λ l. IsAllowedFrom l turns) is allowed)
    where
      by : (b : List Operation) → Stands p a b acted_a acted_b → nat_le (answered_before (Some notes) actor.B acted_b) acted_a ≡ true
          → may_end (map sent_of p) ≡ true
          → {left : Sections} → first_of (map sent_of b) (λ l. record { p = []; a = map sent_of a; b = l }) ≡ Some (sent, left)
          → IsAllowedFrom (left_after (left_at p a b acted_a acted_b) actor.B left) turns → Walked ((actor.B, sent) ∷ turns) (queues_at p a b)
      by [] s may ends at allowed = absurd (cc)
      by (x ∷ b) s may ends {left} at allowed =
          let e = both_are (sent_of x, record { p = []; a = map sent_of a; b = map sent_of b }) (sent, left) at in
          let here = there actor.B x b acted_b s.of_b in
          let none = p_ends x (inr here) p s.acted_p s.of_p ends in
          let stands : Stands [] a b acted_a (acted_b + 1) = record {
            acted_p = s.acted_p;
            of_p = subst (λ l. IsLeft actor.P l s.acted_p) none s.of_p;
            of_a = s.of_a;
            of_b = one_less actor.B x b acted_b s.of_b;
          } in
          let w = others [] a b acted_a (acted_b + 1) stands
          (subst (λ l. IsAllowedFrom (left_after (left_at p a (x ∷ b) acted_a acted_b) actor.B l) turns) (sym e.1) allowed) in
          let next_of_a = (lets notes is_history actor.A actor.B refl refl s.of_b.acted x b acted_b s.of_b.all s.of_b.is
          s.of_a.acted a acted_a s.of_a.all s.of_a.is).0 may in
          record {
            order = x ∷ w.order;
            told = ap₂ (λ t ts. t ∷ ts) (its_turn actor.B x b acted_b s.of_b ∙ ap (λ n. (actor.B, n)) e.0) w.told;
            walks = (
              [],
              b,
              a ∷ p ∷ [],
              refl,
              (
                itself_last actor.B x b acted_b s.of_b,
                more_last x.began a (p ∷ []) next_of_a (more_last x.began p [] (subst (NextLast x.began) (sym none) tt) tt),
              ),
              subst (λ l. WalksByNext (b ∷ a ∷ l ∷ []) w.order) (sym none) w.walks,
            );
          }

  pub to_walk : (turns : List Turn) (p a b : List Operation) (acted_a acted_b : ℕ) → Stands p a b acted_a acted_b
      → IsAllowedFrom (left_at p a b acted_a acted_b) turns → Walked turns (queues_at p a b)
  to_walk [] p a b acted_a acted_b s allowed =
      let ends = end_allowed (left_at p a b acted_a acted_b) allowed in
      let both = and_parts (may_end (map sent_of p) && may_end (map sent_of a)) (may_end (map sent_of b)) ends in
      let first = and_parts (may_end (map sent_of p)) (may_end (map sent_of a)) both.0 in
      record { order = []; told = refl; walks = more_end b (a ∷ p ∷ []) both.1 (more_end a (p ∷ []) first.1 (more_end p [] first.0 tt)) }
  to_walk ((actor.P, sent) ∷ turns) p a b acted_a acted_b s allowed =
      let (rest, next, more) = begins_allowed (left_at p a b acted_a acted_b) (actor.P, sent) turns allowed in
      walk_p sent turns p a b acted_a acted_b s rest next more (λ p a b n m s l. to_walk turns p a b n m s l)
  to_walk ((actor.A, sent) ∷ turns) p a b acted_a acted_b s allowed =
      let (rest, next, more) = begins_allowed (left_at p a b acted_a acted_b) (actor.A, sent) turns allowed in
      walk_a sent turns p a b acted_a acted_b s rest next more (λ p a b n m s l. to_walk turns p a b n m s l)
  to_walk ((actor.B, sent) ∷ turns) p a b acted_a acted_b s allowed =
      let (rest, next, more) = begins_allowed (left_at p a b acted_a acted_b) (actor.B, sent) turns allowed in
      walk_b sent turns p a b acted_a acted_b s rest next more (λ p a b n m s l. to_walk turns p a b n m s l)

  -- ---- from operations to turns

  abbrev pub Allowed : List Operation → List Operation → List Operation → ℕ → ℕ → List Operation → Type 0
  Allowed p a b acted_a acted_b order = IsAllowedFrom (left_at p a b acted_a acted_b) (map turn_of order)

  abbrev Others : List Operation → Type 0
  Others order =
      (p a b : List Operation) (acted_a acted_b : ℕ) → Stands p a b acted_a acted_b → WalksByNext (queues_at p a b) order → Allowed p a b acted_a acted_b order

  by_turn : (section : Actor) (x : Operation) (left : List Operation) (count : ℕ) → IsLeft section (x ∷ left) count → (l : Left) (turns : List Turn)
      → IsAllowedFrom l ((section, sent_of x) ∷ turns) → IsAllowedFrom l (turn_of x ∷ turns)
  by_turn section x left count is l turns allowed = subst (λ t. IsAllowedFrom l (t ∷ turns)) (sym (its_turn section x left count is)) allowed

  act_p : (x : Operation) (order p a b : List Operation) (acted_a acted_b : ℕ) → Stands (x ∷ p) a b acted_a acted_b → Others order
      → WalksByNext (queues_at p a b) order → Allowed (x ∷ p) a b acted_a acted_b (x ∷ order)
  act_p x order p a b acted_a acted_b s others w =
      by_turn actor.P x p s.acted_p s.of_p (left_at (x ∷ p) a b acted_a acted_b) (map turn_of order)
      (allowed_more actor.P (left_at (x ∷ p) a b acted_a acted_b) (sent_of x, left_at p a b acted_a acted_b) (map turn_of order) refl
      (others p a b acted_a acted_b
      (record { acted_p = s.acted_p + 1; of_p = one_less actor.P x p s.acted_p s.of_p; of_a = s.of_a; of_b = s.of_b }) w))

  act_a : (x : Operation) (order p a b : List Operation) (acted_a acted_b : ℕ) → Stands p (x ∷ a) b acted_a acted_b
      → NoNextCameBefore x.began (queues_at p (x ∷ a) b) → Others order → WalksByNext (queues_at p a b) order
      → Allowed p (x ∷ a) b acted_a acted_b (x ∷ order)
  act_a x order (z ∷ p) a b acted_a acted_b s last others w =
      let after_b = first_last x.began b ((x ∷ a) ∷ (z ∷ p) ∷ []) last in
      absurd (p_waits z x p s.acted_p s.of_p (inl (there actor.A x a acted_a s.of_a)) after_b.1.1.0)
  act_a x order [] a b acted_a acted_b s last others w =
      let after_b = first_last x.began b ((x ∷ a) ∷ [] ∷ []) last in
      let may = (lets notes is_history actor.B actor.A refl refl s.of_a.acted x a acted_a s.of_a.all s.of_a.is
      s.of_b.acted b acted_b s.of_b.all s.of_b.is).1 after_b.0 in
      by_turn actor.A x a acted_a s.of_a (left_at [] (x ∷ a) b acted_a acted_b) (map turn_of order)
      (allowed_more actor.A (left_at [] (x ∷ a) b acted_a acted_b) (sent_of x, left_at [] a b (acted_a + 1) acted_b) (map turn_of order) (rw may refl)
      (others [] a b (acted_a + 1) acted_b
      (record { acted_p = s.acted_p; of_p = s.of_p; of_a = one_less actor.A x a acted_a s.of_a; of_b = s.of_b }) w))

  act_b : (x : Operation) (order p a b : List Operation) (acted_a acted_b : ℕ) → Stands p a (x ∷ b) acted_a acted_b
      → NoNextCameBefore x.began (queues_at p a (x ∷ b)) → Others order → WalksByNext (queues_at p a b) order
      → Allowed p a (x ∷ b) acted_a acted_b (x ∷ order)
  act_b x order (z ∷ p) a b acted_a acted_b s last others w =
      let after_a = first_last x.began a ((z ∷ p) ∷ []) last.1 in
      absurd (p_waits z x p s.acted_p s.of_p (inr (there actor.B x b acted_b s.of_b)) after_a.1.0)
  act_b x order [] a b acted_a acted_b s last others w =
      let after_a = first_last x.began a ([] ∷ []) last.1 in
      let may = (lets notes is_history actor.A actor.B refl refl s.of_b.acted x b acted_b s.of_b.all s.of_b.is
      s.of_a.acted a acted_a s.of_a.all s.of_a.is).1 after_a.0 in
      by_turn actor.B x b acted_b s.of_b (left_at [] a (x ∷ b) acted_a acted_b) (map turn_of order)
      (allowed_more actor.B (left_at [] a (x ∷ b) acted_a acted_b) (sent_of x, left_at [] a b acted_a (acted_b + 1)) (map turn_of order) (rw may refl)
      (others [] a b acted_a (acted_b + 1)
      (record { acted_p = s.acted_p; of_p = s.of_p; of_a = s.of_a; of_b = one_less actor.B x b acted_b s.of_b }) w))

  never_empty : (front : Queues) (queue : List Operation) (back : Queues) → [] ≡ front ++ queue ∷ back → ⊥
  never_empty [] queue back e = absurd (cc)
  never_empty (first ∷ front) queue back e = absurd (cc)

  act : (x : Operation) (order p a b : List Operation) (acted_a acted_b : ℕ) → Stands p a b acted_a acted_b → NoNextCameBefore x.began (queues_at p a b)
      → Others order → (front : Queues) (rest : List Operation) (back : Queues) → queues_at p a b ≡ front ++ (x ∷ rest) ∷ back
      → WalksByNext (front ++ rest ∷ back) order → Allowed p a b acted_a acted_b (x ∷ order)
  act x order p a b acted_a acted_b s last others [] rest back e w =
      let of_b : b ≡ x ∷ rest = head_is _ _ _ _ e in
      let more : a ∷ p ∷ [] ≡ back = rest_is _ _ _ _ e in
      subst (λ l. Allowed p a l acted_a acted_b (x ∷ order)) (sym of_b)
      (act_b x order p a rest acted_a acted_b (subst (λ l. Stands p a l acted_a acted_b) of_b s)
      (subst (λ l. NoNextCameBefore x.began (queues_at p a l)) of_b last) others (subst (λ k. WalksByNext (rest ∷ k) order) (sym more) w))
  act x order p a b acted_a acted_b s last others (y ∷ []) rest back e w =
      let of_y : b ≡ y = head_is _ _ _ _ e in
      let others_are : a ∷ p ∷ [] ≡ (x ∷ rest) ∷ back = rest_is _ _ _ _ e in
      let of_a : a ≡ x ∷ rest = head_is _ _ _ _ others_are in
      let more : p ∷ [] ≡ back = rest_is _ _ _ _ others_are in
      let w' : WalksByNext (b ∷ rest ∷ p ∷ []) order =
      subst (λ l. WalksByNext (l ∷ rest ∷ p ∷ []) order) (sym of_y) (subst (λ k. WalksByNext (y ∷ rest ∷ k) order) (sym more) w) in
      subst (λ l. Allowed p l b acted_a acted_b (x ∷ order)) (sym of_a)
      (act_a x order p rest b acted_a acted_b (subst (λ l. Stands p l b acted_a acted_b) of_a s)
      (subst (λ l. NoNextCameBefore x.began (queues_at p l b)) of_a last) others w')
  act x order p a b acted_a acted_b s last others (y ∷ z ∷ []) rest back e w =
      let of_y : b ≡ y = head_is _ _ _ _ e in
      let others_are : a ∷ p ∷ [] ≡ z ∷ (x ∷ rest) ∷ back = rest_is _ _ _ _ e in
      let of_z : a ≡ z = head_is _ _ _ _ others_are in
      let last_is : p ∷ [] ≡ (x ∷ rest) ∷ back = rest_is _ _ _ _ others_are in
      let of_p : p ≡ x ∷ rest = head_is _ _ _ _ last_is in
      let more : [] ≡ back = rest_is _ _ _ _ last_is in
      let w' : WalksByNext (b ∷ a ∷ rest ∷ []) order =
      subst (λ l. WalksByNext (l ∷ a ∷ rest ∷ []) order) (sym of_y)
      (subst (λ l. WalksByNext (y ∷ l ∷ rest ∷ []) order) (sym of_z) (subst (λ k. WalksByNext (y ∷ z ∷ rest ∷ k) order) (sym more) w)) in
      subst (λ l. Allowed l a b acted_a acted_b (x ∷ order)) (sym of_p)
      (act_p x order rest a b acted_a acted_b (subst (λ l. Stands l a b acted_a acted_b) of_p s) others w')
  act x order p a b acted_a acted_b s last others (y ∷ z ∷ v ∷ front) rest back e w =
      absurd (never_empty front (x ∷ rest) back (rest_is _ _ _ _ (rest_is _ _ _ _ (rest_is _ _ _ _ e))))

  pub from_walk : (order p a b : List Operation) (acted_a acted_b : ℕ) → Stands p a b acted_a acted_b → WalksByNext (queues_at p a b) order
      → Allowed p a b acted_a acted_b order
  from_walk [] p a b acted_a acted_b s w =
      let after_b = first_end b (a ∷ p ∷ []) w in
      let after_a = first_end a (p ∷ []) after_b.1 in
      let after_p = first_end p [] after_a.1 in
      allowed_end (left_at p a b acted_a acted_b)
      (and_from (may_end (map sent_of p) && may_end (map sent_of a)) (may_end (map sent_of b))
      (and_from (may_end (map sent_of p)) (may_end (map sent_of a)) after_p.0 after_a.0) after_b.0)
  from_walk (x ∷ order) p a b acted_a acted_b s (front, rest, back, whole, last, w) =
      act x order p a b acted_a acted_b s last (λ p a b n m s w. from_walk order p a b n m s w) front rest back whole w
