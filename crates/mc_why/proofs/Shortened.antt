-- Moves that explain notes: the first of them explain the notes without the last one.
use Rattle.std.proofs.Common.{◌≡◌, ◌⊎◌, inl, inr, ℕ, zero, suc, ◌+◌, ◌≤◌, nat_le, Bool, true, false, Option, ◌&&◌, Some, None}
use Rattle.std.proofs.Common.{List, [], ◌∷◌, drop, take, length, refl, sym, ap, subst, ◌∙◌, arith, if◌then◌else◌}
use Rattle.std.proofs.lemmas.Bool.{and_parts, le-leb, leb-true}
use Rattle.std.specs.Option.{option_map}
use Rattle.mc_protocol.specs.{declared.actor.Actor.Actor, declared.reply.Reply.Reply}
use Rattle.mc_protocol.specs.declared.actor.Actor.TheVariants as actor
use Rattle.mc_model.specs.{declared.sent.Sent.Sent, Contents.Contents, Notes.Noted, Notes.answered_before, Sections.Sections}
use Rattle.mc_history.specs.declared.explanation.Move.{Move}
use Rattle.mc_claims.specs.Walk.{Left, Lets, Passes, Trial, Walks, first_of, left_after, may_all_end, may_end, next_at, step_by, trial_after}
use Rattle.mc_claims.specs.{Explains.IsReceived, Replay.Step, Replay.reply_to}
use Rattle.mc_why.proofs.Beginnings.{Begins, begins_drop, begins_may_end, drop_tail}

-- ---- the next request of a section

-- where a branch's next request may act, there is one
pub record Opened (K : Option (Sent × Left) → Type 0) (acts ended : Bool) (n : ℕ) (xs : List Sent) (rest : List Sent → Sections)
    (f : Sent × Sections → Sent × Left) : Type 0 where
  pub may : acts ≡ true
  pub ends : ended ≡ true
  pub sent : Sent
  pub there : drop n xs ≡ sent ∷ drop (n + 1) xs
  pub next : K (Some (f (sent, rest (drop (n + 1) xs))))

opened_at : (K : Option (Sent × Left) → Type 0) → (K None → ⊥) → (may ends : Bool) (n : ℕ) (xs : List Sent) (rest : List Sent → Sections)
    (f : Sent × Sections → Sent × Left) (left : List Sent) → drop n xs ≡ left
    → K (if may then option_map f (if ends then first_of left rest else None) else None) → Opened K may ends n xs rest f
opened_at K never false ends n xs rest f left e k = absurd (never k)
opened_at K never true false n xs rest f left e k = absurd (never k)
opened_at K never true true n xs rest f [] e k = absurd (never k)
opened_at K never true true n xs rest f (x ∷ others) e k =
    let tail = drop_tail n xs x others e in
    record {
      may = refl;
      ends = refl;
      sent = x;
      there = e ∙ ap (λ l. x ∷ l) (sym tail);
      next = subst (λ (l : List Sent). K (Some (f (x, rest l)))) (sym tail) k;
    }

pub opened : (K : Option (Sent × Left) → Type 0) → (K None → ⊥) → (may ends : Bool) (n : ℕ) (xs : List Sent) (rest : List Sent → Sections)
    (f : Sent × Sections → Sent × Left)
    → K (if may then option_map f (if ends then first_of (drop n xs) rest else None) else None) → Opened K may ends n xs rest f
opened K never may ends n xs rest f k = opened_at K never may ends n xs rest f (drop n xs) refl k

pub closed : (K : Option (Sent × Left) → Type 0) (may ends : Bool) (left : List Sent) (rest : List Sent → Sections) (f : Sent × Sections → Sent × Left)
    (x : Sent) (others : List Sent) → may ≡ true → ends ≡ true → left ≡ x ∷ others → K (Some (f (x, rest others)))
    → K (if may then option_map f (if ends then first_of left rest else None) else None)
closed K may ends left rest f x others may_is ends_is there k =
    subst (λ (b : Bool). K (if b then option_map f (if ends then first_of left rest else None) else None)) (sym may_is)
    (subst (λ (b : Bool). K (option_map f (if b then first_of left rest else None))) (sym ends_is)
    (subst (λ (l : List Sent). K (option_map f (first_of l rest))) (sym there) k))

-- ---- a request that acts in both

received : (y x : Option Reply) (reply : Reply) → (y ≡ x) ⊎ (y ≡ None) → IsReceived x reply → IsReceived y reply
received y x reply (inl e) r = subst (λ (o : Option Reply). IsReceived o reply) (sym e) r
received y x reply (inr e) r = subst (λ (o : Option Reply). IsReceived o reply) (sym e) tt

abbrev at : Left → List (List ℕ × ℕ) → Contents → Trial
at left used contents = record { left = left; used = used; contents = contents }

-- the request does the same, whether its reply is known or not
pub acts_alike : (before other left : Left) (used : List (List ℕ × ℕ)) (contents : Contents) (x y : Sent) (move : Move) (Then : Trial → Type 0)
    → y.request ≡ x.request → (y.reply ≡ x.reply) ⊎ (y.reply ≡ None) → Passes (at before used contents) x (step_by x move)
    → Then (trial_after (at before used contents) left (step_by x move))
    → Passes (at other used contents) y (step_by y move) × Then (trial_after (at other used contents) left (step_by y move))
acts_alike before other left used contents x y move Then same reply passes after =
    let step : step_by x move ≡ step_by y move = ap (λ q. record { request = q; choice = move.choice; number = move.number }) (sym same) in
    subst (λ (s : Step). Passes (at other used contents) y s × Then (trial_after (at other used contents) left s)) step
    ((received y.reply x.reply (reply_to contents (step_by x move)) reply passes.0, passes.1), after)

-- ---- notes and those without the last

abbrev pub left_of : List Noted → Sections → List Sent → ℕ → ℕ → Left
left_of notes s p i j = record {
  notes = Some notes;
  sections = record { p = p; a = drop i s.a; b = drop j s.b };
  acted_a = i;
  acted_b = j;
}

-- what the walk needs of the notes and of those without the last one
pub record Shortens (short long : List Noted) (s l : Sections) : Type 0 where
  pub a : Begins s.a l.a
  pub b : Begins s.b l.b
  pub fewer_a : (i : ℕ) → answered_before (Some short) actor.A i ≤ answered_before (Some long) actor.A i
  pub fewer_b : (i : ℕ) → answered_before (Some short) actor.B i ≤ answered_before (Some long) actor.B i
  pub stop_a : (i j : ℕ) (x : Sent) (others : List Sent) → drop i s.a ≡ [] → drop i l.a ≡ x ∷ others
      → answered_before (Some long) actor.A i ≤ j → may_end (drop j s.b) ≡ true
  pub stop_b : (i j : ℕ) (x : Sent) (others : List Sent) → drop j s.b ≡ [] → drop j l.b ≡ x ∷ others
      → answered_before (Some long) actor.B j ≤ i → may_end (drop i s.a) ≡ true

-- of the prefix there are as many requests, or there is nothing of a branch
abbrev pub HavePrefix : Sections → List Sent → List Sent → Type 0
HavePrefix s q p = (length q ≡ length p) ⊎ ((s.a ≡ []) × (s.b ≡ []))

fewer_may : (m n j : ℕ) → m ≤ n → nat_le n j ≡ true → nat_le m j ≡ true
fewer_may m n j few e = let more = leb-true n j e in le-leb m j (omega arith)

both_end : (ends_p ends_a ends_b : Bool) → ends_p ≡ true → ends_a ≡ true → ends_b ≡ true → (ends_p && ends_a && ends_b) ≡ true
both_end p a b e f g = rw (e, f, g) refl

module _ (short long : List Noted) (s l : Sections) (shortens : Shortens short long s l) where
  -- without the last note the sections may end before this move, or it can be made and some of those after it
  FewerBy : Actor → Move → Left → List (List ℕ × ℕ) → Contents → List Move → Type 0
  FewerBy mover move left used contents moves =
      (may_all_end left.sections ≡ true)
      ⊎ ((n : ℕ) × Lets (next_at mover left) (at left used contents) move (λ v. Walks v (take n moves)))

  abbrev pub Goes : List Move → Type 0
  Goes moves =
      (p q : List Sent) (i j : ℕ) (used : List (List ℕ × ℕ)) (contents : Contents) → Begins q p → HavePrefix s q p
      → Walks (at (left_of long l p i j) used contents) moves
      → (n : ℕ) × Walks (at (left_of short s q i j) used contents) (take n moves)

  -- nothing of the prefix is left in either
  no_prefix : HavePrefix s [] []
  no_prefix = inl refl

  prefix_moves : (move : Move) (moves : List Move) → Goes moves → (p q : List Sent) (i j : ℕ) (used : List (List ℕ × ℕ)) (contents : Contents)
      → Begins q p → HavePrefix s q p
      → Lets (next_at actor.P (left_of long l p i j)) (at (left_of long l p i j) used contents) move (λ v. Walks v moves)
      → FewerBy actor.P move (left_of short s q i j) used contents moves
  unfolding FewerBy
  prefix_moves move moves goes [] q i j used contents b same w = absurd w
  prefix_moves move moves goes (x ∷ p) [] i j used contents b (inl e) w = absurd (cc)
  prefix_moves move moves goes (x ∷ p) [] i j used contents b (inr (a, c)) w = inl (rw (a, c) (both_end _ _ _ refl (none_end i) (none_end j)))
    where
      none_end : (n : ℕ) → may_end (drop n []) ≡ true
      none_end zero = refl
      none_end (suc n) = refl
  prefix_moves move moves goes (x ∷ p) (y ∷ q) i j used contents b same w =
      let step = step_by x move in
      let before = left_of long l (x ∷ p) i j in
      let next = trial_after (at before used contents) (left_of long l p i j) step in
      let (n, others) = goes p q i j next.used next.contents b.2 (shorter same) w.1 in
      inr (
        n,
        acts_alike before (left_of short s (y ∷ q) i j) (left_of short s q i j) used contents x y move (λ v. Walks v (take n moves)) b.0 b.1 w.0 others,
      )
    where
      shorter : HavePrefix s (y ∷ q) (x ∷ p) → HavePrefix s q p
      shorter (inl e) = inl (omega (arith, e))
      shorter (inr none) = inr none

  first_moves : (move : Move) (moves : List Move) → Goes moves → (p q : List Sent) (i j : ℕ) (used : List (List ℕ × ℕ)) (contents : Contents)
      → Begins q p
      → Lets (next_at actor.A (left_of long l p i j)) (at (left_of long l p i j) used contents) move (λ v. Walks v moves)
      → FewerBy actor.A move (left_of short s q i j) used contents moves
  unfolding FewerBy
  first_moves move moves goes p q i j used contents b w =
      let before = left_of long l p i j in
      let o = opened (λ next. Lets next (at before used contents) move (λ v. Walks v moves)) (λ none. none)
      (nat_le (answered_before (Some long) actor.A i) j) (may_end p) i l.a (λ a. record { p = []; a = a; b = drop j l.b })
      (λ next. (next.0, left_after before actor.A next.1)) w in
      by o (drop i s.a) refl (subst (λ (xs : List Sent). Begins (drop i s.a) xs) o.there (begins_drop i s.a l.a shortens.a))
    where
      by : (o : Opened (λ next. Lets next (at (left_of long l p i j) used contents) move (λ v. Walks v moves))
          (nat_le (answered_before (Some long) actor.A i) j) (may_end p) i l.a (λ a. record { p = []; a = a; b = drop j l.b })
          (λ next. (next.0, left_after (left_of long l p i j) actor.A next.1)))
          → (ys : List Sent) → drop i s.a ≡ ys → Begins ys (o.sent ∷ drop (i + 1) l.a)
          → FewerBy actor.A move (left_of short s q i j) used contents moves
      by o [] none begins =
          inl (both_end _ _ _ (begins_may_end q p b o.ends) (ap may_end none)
          (shortens.stop_a i j o.sent (drop (i + 1) l.a) none o.there (leb-true _ _ o.may)))
      by o (y ∷ ys) there begins =
          let before = left_of long l p i j in
          let after = left_of short s [] (i + 1) j in
          let next = trial_after (at before used contents) (left_of long l [] (i + 1) j) (step_by o.sent move) in
          let (n, others) = goes [] [] (i + 1) j next.used next.contents tt no_prefix o.next.1 in
          inr (
            n,
            closed (λ next. Lets next (at (left_of short s q i j) used contents) move (λ v. Walks v (take n moves)))
                (nat_le (answered_before (Some short) actor.A i) j) (may_end q) (drop i s.a) (λ a. record { p = []; a = a; b = drop j s.b })
                (λ next. (next.0, left_after (left_of short s q i j) actor.A next.1)) y (drop (i + 1) s.a)
                (fewer_may _ _ j (shortens.fewer_a i) o.may) (begins_may_end q p b o.ends)
                (there ∙ ap (λ t. y ∷ t) (sym (drop_tail i s.a y ys there)))
                (acts_alike before (left_of short s q i j) after used contents o.sent y move (λ v. Walks v (take n moves)) begins.0 begins.1 o.next.0 others),
          )

  second_moves : (move : Move) (moves : List Move) → Goes moves → (p q : List Sent) (i j : ℕ) (used : List (List ℕ × ℕ)) (contents : Contents)
      → Begins q p
      → Lets (next_at actor.B (left_of long l p i j)) (at (left_of long l p i j) used contents) move (λ v. Walks v moves)
      → FewerBy actor.B move (left_of short s q i j) used contents moves
  unfolding FewerBy
  second_moves move moves goes p q i j used contents b w =
      let before = left_of long l p i j in
      let o = opened (λ next. Lets next (at before used contents) move (λ v. Walks v moves)) (λ none. none)
      (nat_le (answered_before (Some long) actor.B j) i) (may_end p) j l.b (λ b. record { p = []; a = drop i l.a; b = b })
      (λ next. (next.0, left_after before actor.B next.1)) w in
      by o (drop j s.b) refl (subst (λ (xs : List Sent). Begins (drop j s.b) xs) o.there (begins_drop j s.b l.b shortens.b))
    where
      by : (o : Opened (λ next. Lets next (at (left_of long l p i j) used contents) move (λ v. Walks v moves))
          (nat_le (answered_before (Some long) actor.B j) i) (may_end p) j l.b (λ b. record { p = []; a = drop i l.a; b = b })
          (λ next. (next.0, left_after (left_of long l p i j) actor.B next.1)))
          → (ys : List Sent) → drop j s.b ≡ ys → Begins ys (o.sent ∷ drop (j + 1) l.b)
          → FewerBy actor.B move (left_of short s q i j) used contents moves
      by o [] none begins =
          inl (both_end _ _ _ (begins_may_end q p b o.ends)
          (shortens.stop_b i j o.sent (drop (j + 1) l.b) none o.there (leb-true _ _ o.may))
          (ap may_end none))
      by o (y ∷ ys) there begins =
          let before = left_of long l p i j in
          let after = left_of short s [] i (j + 1) in
          let next = trial_after (at before used contents) (left_of long l [] i (j + 1)) (step_by o.sent move) in
          let (n, others) = goes [] [] i (j + 1) next.used next.contents tt no_prefix o.next.1 in
          inr (
            n,
            closed (λ next. Lets next (at (left_of short s q i j) used contents) move (λ v. Walks v (take n moves)))
                (nat_le (answered_before (Some short) actor.B j) i) (may_end q) (drop j s.b) (λ b. record { p = []; a = drop i s.a; b = b })
                (λ next. (next.0, left_after (left_of short s q i j) actor.B next.1)) y (drop (j + 1) s.b)
                (fewer_may _ _ i (shortens.fewer_b j) o.may) (begins_may_end q p b o.ends)
                (there ∙ ap (λ t. y ∷ t) (sym (drop_tail j s.b y ys there)))
                (acts_alike before (left_of short s q i j) after used contents o.sent y move (λ v. Walks v (take n moves)) begins.0 begins.1 o.next.0 others),
          )

  moves_by : (mover : Actor) (move : Move) (moves : List Move) → Goes moves → (p q : List Sent) (i j : ℕ) (used : List (List ℕ × ℕ)) (contents : Contents)
      → Begins q p → HavePrefix s q p
      → Lets (next_at mover (left_of long l p i j)) (at (left_of long l p i j) used contents) move (λ v. Walks v moves)
      → FewerBy mover move (left_of short s q i j) used contents moves
  moves_by actor.P move moves goes p q i j used contents b same w = prefix_moves move moves goes p q i j used contents b same w
  moves_by actor.A move moves goes p q i j used contents b same w = first_moves move moves goes p q i j used contents b w
  moves_by actor.B move moves goes p q i j used contents b same w = second_moves move moves goes p q i j used contents b w

  ends_both : (p q : List Sent) (i j : ℕ) → Begins q p → may_all_end (left_of long l p i j).sections ≡ true
      → may_all_end (left_of short s q i j).sections ≡ true
  ends_both p q i j b e =
      let first = and_parts (may_end p && may_end (drop i l.a)) (may_end (drop j l.b)) e in
      let second = and_parts (may_end p) (may_end (drop i l.a)) first.0 in
      both_end _ _ _ (begins_may_end q p b second.0)
      (begins_may_end (drop i s.a) (drop i l.a) (begins_drop i s.a l.a shortens.a) second.1)
      (begins_may_end (drop j s.b) (drop j l.b) (begins_drop j s.b l.b shortens.b) first.1)

  -- where the moves walk through the notes, the first of them walk through those without the last
  pub walks_shorter : (moves : List Move) → Goes moves
  unfolding FewerBy
  walks_shorter [] p q i j used contents b same w = (0, ends_both p q i j b w)
  walks_shorter (move ∷ moves) p q i j used contents b same w =
      elim (moves_by move.actor move moves (walks_shorter moves) p q i j used contents b same w) [
        | inl ends ↦ (0, ends)
        | inr (n, others) ↦ (suc n, others)
      ]
