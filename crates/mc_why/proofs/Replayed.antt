-- The moves of an explanation let the requests of its order act.
use Rattle.std.proofs.Common.{◌≡◌, ◌⊎◌, inl, inr, ℕ, zero, suc, ◌+◌, nat_le, Bool, true, false, cond, Some, None, if◌then◌else◌}
use Rattle.std.proofs.Common.{List, [], ◌∷◌, ◌++◌, drop, take, map, slice_get, append-nil, append_assoc, refl, sym, ap, subst, ◌∙◌, arith}
use Rattle.std.proofs.lemmas.List.Sums.{sum_by-append, sum_by-cons}
use Rattle.std.specs.Option.{option_map}
use Rattle.mc_protocol.specs.declared.actor.Actor.{Actor}
use Rattle.mc_protocol.specs.declared.actor.Actor.TheVariants as actor
use Rattle.mc_model.specs.{declared.sent.Sent.Sent, Contents.Contents, Notes.History, Notes.answered_before, Notes.is_same_section, Sections.Sections}
use Rattle.mc_history.specs.{declared.explanation.Move.Move, Claim.Claim, Turns.Turn}
use Rattle.mc_claims.specs.Walk.{Left, all_left, first_of, left_after, may_end, next_at}
use Rattle.mc_claims.specs.{Explains.Explains, Explains.start_contents, Explains.steps_of, ExplainsLaws.move_count, Replay.Step, Replay.after}
use Rattle.mc_claims.proofs.Recorded.{IsAllowedFrom, allowed_from_start, begins_allowed}
use Rattle.mc_why.specs.{Answers.moved, Answers.moved_along, Answers.next_after, AnswerLaws.MovesAreReplayed, AnswerLaws.TurnsComeNext, AnswerLaws.left_by}
use Rattle.mc_why.proofs.Beginnings.{drop_tail}

-- ---- what is left after some moves

record Matches (s : Sections) (earlier : List Move) (left : Left) : Type 0 where
  p : (left.sections.p ≡ drop (move_count actor.P earlier) s.p) ⊎ (left.sections.p ≡ [])
  a : left.sections.a ≡ drop (move_count actor.A earlier) s.a
  b : left.sections.b ≡ drop (move_count actor.B earlier) s.b

counted : (section mover : Actor) (earlier : List Move) (move : Move) → move.actor ≡ mover
    → move_count section (earlier ++ move ∷ []) ≡ move_count section earlier + cond (is_same_section section mover) 1 0
counted section mover earlier move e =
    let all = sum_by-append (λ (m : Move). cond {A = ℕ} (is_same_section section m.actor) 1 0) earlier (move ∷ []) in
    let one = sum_by-cons (λ (m : Move). cond {A = ℕ} (is_same_section section m.actor) 1 0) move [] in
    let same = ap (λ m. cond {A = ℕ} (is_same_section section m) 1 0) e in
    omega arith

at_front : {X : Type 0} (n : ℕ) (xs : List X) (x : X) (others : List X) → drop n xs ≡ x ∷ others → slice_get xs n ≡ Some x
at_front zero [] x others e = absurd (cc)
at_front zero (y ∷ xs) x others e = cc
at_front (suc n) [] x others e = absurd (cc)
at_front (suc n) (y ∷ xs) x others e = at_front n xs x others e

-- where there is a next request, it is the first that is left of its section
record Taken (xs : List Sent) (rest : List Sent → Sections) (f : Sent × Sections → Sent × Left) (out : Sent × Left) : Type 0 where
  first : Sent
  others : List Sent
  there : xs ≡ first ∷ others
  out_is : f (first, rest others) ≡ out

taken : (may ends : Bool) (xs : List Sent) (rest : List Sent → Sections) (f : Sent × Sections → Sent × Left) (out : Sent × Left)
    → (if may then option_map f (if ends then first_of xs rest else None) else None) ≡ Some out → Taken xs rest f out
taken false ends xs rest f out e = absurd (cc)
taken true false xs rest f out e = absurd (cc)
taken true true [] rest f out e = absurd (cc)
taken true true (x ∷ xs) rest f out e = record { first = x; others = xs; there = refl; out_is = cc }

-- the next request is the one after as many of its section as there were moves of it
NextMatches : Sections → List Move → Move → Actor → Sent → Left → Type 0
NextMatches s earlier move mover sent rest = (next_after s earlier mover ≡ Some sent) × Matches s (earlier ++ move ∷ []) rest

next_matches : (s : Sections) (earlier : List Move) (left : Left) (mover : Actor) (move : Move) (sent : Sent) (rest : Left) → move.actor ≡ mover
    → Matches s earlier left → next_at mover left ≡ Some (sent, rest) → NextMatches s earlier move mover sent rest
unfolding NextMatches
next_matches s earlier left actor.P move sent rest e m at = by (taken true true left.sections.p front after_it (sent, rest) at) m.p
  where
    front : List Sent → Sections
    front p = record { p = p; a = left.sections.a; b = left.sections.b }

    after_it : Sent × Sections → Sent × Left
    after_it next = (next.0, left_after left actor.P next.1)

    by : Taken left.sections.p front after_it (sent, rest)
        → (left.sections.p ≡ drop (move_count actor.P earlier) s.p) ⊎ (left.sections.p ≡ [])
        → (next_after s earlier actor.P ≡ Some sent) × Matches s (earlier ++ move ∷ []) rest
    by t (inr none) = let there = t.there in absurd (cc)
    by t (inl is) =
        let n = move_count actor.P earlier in
        let there : drop n s.p ≡ t.first ∷ t.others = sym is ∙ t.there in
        let sent_is : t.first ≡ sent = ap (λ (o : Sent × Left). o.0) t.out_is in
        let rest_is : left_after left actor.P (front t.others) ≡ rest = ap (λ (o : Sent × Left). o.1) t.out_is in
        let more : move_count actor.P (earlier ++ move ∷ []) ≡ n + 1 = counted actor.P actor.P earlier move e in
        let same_a : move_count actor.A (earlier ++ move ∷ []) ≡ move_count actor.A earlier = let c = counted actor.A actor.P earlier move e in omega arith in
        let same_b : move_count actor.B (earlier ++ move ∷ []) ≡ move_count actor.B earlier = let c = counted actor.B actor.P earlier move e in omega arith in (
          at_front n s.p t.first t.others there ∙ ap (λ x. Some x) sent_is,
          subst (λ (l : Left). Matches s (earlier ++ move ∷ []) l) rest_is
              (record {
                p = inl (sym (drop_tail n s.p t.first t.others there) ∙ ap (λ k. drop k s.p) (sym more));
                a = m.a ∙ ap (λ k. drop k s.a) (sym same_a);
                b = m.b ∙ ap (λ k. drop k s.b) (sym same_b);
              }),
        )
next_matches s earlier left actor.A move sent rest e m at =
    by (taken (nat_le (answered_before left.notes actor.A left.acted_a) left.acted_b) (may_end left.sections.p) left.sections.a front after_it (sent, rest) at)
  where
    front : List Sent → Sections
    front a = record { p = []; a = a; b = left.sections.b }

    after_it : Sent × Sections → Sent × Left
    after_it next = (next.0, left_after left actor.A next.1)

    by : Taken left.sections.a front after_it (sent, rest)
        → (next_after s earlier actor.A ≡ Some sent) × Matches s (earlier ++ move ∷ []) rest
    by t =
        let n = move_count actor.A earlier in
        let there : drop n s.a ≡ t.first ∷ t.others = sym m.a ∙ t.there in
        let sent_is : t.first ≡ sent = ap (λ (o : Sent × Left). o.0) t.out_is in
        let rest_is : left_after left actor.A (front t.others) ≡ rest = ap (λ (o : Sent × Left). o.1) t.out_is in
        let more : move_count actor.A (earlier ++ move ∷ []) ≡ n + 1 = counted actor.A actor.A earlier move e in
        let same_b : move_count actor.B (earlier ++ move ∷ []) ≡ move_count actor.B earlier = let c = counted actor.B actor.A earlier move e in omega arith in (
          at_front n s.a t.first t.others there ∙ ap (λ x. Some x) sent_is,
          subst (λ (l : Left). Matches s (earlier ++ move ∷ []) l) rest_is
              (record {
                p = inr refl;
                a = sym (drop_tail n s.a t.first t.others there) ∙ ap (λ k. drop k s.a) (sym more);
                b = m.b ∙ ap (λ k. drop k s.b) (sym same_b);
              }),
        )
next_matches s earlier left actor.B move sent rest e m at =
    by (taken (nat_le (answered_before left.notes actor.B left.acted_b) left.acted_a) (may_end left.sections.p) left.sections.b front after_it (sent, rest) at)
  where
    front : List Sent → Sections
    front b = record { p = []; a = left.sections.a; b = b }

    after_it : Sent × Sections → Sent × Left
    after_it next = (next.0, left_after left actor.B next.1)

    by : Taken left.sections.b front after_it (sent, rest)
        → (next_after s earlier actor.B ≡ Some sent) × Matches s (earlier ++ move ∷ []) rest
    by t =
        let n = move_count actor.B earlier in
        let there : drop n s.b ≡ t.first ∷ t.others = sym m.b ∙ t.there in
        let sent_is : t.first ≡ sent = ap (λ (o : Sent × Left). o.0) t.out_is in
        let rest_is : left_after left actor.B (front t.others) ≡ rest = ap (λ (o : Sent × Left). o.1) t.out_is in
        let more : move_count actor.B (earlier ++ move ∷ []) ≡ n + 1 = counted actor.B actor.B earlier move e in
        let same_a : move_count actor.A (earlier ++ move ∷ []) ≡ move_count actor.A earlier = let c = counted actor.A actor.B earlier move e in omega arith in (
          at_front n s.b t.first t.others there ∙ ap (λ x. Some x) sent_is,
          subst (λ (l : Left). Matches s (earlier ++ move ∷ []) l) rest_is
              (record {
                p = inr refl;
                a = m.a ∙ ap (λ k. drop k s.a) (sym same_a);
                b = sym (drop_tail n s.b t.first t.others there) ∙ ap (λ k. drop k s.b) (sym more);
              }),
        )

-- ---- along the moves

-- the moves leave what the steps leave, and the turn after them is its section's next request
Follows : ℕ → List Turn → List Move → Sections → List Move → Contents → Type 0
Follows n order moves s earlier contents =
    (moved_along s earlier (take n moves) contents ≡ left_by contents (take n (steps_of order moves)))
    × ((turn : Turn) → slice_get order n ≡ Some turn → next_after s (earlier ++ take n moves) turn.0 ≡ Some turn.1)

along : (n : ℕ) (left : Left) (order : List Turn) (moves : List Move) (s : Sections) (earlier : List Move) (contents : Contents)
    → IsAllowedFrom left order → map (λ m. m.actor) moves ≡ map (λ turn. turn.0) order → Matches s earlier left → Follows n order moves s earlier contents
unfolding Follows NextMatches
along zero left [] moves s earlier contents allowed actors m = (refl, λ turn e. absurd (cc))
along zero left (t ∷ order) [] s earlier contents allowed actors m = absurd (cc)
along zero left (t ∷ order) (move ∷ moves) s earlier contents allowed actors m =
    let (rest, at, others) = begins_allowed left t order allowed in
    let first : move.actor ≡ t.0 = cc in
    let next = next_matches s earlier left t.0 move t.1 rest first m at in (
      refl,
      λ turn e.
          let same : t ≡ turn = cc in
          subst (λ (u : Turn). next_after s (earlier ++ []) u.0 ≡ Some u.1) same
          (subst (λ (l : List Move). next_after s l t.0 ≡ Some t.1) (sym (append-nil earlier)) next.0),
    )
along (suc n) left [] [] s earlier contents allowed actors m = (refl, λ turn e. absurd (cc))
along (suc n) left [] (move ∷ moves) s earlier contents allowed actors m = absurd (cc)
along (suc n) left (t ∷ order) [] s earlier contents allowed actors m = absurd (cc)
along (suc n) left (t ∷ order) (move ∷ moves) s earlier contents allowed actors m =
    let (rest, at, others) = begins_allowed left t order allowed in
    let first : move.actor ≡ t.0 = cc in
    let more : map (λ m. m.actor) moves ≡ map (λ turn. turn.0) order = cc in
    let next = next_matches s earlier left t.0 move t.1 rest first m at in
    let step : Step = record { request = t.1.request; choice = move.choice; number = move.number } in
    let acts : moved (next_after s earlier move.actor) move contents ≡ after contents step =
    ap (λ k. moved (next_after s earlier k) move contents) first ∙ ap (λ o. moved o move contents) next.0 in
    let others_follow = along n rest order moves s (earlier ++ move ∷ []) (after contents step) others more next.1 in (
      ap (λ (c : Contents). moved_along s (earlier ++ move ∷ []) (take n moves) c) acts ∙ others_follow.0,
      λ turn e. subst (λ (l : List Move). next_after s l turn.0 ≡ Some turn.1) (append_assoc earlier (move ∷ []) (take n moves)) (others_follow.1 turn e),
    )

from_start : (h : History) (claim : Claim) (explains : Explains h claim) (n : ℕ)
    → Follows n explains.order claim.order h.sections [] (start_contents claim.start)
from_start h claim explains n =
    along n (all_left h) explains.order claim.order h.sections [] (start_contents claim.start) (allowed_from_start h explains.order explains.allowed)
    explains.actors (record { p = inl refl; a = refl; b = refl })

pub moves_are_replayed : MovesAreReplayed
unfolding Follows
moves_are_replayed h claim explains n = (from_start h claim explains n).0

pub turns_come_next : TurnsComeNext
unfolding Follows
turns_come_next h claim explains n turn e = (from_start h claim explains n).1 turn e
