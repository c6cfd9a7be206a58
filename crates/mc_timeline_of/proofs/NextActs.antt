-- Which operation may act next.
use Rattle.std.proofs.Common.{◌≡◌, ◌≤◌, ◌<◌, ◌⊎◌, ◌↔◌, inl, inr, ℕ, nat_le, Bool, true, false, not, ◌&&◌, ◌||◌, Option, Some, None, is_some}
use Rattle.std.proofs.Common.{List, [], ◌∷◌, ◌++◌, append-nil, map, length, refl, ap, sym, ◌∙◌, arith}
use Rattle.std.proofs.lemmas.Bool.{and_parts, le-leb, leb-true, cases_lt}
use Rattle.mc_protocol.specs.declared.actor.Actor.{Actor}
use Rattle.mc_protocol.specs.declared.actor.Actor.TheVariants as actor
use Rattle.mc_model.specs.declared.note.Note.TheVariants as note
use Rattle.mc_model.specs.History as model
use Rattle.mc_model.specs.Notes.{Noted, answered_before, is_record, is_same_section, sections_in}
use Rattle.mc_model.proofs.{Faults.rules_of, NoteFaults.record_parts}
use Rattle.mc_claims.specs.{ExplainsLaws.are_both_branches, Walk.may_end}
use Rattle.mc_claims.proofs.AnsweredFirst.{answered_within}
use Rattle.mc_timeline.specs.Operations.{Answer, Operation, CameBefore}
use Rattle.mc_timeline.specs.{Members.IsIn, Explanations.received, Queues.Queues, Queues.MayEnd, Queues.NoNextCameBefore, Rules.sent_of, Walks.CameNoEarlier}
use Rattle.mc_timeline.proofs.{Times.came_when, TimelineOrder.are_ordered}
use Rattle.mc_timeline_of.specs.SameNotes.{of_clients}
use Rattle.mc_timeline_of.proofs.ClientQueues.{queue, in_turn, takes_turns}
use Rattle.mc_timeline_of.proofs.Counting.{replied_before, answered_when, few_replies, began_after, replied_until}
use Rattle.mc_timeline_of.proofs.{SectionQueues.sent_is, Leading.IsOver, Leading.IsOfBranch, Keeping.are_timelines}

-- ---- the next of each client

-- the first, if there is one, was answered no earlier than this time
abbrev pub NextLast : ℕ → List Operation → Type 0
NextLast time [] = Unit {0}
NextLast time (x ∷ others) = CameNoEarlier x.answer time

pub more_last : (time : ℕ) (queue : List Operation) (queues : Queues) → NextLast time queue
    → NoNextCameBefore time queues → NoNextCameBefore time (queue ∷ queues)
more_last time [] queues h rest = rest
more_last time (x ∷ queue) queues h rest = (h, rest)

pub first_last : (time : ℕ) (queue : List Operation) (queues : Queues) → NoNextCameBefore time (queue ∷ queues)
    → NextLast time queue × NoNextCameBefore time queues
first_last time [] queues h = (tt, h)
first_last time (x ∷ queue) queues h = h

pub no_answer : (answer : Option Answer) → not (is_some (received answer)) ≡ true → is_some answer ≡ false
no_answer None e = refl
no_answer (Some answer) e = absurd (cc)

none_received : (answer : Option Answer) → is_some answer ≡ false → not (is_some (received answer)) ≡ true
none_received None e = refl
none_received (Some answer) e = absurd (cc)

pub more_end : (queue : List Operation) (queues : Queues) → may_end (map sent_of queue) ≡ true → MayEnd queues → MayEnd (queue ∷ queues)
more_end [] queues e rest = rest
more_end (x ∷ []) queues e rest = (no_answer x.answer e, rest)
more_end (x ∷ y ∷ queue) queues e rest = absurd (cc)

pub first_end : (queue : List Operation) (queues : Queues) → MayEnd (queue ∷ queues) → (may_end (map sent_of queue) ≡ true) × MayEnd queues
first_end [] queues e = (refl, e)
first_end (x ∷ []) queues e = (none_received x.answer e.0, e.1)
first_end (x ∷ y ∷ queue) queues e = absurd e

not_both : (answer : Option Answer) (time : ℕ) → CameBefore answer time → CameNoEarlier answer time → ⊥
not_both None time before after = before
not_both (Some answer) time before after = omega arith

pub later_too : (answer : Option Answer) (early late : ℕ) → early ≤ late → CameNoEarlier answer late → CameNoEarlier answer early
later_too None early late le h = tt
later_too (Some answer) early late le h = omega arith

pub over_and_later : (answer : Option Answer) (time : ℕ) → is_some answer ≡ true → IsOver answer time → CameNoEarlier answer time → ⊥
over_and_later None time some over later = absurd (cc)
over_and_later (Some answer) time some over later = omega arith

module _ (notes : List Noted) (is_history : is_record notes ≡ true) where
  pub in_its_turn : (section : Actor) → takes_turns section false notes ≡ true
  in_its_turn section = in_turn section (λ client. false) notes (are_ordered (of_clients notes) (are_timelines notes is_history))

  -- ---- who may act

  -- how many were answered before an operation of the other branch began
  counted : (section other : Actor) → are_both_branches section other ≡ true → is_same_section other other ≡ true
      → (front : List Operation) (x : Operation) (back : List Operation) (place : ℕ)
      → queue other 0 notes ≡ front ++ x ∷ back → place ≡ length front
      → answered_before (Some notes) other place ≡ replied_before section x.began 0 notes
  counted section other both same front x back place whole at =
      let b = began_after other 0 notes front x back same whole in
      let count = b.count in
      let within = answered_within section other notes b.earlier b.later x.request place both b.whole (omega arith) in
      let began = b.began in
      within.2
      ∙ sym (replied_until section 0 b.earlier ((other, note.Begin x.request) ∷ b.later))
      ∙ ap (λ t. replied_before section t 0 (b.earlier ++ (other, note.Begin x.request) ∷ b.later)) (sym began)
      ∙ ap (replied_before section x.began 0) (sym b.whole)

  -- the notes let an operation act exactly if the next of the other branch was answered no earlier than it began
  pub lets : (section other : Actor) → are_both_branches section other ≡ true → is_same_section other other ≡ true
      → (front : List Operation) (x : Operation) (back : List Operation) (place : ℕ)
      → queue other 0 notes ≡ front ++ x ∷ back → place ≡ length front
      → (acted left : List Operation) (count : ℕ) → queue section 0 notes ≡ acted ++ left → count ≡ length acted
      → (nat_le (answered_before (Some notes) other place) count ≡ true) ↔ NextLast x.began left
  lets section other both same front x back place whole at acted [] count all is =
      ((λ e. tt), (λ t. le-leb (answered_before (Some notes) other place) count enough))
    where
      enough : answered_before (Some notes) other place ≤ count
      enough =
          let few = few_replies section x.began notes (in_its_turn section) in
          let lengths = ap length (all ∙ append-nil acted) in
          let same_count = counted section other both same front x back place whole at in
          omega arith
  lets section other both same front x back place whole at acted (y ∷ left) count all is = (to, from)
    where
      same_count : answered_before (Some notes) other place ≡ replied_before section x.began 0 notes
      same_count = counted section other both same front x back place whole at

      when : CameBefore y.answer x.began ↔ length acted < replied_before section x.began 0 notes
      when = answered_when section x.began notes acted y left (in_its_turn section) all

      to : nat_le (answered_before (Some notes) other place) count ≡ true → CameNoEarlier y.answer x.began
      to e = by (came_when y.answer x.began)
        where
          by : CameBefore y.answer x.began ⊎ CameNoEarlier y.answer x.began → CameNoEarlier y.answer x.began
          by (inr later) = later
          by (inl before) =
              let more = when.0 before in
              let within = leb-true (answered_before (Some notes) other place) count e in
              let c = same_count in
              absurd (omega arith)

      from : CameNoEarlier y.answer x.began → nat_le (answered_before (Some notes) other place) count ≡ true
      from later = le-leb (answered_before (Some notes) other place) count (by (cases_lt count (replied_before section x.began 0 notes)))
        where
          by : (count < replied_before section x.began 0 notes) ⊎ (replied_before section x.began 0 notes ≤ count)
              → answered_before (Some notes) other place ≤ count
          by (inr le) = let c = same_count in omega arith
          by (inl less) = absurd (not_both y.answer x.began (when.1 (omega arith)) later)

  -- ---- P comes first

  some_sent : (x : Operation) (xs : List Operation) → IsIn x xs → model.is_none_sent (map sent_of xs) ≡ false
  some_sent x [] h = absurd h
  some_sent x (y ∷ xs) h = refl

  -- where a branch has an operation, P was answered
  pub p_answered : (y : Operation) → IsOfBranch 0 notes y → model.are_answered (map sent_of (queue actor.P 0 notes)) ≡ true
  p_answered y h =
      let s = sections_in notes in
      let turn = and_parts (model.is_open_at_the_end s.p && model.is_open_at_the_end s.a && model.is_open_at_the_end s.b)
      (model.are_answered s.p || model.has_no_branch s) (rules_of s (record_parts notes is_history).1).turn in
      ap model.are_answered (sent_is actor.P notes (in_its_turn actor.P))
      ∙ first (model.are_answered s.p) (model.is_none_sent s.a) (model.is_none_sent s.b) turn.1 (of_branch h)
    where
      of_branch : IsOfBranch 0 notes y → (model.is_none_sent (sections_in notes).a ≡ false) ⊎ (model.is_none_sent (sections_in notes).b ≡ false)
      of_branch (inl a) = inl (ap model.is_none_sent (sym (sent_is actor.A notes (in_its_turn actor.A))) ∙ some_sent y (queue actor.A 0 notes) a)
      of_branch (inr b) = inr (ap model.is_none_sent (sym (sent_is actor.B notes (in_its_turn actor.B))) ∙ some_sent y (queue actor.B 0 notes) b)

      first : (all a b : Bool) → (all || (a && b)) ≡ true → (a ≡ false) ⊎ (b ≡ false) → all ≡ true
      first true a b e f = refl
      first false true true e (inl f) = absurd (cc)
      first false true true e (inr f) = absurd (cc)
      first false true false e f = absurd (cc)
      first false false b e f = absurd (cc)
