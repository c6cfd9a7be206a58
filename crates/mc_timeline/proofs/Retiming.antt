-- An explanation depends on times only by their order.
use Rattle.std.proofs.Common.{◌≡◌, ◌⊎◌, ◌<◌, ◌≤◌, ◌^◌, ◌++◌, inl, inr, ℕ, Bool, true, false, cond, eqb, eqb-true, eq-eqb, is_some}
use Rattle.std.proofs.Common.{Option, Some, None, List, [], ◌∷◌, map, refl, ap, subst, sym, ◌∙◌, arith}
use Rattle.std.proofs.lemmas.Bool.{cases_order}
use Rattle.mc_history.specs.Distinct.{AreDistinct}
use Rattle.mc_timeline.specs.Operations.{Answer, Operation, IsLinearization}
use Rattle.mc_timeline.specs.Explanations.{Effected, step_of, order_of, received, GivesEach, Explains, IsExplained}
use Rattle.mc_timeline.specs.{Members.IsIn, Timelines.Placed, Timelines.answer_to, Timelines.operations_in, Walks.CameNoEarlier, Walks.NoneCameBefore}
use Rattle.mc_protocol.specs.declared.reply.Reply.{Reply}
use Rattle.mc_model.specs.declared.note.Note.TheVariants as note
use Rattle.mc_claims.specs.{Explains.IsReceived, Explains.start_contents, Replay.replay, Replay.versions}
use Rattle.mc_timeline.proofs.{Members.absent, Members.is_absent, Members.mapped_among, Times.KeepsTime, Times.in_time_linear, Times.linear_in_time}

-- ---- other times

abbrev pub retimed_answer : (ℕ → ℕ) → Option Answer → Option Answer
retimed_answer clock None = None
retimed_answer clock (Some a) = Some (record { time = clock a.time; reply = a.reply })

abbrev pub retimed : (ℕ → ℕ) → Operation → Operation
retimed clock x = record x { began = clock x.began; answer = retimed_answer clock x.answer }

abbrev pub HasTimes : (ℕ → Type 0) → Option Answer → Type 0
HasTimes Used None = Unit {0}
HasTimes Used (Some a) = Used a.time

-- the operation's times are among these
abbrev pub Uses : (ℕ → Type 0) → Operation → Type 0
Uses Used x = Used x.began × HasTimes Used x.answer

-- the clock keeps the order of these times
abbrev Keeps : (ℕ → Type 0) → (ℕ → ℕ) → Type 0
Keeps Used clock = (s t : ℕ) → Used s → Used t → s < t → clock s < clock t

same_time : (Used : ℕ → Type 0) (clock : ℕ → ℕ) → Keeps Used clock → (s t : ℕ) → Used s → Used t → clock s ≡ clock t → s ≡ t
same_time Used clock keeps s t us ut e = by (cases_order s t)
  where
    by : (s ≡ t) ⊎ ((s < t) ⊎ (t < s)) → s ≡ t
    by (inl same) = same
    by (inr (inl less)) = let k = keeps s t us ut less in absurd (omega arith)
    by (inr (inr less)) = let k = keeps t s ut us less in absurd (omega arith)

some_is : (x y : Answer) → Some x ≡ Some y → x ≡ y
some_is x y e = cc

answer_is : (a b : Answer) → a.time ≡ b.time → a.reply ≡ b.reply → a ≡ b
answer_is a b time reply = λ i. record { time = time i; reply = reply i }

same_answered : (Used : ℕ → Type 0) (clock : ℕ → ℕ) → Keeps Used clock → (a b : Option Answer) → HasTimes Used a → HasTimes Used b
    → retimed_answer clock a ≡ retimed_answer clock b → a ≡ b
same_answered Used clock keeps None None ua ub e = refl
same_answered Used clock keeps None (Some b) ua ub e = absurd (cc)
same_answered Used clock keeps (Some a) None ua ub e = absurd (cc)
same_answered Used clock keeps (Some a) (Some b) ua ub e =
    let both = some_is (record { time = clock a.time; reply = a.reply }) (record { time = clock b.time; reply = b.reply }) e in
    let time = same_time Used clock keeps a.time b.time ua ub (ap (λ z. z.time) both) in
    ap Some (answer_is a b time (ap (λ z. z.reply) both))

same_operation : (Used : ℕ → Type 0) (clock : ℕ → ℕ) → Keeps Used clock → (x y : Operation) → Uses Used x → Uses Used y
    → retimed clock x ≡ retimed clock y → x ≡ y
same_operation Used clock keeps x y ux uy e =
    let began = same_time Used clock keeps x.began y.began ux.0 uy.0 (ap (λ z. z.began) e) in
    let answer = same_answered Used clock keeps x.answer y.answer ux.1 uy.1 (ap (λ z. z.answer) e) in
    let client : x.client ≡ y.client = ap (λ z. z.client) e in
    let request : x.request ≡ y.request = ap (λ z. z.request) e in
    λ i. record { client = client i; request = request i; began = began i; answer = answer i }

no_earlier : (Used : ℕ → Type 0) (clock : ℕ → ℕ) → Keeps Used clock → (time : ℕ) → Used time → (a : Option Answer) → HasTimes Used a
    → CameNoEarlier a time → CameNoEarlier (retimed_answer clock a) (clock time)
no_earlier Used clock keeps time ut None ua h = tt
no_earlier Used clock keeps time ut (Some a) ua h = by (cases_order time a.time)
  where
    by : (time ≡ a.time) ⊎ ((time < a.time) ⊎ (a.time < time)) → clock time ≤ clock a.time
    by (inl same) = let e = ap clock same in omega arith
    by (inr (inl less)) = let k = keeps time a.time ut ua less in omega arith
    by (inr (inr less)) = absurd (omega arith)

-- ---- lists of operations

among_retimed : (clock : ℕ → ℕ) (x : Operation) (xs : List Operation) → IsIn x xs → IsIn (retimed clock x) (map (retimed clock) xs)
among_retimed clock x [] h = absurd h
among_retimed clock x (y ∷ xs) (inl same) = inl (ap (retimed clock) same)
among_retimed clock x (y ∷ xs) (inr more) = inr (among_retimed clock x xs more)

retimed_among : (clock : ℕ → ℕ) (z : Operation) (xs : List Operation) → IsIn z (map (retimed clock) xs)
    → (x : Operation) × (z ≡ retimed clock x) × IsIn x xs
retimed_among clock z [] h = absurd h
retimed_among clock z (y ∷ xs) (inl same) = (y, same, inl refl)
retimed_among clock z (y ∷ xs) (inr more) = let r = retimed_among clock z xs more in (r.0, r.1, inr r.2)

retimed_distinct : (Used : ℕ → Type 0) (clock : ℕ → ℕ) → Keeps Used clock → (xs : List Operation) → ((x : Operation) → IsIn x xs → Uses Used x)
    → AreDistinct xs → AreDistinct (map (retimed clock) xs)
retimed_distinct Used clock keeps [] uses d = tt
retimed_distinct Used clock keeps (x ∷ xs) uses d = (
  is_absent (retimed clock x) (map (retimed clock) xs)
      (λ h. let r = retimed_among clock (retimed clock x) xs h in
      let same = same_operation Used clock keeps x r.0 (uses x (inl refl)) (uses r.0 (inr r.2)) r.1 in
      absent x xs d.0 (subst (λ z. IsIn z xs) (sym same) r.2)),
  retimed_distinct Used clock keeps xs (λ y h. uses y (inr h)) d.1,
)

retimed_last : (Used : ℕ → Type 0) (clock : ℕ → ℕ) → Keeps Used clock → (time : ℕ) → Used time → (xs : List Operation)
    → ((x : Operation) → IsIn x xs → Uses Used x) → NoneCameBefore time xs → NoneCameBefore (clock time) (map (retimed clock) xs)
retimed_last Used clock keeps time ut [] uses h = tt
retimed_last Used clock keeps time ut (x ∷ xs) uses h =
    (no_earlier Used clock keeps time ut x.answer (uses x (inl refl)).1 h.0, retimed_last Used clock keeps time ut xs (λ y k. uses y (inr k)) h.1)

retimed_in_time : (Used : ℕ → Type 0) (clock : ℕ → ℕ) → Keeps Used clock → (xs : List Operation) → ((x : Operation) → IsIn x xs → Uses Used x)
    → KeepsTime xs → KeepsTime (map (retimed clock) xs)
retimed_in_time Used clock keeps [] uses h = tt
retimed_in_time Used clock keeps (x ∷ xs) uses h =
    (retimed_last Used clock keeps x.began (uses x (inl refl)).0 (x ∷ xs) uses h.0, retimed_in_time Used clock keeps xs (λ y k. uses y (inr k)) h.1)

same_some : (clock : ℕ → ℕ) (a : Option Answer) → is_some (retimed_answer clock a) ≡ is_some a
same_some clock None = refl
same_some clock (Some a) = refl

-- ---- effected operations

abbrev pub retimed_effected : (ℕ → ℕ) → Effected → Effected
retimed_effected clock a = record a { operation = retimed clock a.operation }

same_steps : (clock : ℕ → ℕ) (effected : List Effected) → map step_of (map (retimed_effected clock) effected) ≡ map step_of effected
same_steps clock [] = refl
same_steps clock (a ∷ effected) = ap (λ l. step_of a ∷ l) (same_steps clock effected)

retimed_order_of : (clock : ℕ → ℕ) (effected : List Effected) → order_of (map (retimed_effected clock) effected) ≡ map (retimed clock) (order_of effected)
retimed_order_of clock [] = refl
retimed_order_of clock (a ∷ effected) = ap (λ l. retimed clock a.operation ∷ l) (retimed_order_of clock effected)

retimed_gives : (clock : ℕ → ℕ) (effected : List Effected) (replies : List Reply) → GivesEach effected replies
    → GivesEach (map (retimed_effected clock) effected) replies
retimed_gives clock [] replies g = tt
retimed_gives clock (a ∷ effected) [] g = g
retimed_gives clock (a ∷ effected) (reply ∷ replies) g = (by a.operation.answer g.0, retimed_gives clock effected replies g.1)
  where
    by : (o : Option Answer) → IsReceived (received o) reply → IsReceived (received (retimed_answer clock o)) reply
    by None h = tt
    by (Some answer) h = h

retimed_fits : (clock : ℕ → ℕ) (effected : List Effected) → ((a : Effected) → IsIn a effected → a.number < 2 ^ 64) → (a : Effected)
    → IsIn a (map (retimed_effected clock) effected) → a.number < 2 ^ 64
retimed_fits clock effected fit a h =
    let m = mapped_among (retimed_effected clock) a effected h in
    subst (λ n. n < 2 ^ 64) (sym (ap (λ b. b.number) m.1)) (fit m.0 m.2)

retimed_linear : (Used : ℕ → Type 0) (clock : ℕ → ℕ) → Keeps Used clock → (operations order : List Operation)
    → ((x : Operation) → IsIn x operations → Uses Used x) → IsLinearization operations order
    → IsLinearization (map (retimed clock) operations) (map (retimed clock) order)
retimed_linear Used clock keeps operations order uses l =
    in_time_linear (map (retimed clock) operations) (map (retimed clock) order) (retimed_distinct Used clock keeps order used l.distinct) only answered
    (retimed_in_time Used clock keeps order used (linear_in_time operations order l))
  where
    used : (x : Operation) → IsIn x order → Uses Used x
    used x h = uses x (l.only x h)

    only : (z : Operation) → IsIn z (map (retimed clock) order) → IsIn z (map (retimed clock) operations)
    only z h =
        let r = retimed_among clock z order h in
        subst (λ y. IsIn y (map (retimed clock) operations)) (sym r.1) (among_retimed clock r.0 operations (l.only r.0 r.2))

    answered : (z : Operation) → IsIn z (map (retimed clock) operations) → is_some z.answer ≡ true → IsIn z (map (retimed clock) order)
    answered z h is =
        let r = retimed_among clock z operations h in
        let some : is_some r.0.answer ≡ true = sym (same_some clock r.0.answer) ∙ ap (λ y. is_some y.answer) (sym r.1) ∙ is in
        subst (λ y. IsIn y (map (retimed clock) order)) (sym r.1) (among_retimed clock r.0 order (l.answered r.0 r.2 some))

pub retimed_explains : (Used : ℕ → Type 0) (clock : ℕ → ℕ) → Keeps Used clock → (operations : List Operation)
    → ((x : Operation) → IsIn x operations → Uses Used x) → (start : List (List ℕ × ℕ)) (effected : List Effected) → Explains operations start effected
    → Explains (map (retimed clock) operations) start (map (retimed_effected clock) effected)
retimed_explains Used clock keeps operations uses start effected e = record {
  linear = subst (IsLinearization (map (retimed clock) operations)) (sym (retimed_order_of clock effected))
      (retimed_linear Used clock keeps operations (order_of effected) uses e.linear);
  start_fits = e.start_fits;
  effected_fit = retimed_fits clock effected e.effected_fit;
  keys = e.keys;
  numbers = subst (λ l. AreDistinct (start ++ versions (start_contents start) l)) (sym (same_steps clock effected)) e.numbers;
  replies = subst (λ l. GivesEach (map (retimed_effected clock) effected) (replay (start_contents start) l)) (sym (same_steps clock effected))
      (retimed_gives clock effected (replay (start_contents start) (map step_of effected)) e.replies);
}

retimed_explained : (Used : ℕ → Type 0) (clock : ℕ → ℕ) → Keeps Used clock → (operations : List Operation)
    → ((x : Operation) → IsIn x operations → Uses Used x) → IsExplained operations → IsExplained (map (retimed clock) operations)
retimed_explained Used clock keeps operations uses e = record {
  start = e.start;
  effected = map (retimed_effected clock) e.effected;
  explains = retimed_explains Used clock keeps operations uses e.start e.effected e.explains;
}

-- ---- notes at other places

-- these notes are those, and the clock gives the places of these for the places of those
abbrev pub Shows : (ℕ → ℕ) → List Placed → List Placed → Type 0
Shows clock [] [] = Unit {0}
Shows clock [] (u ∷ us) = ⊥
Shows clock (t ∷ ts) [] = ⊥
Shows clock (t ∷ ts) (u ∷ us) = (clock t.0 ≡ u.0) × (t.1 ≡ u.1) × Shows clock ts us

abbrev pub AllAfter : ℕ → List Placed → Type 0
AllAfter place [] = Unit {0}
AllAfter place (t ∷ ts) = (place < t.0) × AllAfter place ts

-- each note stands at a later place than those before it
abbrev pub Rises : List Placed → Type 0
Rises [] = Unit {0}
Rises (t ∷ ts) = AllAfter t.0 ts × Rises ts

abbrev pub IsPlace : List Placed → ℕ → Type 0
IsPlace [] place = ⊥
IsPlace (t ∷ ts) place = (place ≡ t.0) ⊎ IsPlace ts place

retimed_answers : (clock : ℕ → ℕ) (client : ℕ) (ts us : List Placed) → Shows clock ts us
    → answer_to client us ≡ retimed_answer clock (answer_to client ts)
retimed_answers clock client [] [] s = refl
retimed_answers clock client [] (u ∷ us) s = absurd s
retimed_answers clock client (t ∷ ts) [] s = absurd s
retimed_answers clock client ((p, (who, note.Begin request)) ∷ ts) ((q, noted) ∷ us) s =
    subst (λ n. answer_to client ((q, n) ∷ us) ≡ retimed_answer clock (answer_to client ts)) s.1 (retimed_answers clock client ts us s.2)
retimed_answers clock client ((p, (who, note.Reply reply)) ∷ ts) ((q, noted) ∷ us) s =
    subst (λ n. answer_to client ((q, n) ∷ us) ≡ retimed_answer clock (answer_to client ((p, (who, note.Reply reply)) ∷ ts))) s.1
    (by (eqb who client) (retimed_answers clock client ts us s.2))
  where
    by : (b : Bool) → answer_to client us ≡ retimed_answer clock (answer_to client ts)
        → cond b (Some (record { time = q; reply = reply })) (answer_to client us)
        ≡ retimed_answer clock (cond b (Some (record { time = p; reply = reply })) (answer_to client ts))
    by true rest = ap (λ k. Some (record { time = k; reply = reply })) (sym s.0)
    by false rest = rest

pub retimed_operations : (clock : ℕ → ℕ) (ts us : List Placed) → Shows clock ts us → operations_in us ≡ map (retimed clock) (operations_in ts)
retimed_operations clock [] [] s = refl
retimed_operations clock [] (u ∷ us) s = absurd s
retimed_operations clock (t ∷ ts) [] s = absurd s
retimed_operations clock ((p, (who, note.Begin request)) ∷ ts) ((q, noted) ∷ us) s =
    let answer = retimed_answers clock who ts us s.2 in
    let rest = retimed_operations clock ts us s.2 in
    let place = s.0 in
    subst (λ n. operations_in ((q, n) ∷ us) ≡ map (retimed clock) (operations_in ((p, (who, note.Begin request)) ∷ ts))) s.1
    (rw (answer, rest, place) refl)
retimed_operations clock ((p, (who, note.Reply reply)) ∷ ts) ((q, noted) ∷ us) s =
    subst (λ n. operations_in ((q, n) ∷ us) ≡ map (retimed clock) (operations_in ts)) s.1 (retimed_operations clock ts us s.2)

pub answer_place : (client : ℕ) (ts : List Placed) → HasTimes (IsPlace ts) (answer_to client ts)
answer_place client [] = tt
answer_place client ((p, (who, note.Begin request)) ∷ ts) = more_times (answer_to client ts) (answer_place client ts)
  where
    more_times : (a : Option Answer) → HasTimes (IsPlace ts) a → HasTimes (IsPlace ((p, (who, note.Begin request)) ∷ ts)) a
    more_times None h = tt
    more_times (Some a) h = inr h
answer_place client ((p, (who, note.Reply reply)) ∷ ts) = by (eqb who client) (answer_to client ts) (answer_place client ts)
  where
    by : (b : Bool) (a : Option Answer) → HasTimes (IsPlace ts) a
        → HasTimes (IsPlace ((p, (who, note.Reply reply)) ∷ ts)) (cond b (Some (record { time = p; reply = reply })) a)
    by true a h = inl refl
    by false None h = tt
    by false (Some a) h = inr h

pub operation_places : (ts : List Placed) (x : Operation) → IsIn x (operations_in ts) → Uses (IsPlace ts) x
operation_places [] x h = absurd h
operation_places ((p, (who, note.Begin request)) ∷ ts) x (inl same) =
    subst (Uses (IsPlace ((p, (who, note.Begin request)) ∷ ts))) (sym same) (inl refl, answer_place who ((p, (who, note.Begin request)) ∷ ts))
operation_places ((p, (who, note.Begin request)) ∷ ts) x (inr more) =
    let u = operation_places ts x more in (inr u.0, later x.answer u.1)
  where
    later : (a : Option Answer) → HasTimes (IsPlace ts) a → HasTimes (IsPlace ((p, (who, note.Begin request)) ∷ ts)) a
    later None h = tt
    later (Some a) h = inr h
operation_places ((p, (who, note.Reply reply)) ∷ ts) x more =
    let u = operation_places ts x more in (inr u.0, later x.answer u.1)
  where
    later : (a : Option Answer) → HasTimes (IsPlace ts) a → HasTimes (IsPlace ((p, (who, note.Reply reply)) ∷ ts)) a
    later None h = tt
    later (Some a) h = inr h

-- ---- the clock of two lists of the same notes

abbrev pub SameNotes : List Placed → List Placed → Type 0
SameNotes [] [] = Unit {0}
SameNotes [] (u ∷ us) = ⊥
SameNotes (t ∷ ts) [] = ⊥
SameNotes (t ∷ ts) (u ∷ us) = (t.1 ≡ u.1) × SameNotes ts us

abbrev pub clock_of : List Placed → List Placed → ℕ → ℕ
clock_of [] us time = 0
clock_of (t ∷ ts) [] time = 0
clock_of (t ∷ ts) (u ∷ us) time = cond (eqb time t.0) u.0 (clock_of ts us time)

-- a clock for later places may be any at this one
shows_later : (clock : ℕ → ℕ) (here there : ℕ) (ts us : List Placed) → AllAfter here ts → Shows clock ts us
    → Shows (λ time. cond (eqb time here) there (clock time)) ts us
shows_later clock here there [] [] after s = tt
shows_later clock here there [] (u ∷ us) after s = s
shows_later clock here there (t ∷ ts) [] after s = s
shows_later clock here there (t ∷ ts) (u ∷ us) after s = (by (eqb t.0 here) refl, s.1, shows_later clock here there ts us after.1 s.2)
  where
    by : (b : Bool) → eqb t.0 here ≡ b → cond b there (clock t.0) ≡ u.0
    by true e = let same = eqb-true t.0 here e in absurd (omega arith)
    by false e = s.0

pub clock_shows : (ts us : List Placed) → Rises ts → SameNotes ts us → Shows (clock_of ts us) ts us
clock_shows [] [] r s = tt
clock_shows [] (u ∷ us) r s = s
clock_shows (t ∷ ts) [] r s = s
clock_shows (t ∷ ts) (u ∷ us) r s =
    let here : eqb t.0 t.0 ≡ true = eq-eqb t.0 t.0 refl in
    (ap (λ b. cond b u.0 (clock_of ts us t.0)) here, s.0, shows_later (clock_of ts us) t.0 u.0 ts us r.0 (clock_shows ts us r.1 s.1))

pub place_after : (place other : ℕ) (ts : List Placed) → AllAfter place ts → IsPlace ts other → place < other
place_after place other [] after h = absurd h
place_after place other (t ∷ ts) after (inl same) = let lt = after.0 in omega arith
place_after place other (t ∷ ts) after (inr more) = place_after place other ts after.1 more

shown_after : (clock : ℕ → ℕ) (place time : ℕ) (ts us : List Placed) → Shows clock ts us → AllAfter place us → IsPlace ts time → place < clock time
shown_after clock place time [] us s after h = absurd h
shown_after clock place time (t ∷ ts) [] s after h = absurd s
shown_after clock place time (t ∷ ts) (u ∷ us) s after (inl same) = let e = ap clock same ∙ s.0 in let lt = after.0 in omega arith
shown_after clock place time (t ∷ ts) (u ∷ us) s after (inr more) = shown_after clock place time ts us s.2 after.1 more

clock_keeps : (clock : ℕ → ℕ) (ts us : List Placed) → Shows clock ts us → Rises ts → Rises us → Keeps (IsPlace ts) clock
clock_keeps clock [] us s rt ru early late he hl less = absurd he
clock_keeps clock (t ∷ ts) [] s rt ru early late he hl less = absurd s
clock_keeps clock (t ∷ ts) (u ∷ us) s rt ru early late he hl less = by he hl (λ e l. clock_keeps clock ts us s.2 rt.1 ru.1 early late e l less)
  where
    by : (early ≡ t.0) ⊎ IsPlace ts early → (late ≡ t.0) ⊎ IsPlace ts late → (IsPlace ts early → IsPlace ts late → clock early < clock late)
        → clock early < clock late
    by (inl e) (inl l) rest = absurd (omega arith)
    by (inl e) (inr l) rest = let after = shown_after clock u.0 late ts us s.2 ru.0 l in let at = ap clock e ∙ s.0 in omega arith
    by (inr e) (inl l) rest = let after = place_after t.0 early ts rt.0 e in absurd (omega arith)
    by (inr e) (inr l) rest = rest e l

-- the same notes at other places, in the same order, are explained too, by the same operations at the other times
pub explains_elsewhere : (clock : ℕ → ℕ) (ts us : List Placed) → Rises ts → Rises us → Shows clock ts us → (start : List (List ℕ × ℕ))
    (effected : List Effected) → Explains (operations_in ts) start effected → Explains (operations_in us) start (map (retimed_effected clock) effected)
explains_elsewhere clock ts us rt ru shows start effected e =
    subst (λ operations. Explains operations start (map (retimed_effected clock) effected)) (sym (retimed_operations clock ts us shows))
    (retimed_explains (IsPlace ts) clock (clock_keeps clock ts us shows rt ru) (operations_in ts) (operation_places ts) start effected e)

-- the same notes at other places, in the same order, are explained too
pub explained_elsewhere : (ts us : List Placed) → Rises ts → Rises us → SameNotes ts us
    → IsExplained (operations_in ts) → IsExplained (operations_in us)
explained_elsewhere ts us rt ru same e =
    let shows = clock_shows ts us rt same in
    let keeps = clock_keeps (clock_of ts us) ts us shows rt ru in
    subst IsExplained (sym (retimed_operations (clock_of ts us) ts us shows))
    (retimed_explained (IsPlace ts) (clock_of ts us) keeps (operations_in ts) (operation_places ts) e)
