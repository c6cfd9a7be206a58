-- The number of a cas was shown before it began.
use Rattle.std.proofs.Common.{◌≡◌, ◌⊎◌, ◌&&◌, ◌||◌, inl, inr, ℕ, Bool, true, false, cond, not, eqb, is_some}
use Rattle.std.proofs.Common.{Option, Some, None, List, [], ◌∷◌, ◌++◌, map, length, refl, ap, subst, sym, ◌∙◌}
use Rattle.std.proofs.{lemmas.Bool.and_parts, lemmas.Option.slice_get_within}
use Rattle.std.specs.Prelude.{if◌then◌else◌}
use Rattle.std.specs.{List.list_any, Str.bytes_eq}
use Rattle.mc_protocol.specs.declared.{request.Request.Request}
use Rattle.mc_model.specs.declared.note.Note.TheVariants as note
use Rattle.mc_model.specs.declared.rules.HistoryKind.TheVariants as kind
use Rattle.mc_model.specs.History.{is_cas, is_gets, shows_number, has_words, shows as shown_on}
use Rattle.mc_timeline.specs.Operations.{Answer, Operation, CameBefore, on_key}
use Rattle.mc_timeline.specs.{Members.IsIn, Timelines.ClientNote, Timelines.operations_of, Explanations.received}
use Rattle.mc_timeline.specs.Rules as rule
use Rattle.mc_timeline.proofs.{Members.among_parts, MoreNotes.unanswered, MoreNotes.answered, MoreNotes.begun, MoreNotes.replied}
use Rattle.mc_linearize.specs.Held.{shows}
use Rattle.mc_linearize.proofs.AnswerNotes.{answer_note}

-- an operation of these, a gets of any key, that was answered with the number before this time
pub record IsSeen (operations : List Operation) (number time : ℕ) : Type 0 where
  pub by : Operation
  pub there : IsIn by operations
  pub shown : shows number by ≡ true
  pub before : CameBefore by.answer time

abbrev AreSeen : List Operation → Type 0
AreSeen operations = (x : Operation) → IsIn x operations → is_cas x.request.verb ≡ true → IsSeen operations x.request.number x.began

-- ---- the rule

unseen_is_fault : (w f u m s : Bool)
    → (if not w then Some kind.Line else (if f then Some kind.TooMany else (if not u then Some kind.Order else (if not m then Some kind.NotCleared
    else (if not s then Some kind.UnseenNumber else None))))) ≡ None → s ≡ true
unseen_is_fault false f u m s e = absurd (cc)
unseen_is_fault true true u m s e = absurd (cc)
unseen_is_fault true false false m s e = absurd (cc)
unseen_is_fault true false true false s e = absurd (cc)
unseen_is_fault true false true true false e = absurd (cc)
unseen_is_fault true false true true true e = refl

record Shows (operations : List Operation) (key : List ℕ) (number : ℕ) : Type 0 where
  by : Operation
  there : IsIn by operations
  shown : shown_on key number (rule.sent_of by) ≡ true

found_in : (key : List ℕ) (number : ℕ) (operations : List Operation) → list_any (shown_on key number) (map rule.sent_of operations) ≡ true
    → Shows operations key number
found_in key number [] e = absurd (cc)
found_in key number (x ∷ operations) e = by (shown_on key number (rule.sent_of x)) refl e (found_in key number operations)
  where
    by : (b : Bool) → shown_on key number (rule.sent_of x) ≡ b → (b || list_any (shown_on key number) (map rule.sent_of operations)) ≡ true
        → (list_any (shown_on key number) (map rule.sent_of operations) ≡ true → Shows operations key number) → Shows (x ∷ operations) key number
    by true f e more = record { by = x; there = inl refl; shown = f }
    by false f e more = let s = more e in record { by = s.by; there = inr s.there; shown = s.shown }

-- a gets of the key that was answered with the number is a gets that was answered with it
shows_too : (key : List ℕ) (number : ℕ) (x : Operation) → shown_on key number (rule.sent_of x) ≡ true → shows number x ≡ true
shows_too key number x e =
    by (is_gets x.request.verb) refl (bytes_eq x.request.key key) refl (shows_number number (received x.answer)) refl
  where
    by : (g : Bool) → is_gets x.request.verb ≡ g → (k : Bool) → bytes_eq x.request.key key ≡ k → (s : Bool) → shows_number number (received x.answer) ≡ s
        → shows number x ≡ true
    by true f true h true i = rw (f, i) refl
    by true f true h false i = absurd (let z = rw (f, h, i) at e in cc)
    by true f false h s i = absurd (let z = rw (f, h) at e in cc)
    by false f k h s i = absurd (let z = rw f at e in cc)

record HasAnswer (answer : Option Answer) : Type 0 where
  came : Answer
  is : answer ≡ Some came

has_answer : (number : ℕ) (x : Operation) → shows number x ≡ true → HasAnswer x.answer
has_answer number x e = by x.answer refl (and_parts (is_gets x.request.verb) (shows_number number (received x.answer)) e).1
  where
    by : (a : Option Answer) → x.answer ≡ a → shows_number number (received a) ≡ true → HasAnswer x.answer
    by None f s = absurd (cc)
    by (Some came) f s = record { came = came; is = f }

-- ---- note by note

front_among : (x : Operation) (front back : List Operation) → IsIn x front → IsIn x (front ++ back)
front_among x [] back h = absurd h
front_among x (y ∷ front) back (inl same) = inl same
front_among x (y ∷ front) back (inr more) = inr (front_among x front back more)

begin_seen : (earlier : List ClientNote) (who : ℕ) (request : Request) → rule.fault_of earlier (who, note.Begin request) ≡ None
    → AreSeen (operations_of earlier) → AreSeen (operations_of earlier ++ unanswered who request (length earlier) ∷ [])
begin_seen earlier who request faultless seen x h cas = by (among_parts x told (next ∷ []) h)
  where
    told : List Operation
    told = operations_of earlier

    next : Operation
    next = unanswered who request (length earlier)

    known : rule.is_number_seen told request ≡ true
    known = unseen_is_fault (has_words request) (rule.is_full told who request) (rule.is_unused (rule.waiting_of who told))
        (rule.may_follow (on_key request.key told) request.verb) (rule.is_number_seen told request) faultless

    shown : is_cas request.verb ≡ true → list_any (shown_on request.key request.number) (map rule.sent_of told) ≡ true
    shown c = let z = rw c at known in z

    is_before : (y : Operation) → IsIn y told → HasAnswer y.answer → CameBefore y.answer (length earlier)
    is_before y there a =
        let within = slice_get_within earlier a.came.time (y.client, note.Reply a.came.reply) (answer_note earlier y a.came there a.is) in
        subst (λ o. CameBefore o (length earlier)) (sym a.is) within

    by : IsIn x told ⊎ IsIn x (next ∷ []) → IsSeen (told ++ next ∷ []) x.request.number x.began
    by (inl old) =
        let s = seen x old cas in
        record { by = s.by; there = front_among s.by told (next ∷ []) s.there; shown = s.shown; before = s.before }
    by (inr (inr none)) = absurd none
    by (inr (inl same)) =
        let mine : is_cas request.verb ≡ true = ap (λ (y : Operation). is_cas y.request.verb) (sym same) ∙ cas in
        let f = found_in request.key request.number told (shown mine) in
        let shows_it = shows_too request.key request.number f.by f.shown in
        let seen_next : IsSeen (told ++ next ∷ []) request.number (length earlier) = record {
          by = f.by;
          there = front_among f.by told (next ∷ []) f.there;
          shown = shows_it;
          before = is_before f.by f.there (has_answer request.number f.by shows_it);
        } in
        subst (λ (y : Operation). IsSeen (told ++ next ∷ []) y.request.number y.began) (sym same) seen_next

-- an operation that was answered stays as it is
stays : (who : ℕ) (answer : Answer) (y : Operation) (operations : List Operation) → HasAnswer y.answer → IsIn y operations
    → IsIn y (map (answered who answer) operations)
stays who answer y [] a h = absurd h
stays who answer y (z ∷ operations) a (inl same) =
    inl (subst (λ (w : Operation). y ≡ answered who answer w) same (by (eqb y.client who)))
  where
    by : (b : Bool) → y ≡ cond (b && not (is_some y.answer)) (record y { answer = Some answer }) y
    by true = let some : is_some y.answer ≡ true = ap is_some a.is in rw some refl
    by false = refl
stays who answer y (z ∷ operations) a (inr more) = inr (stays who answer y operations a more)

-- an operation that may have been answered now, and what it was before
record Was (who : ℕ) (answer : Answer) (x : Operation) (operations : List Operation) : Type 0 where
  old : Operation
  there : IsIn old operations
  request : x.request ≡ old.request
  began : x.began ≡ old.began

was : (who : ℕ) (answer : Answer) (x : Operation) (operations : List Operation) → IsIn x (map (answered who answer) operations) → Was who answer x operations
was who answer x [] h = absurd h
was who answer x (z ∷ operations) (inl same) = by (eqb z.client who && not (is_some z.answer)) same
  where
    by : (b : Bool) → x ≡ cond b (record z { answer = Some answer }) z → Was who answer x (z ∷ operations)
    by true e = record { old = z; there = inl refl; request = ap (λ (y : Operation). y.request) e; began = ap (λ (y : Operation). y.began) e }
    by false e = record { old = z; there = inl refl; request = ap (λ (y : Operation). y.request) e; began = ap (λ (y : Operation). y.began) e }
was who answer x (z ∷ operations) (inr more) =
    let w = was who answer x operations more in
    record { old = w.old; there = inr w.there; request = w.request; began = w.began }

reply_seen : (who : ℕ) (answer : Answer) (operations : List Operation) → AreSeen operations → AreSeen (map (answered who answer) operations)
reply_seen who answer operations seen x h cas =
    let w = was who answer x operations h in
    let mine : is_cas w.old.request.verb ≡ true = ap (λ (r : Request). is_cas r.verb) (sym w.request) ∙ cas in
    let s = seen w.old w.there mine in
    let there : IsSeen (map (answered who answer) operations) w.old.request.number w.old.began = record {
      by = s.by;
      there = stays who answer s.by operations (has_answer w.old.request.number s.by s.shown) s.there;
      shown = s.shown;
      before = s.before;
    } in
    subst (λ (r : Request). IsSeen (map (answered who answer) operations) r.number x.began) (sym w.request)
    (subst (λ b. IsSeen (map (answered who answer) operations) w.old.request.number b) (sym w.began) there)

seen_after : (earlier notes : List ClientNote) → AreSeen (operations_of earlier) → rule.KeepRules earlier notes → AreSeen (operations_of (earlier ++ notes))
seen_after earlier [] seen k = subst (λ l. AreSeen (operations_of l)) (sym (ends earlier)) seen
  where
    ends : (l : List ClientNote) → l ++ [] ≡ l
    ends [] = refl
    ends (x ∷ l) = ap (λ m. x ∷ m) (ends l)
seen_after earlier (n ∷ notes) seen k = subst (λ l. AreSeen (operations_of l)) (joined earlier) (seen_after (earlier ++ n ∷ []) notes (by n k.0) k.1)
  where
    joined : (l : List ClientNote) → (l ++ n ∷ []) ++ notes ≡ l ++ n ∷ notes
    joined [] = refl
    joined (x ∷ l) = ap (λ r. x ∷ r) (joined l)

    by : (m : ClientNote) → rule.fault_of earlier m ≡ None → AreSeen (operations_of (earlier ++ m ∷ []))
    by (who, note.Begin request) faultless = subst AreSeen (sym (begun earlier who request)) (begin_seen earlier who request faultless seen)
    by (who, note.Reply reply) faultless =
        subst AreSeen (sym (replied earlier who reply)) (reply_seen who (record { time = length earlier; reply = reply }) (operations_of earlier) seen)

-- the number of a cas was shown by an operation that was answered before the cas began
pub are_seen : (notes : List ClientNote) → rule.IsTimeline notes → (x : Operation) → IsIn x (operations_of notes) → is_cas x.request.verb ≡ true
    → IsSeen (operations_of notes) x.request.number x.began
are_seen notes k = seen_after [] notes (λ x h. absurd h) k
