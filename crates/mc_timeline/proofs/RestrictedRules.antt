-- The restriction of a timeline to a key is a timeline.
use Rattle.std.proofs.Common.{◌≡◌, ◌≢◌, ◌≤◌, ◌⊎◌, inl, inr, ℕ, suc, Bool, true, false, cond, not, ◌&&◌, ◌||◌, eqb, eqb-true, eq-eqb, is_some}
use Rattle.std.proofs.Common.{Option, Some, None, List, [], ◌∷◌, ◌++◌, append_assoc, map, length, refl, ap, subst, sym, ◌∙◌, arith}
use Rattle.std.proofs.lemmas.List.Elements.{filter-append}
use Rattle.std.proofs.{lemmas.Bool.leb-false, lemmas.Bool.lt-leb, lemmas.List.append-nil, lemmas.List.length-map, lemmas.Slice.Eq.bytes_eq-Decides}
use Rattle.std.specs.Prelude.{nat_le, if◌then◌else◌}
use Rattle.std.specs.{List.list_any, Str.bytes_eq}
use Rattle.mc_protocol.specs.declared.{request.Request.Request, request.Verb.Verb, reply.Reply.Reply}
use Rattle.mc_model.specs.{declared.rules.HistoryKind.HistoryKind, History.has_words, History.is_cas}
use Rattle.mc_model.specs.declared.note.Note.TheVariants as note
use Rattle.mc_model.specs.declared.rules.HistoryKind.TheVariants as kind
use Rattle.mc_timeline.specs.declared.limits.TheConstants.{CLIENTS_LIMIT, OPERATIONS_LIMIT, TIMELINE_KEYS_LIMIT}
use Rattle.mc_timeline.specs.Timelines.{ClientNote, Waiting, operations_of, is_on_key, waiting_after, restricted_after, restricted}
use Rattle.mc_timeline.specs.{Members.IsIn, Operations.Answer, Operations.Operation, Operations.on_key, RuleState.shows_it, Laws.RestrictionsAreTimelines}
use Rattle.mc_timeline.specs.Rules as rule
use Rattle.mc_timeline.proofs.{Members.among_parts, MoreNotes.unanswered, MoreNotes.answered, MoreNotes.begun, MoreNotes.replied, Following.keep_more}
use Rattle.mc_timeline.proofs.{Following.shown_on, Begun.room_and_free, Begun.none_of, Answered.none_left, Answered.others_wait, Retiming.retimed}
use Rattle.mc_timeline.proofs.{Timelines.restricted_clock, Timelines.restricted_operations, TimelineOrder.are_ordered}

-- ---- the notes of a key and one more

abbrev waits_on : Waiting → List ℕ → List ClientNote → Waiting
waits_on waits key [] = waits
waits_on waits key (n ∷ notes) = waits_on (waiting_after waits key n) key notes

waits_on_more : (waits : Waiting) (key : List ℕ) (notes : List ClientNote) (next : ClientNote)
    → waits_on waits key (notes ++ next ∷ []) ≡ waiting_after (waits_on waits key notes) key next
waits_on_more waits key [] next = refl
waits_on_more waits key (n ∷ notes) next = waits_on_more (waiting_after waits key n) key notes next

restricted_more : (waits : Waiting) (key : List ℕ) (notes : List ClientNote) (next : ClientNote)
    → restricted_after waits key (notes ++ next ∷ [])
    ≡ restricted_after waits key notes ++ cond (is_on_key (waits_on waits key notes) key next) (next ∷ []) []
restricted_more waits key [] next = refl
restricted_more waits key (n ∷ notes) next = by (is_on_key waits key n) (restricted_more (waiting_after waits key n) key notes next)
  where
    later : Waiting
    later = waiting_after waits key n

    more : List ClientNote
    more = cond (is_on_key (waits_on later key notes) key next) (next ∷ []) []

    by : (b : Bool) → restricted_after later key (notes ++ next ∷ []) ≡ restricted_after later key notes ++ more
        → cond b (n ∷ restricted_after later key (notes ++ next ∷ [])) (restricted_after later key (notes ++ next ∷ []))
        ≡ cond b (n ∷ restricted_after later key notes) (restricted_after later key notes) ++ more
    by true rest = ap (λ l. n ∷ l) rest
    by false rest = rest

-- ---- other times change no rule

some_retimed : (clock : ℕ → ℕ) (x : Operation) → is_some (retimed clock x).answer ≡ is_some x.answer
some_retimed clock x = by x.answer
  where
    by : (o : Option Answer) → is_some (retimed clock (record x { answer = o })).answer ≡ is_some o
    by None = refl
    by (Some a) = refl

on_key_retimed : (clock : ℕ → ℕ) (key : List ℕ) (xs : List Operation) → on_key key (map (retimed clock) xs) ≡ map (retimed clock) (on_key key xs)
on_key_retimed clock key [] = refl
on_key_retimed clock key (x ∷ xs) = by (bytes_eq x.request.key key) (on_key_retimed clock key xs)
  where
    by : (b : Bool) → on_key key (map (retimed clock) xs) ≡ map (retimed clock) (on_key key xs)
        → cond b (retimed clock x ∷ on_key key (map (retimed clock) xs)) (on_key key (map (retimed clock) xs))
        ≡ map (retimed clock) (cond b (x ∷ on_key key xs) (on_key key xs))
    by true rest = ap (λ l. retimed clock x ∷ l) rest
    by false rest = rest

waiting_retimed : (clock : ℕ → ℕ) (client : ℕ) (xs : List Operation)
    → rule.waiting_of client (map (retimed clock) xs) ≡ map (retimed clock) (rule.waiting_of client xs)
waiting_retimed clock client [] = refl
waiting_retimed clock client (x ∷ xs) =
    ap (λ s. cond (eqb x.client client && not s) (retimed clock x ∷ rule.waiting_of client (map (retimed clock) xs))
    (rule.waiting_of client (map (retimed clock) xs)))
    (some_retimed clock x)
    ∙ by (eqb x.client client && not (is_some x.answer)) (waiting_retimed clock client xs)
  where
    by : (b : Bool) → rule.waiting_of client (map (retimed clock) xs) ≡ map (retimed clock) (rule.waiting_of client xs)
        → cond b (retimed clock x ∷ rule.waiting_of client (map (retimed clock) xs)) (rule.waiting_of client (map (retimed clock) xs))
        ≡ map (retimed clock) (cond b (x ∷ rule.waiting_of client xs) (rule.waiting_of client xs))
    by true rest = ap (λ l. retimed clock x ∷ l) rest
    by false rest = rest

follow_retimed : (clock : ℕ → ℕ) (xs : List Operation) (v : Verb) → rule.may_follow (map (retimed clock) xs) v ≡ rule.may_follow xs v
follow_retimed clock [] v = refl
follow_retimed clock (x ∷ xs) v = some_retimed clock x

keys_retimed : (clock : ℕ → ℕ) (keys : List (List ℕ)) (xs : List Operation) → rule.keys_after keys (map (retimed clock) xs) ≡ rule.keys_after keys xs
keys_retimed clock keys [] = refl
keys_retimed clock keys (x ∷ xs) = keys_retimed clock (rule.with_key keys x.request.key) xs

-- whether it shows a number depends on the request and the reply alone
shows_same : (clock : ℕ → ℕ) (number : ℕ) (x : Operation) → shows_it number (retimed clock x) ≡ shows_it number x
shows_same clock number x = by x.answer
  where
    by : (o : Option Answer) → shows_it number (retimed clock (record x { answer = o })) ≡ shows_it number (record x { answer = o })
    by None = refl
    by (Some a) = refl

-- ---- one key

twice : (key : List ℕ) (xs : List Operation) → on_key key (on_key key xs) ≡ on_key key xs
twice key [] = refl
twice key (x ∷ xs) = by (bytes_eq x.request.key key) refl (twice key xs)
  where
    by : (b : Bool) → bytes_eq x.request.key key ≡ b → on_key key (on_key key xs) ≡ on_key key xs
        → on_key key (cond b (x ∷ on_key key xs) (on_key key xs)) ≡ cond b (x ∷ on_key key xs) (on_key key xs)
    by true e rest = rw (e, rest) refl
    by false e rest = rest

waiting_on_key : (key : List ℕ) (client : ℕ) (xs : List Operation)
    → rule.waiting_of client (on_key key xs) ≡ on_key key (rule.waiting_of client xs)
waiting_on_key key client [] = refl
waiting_on_key key client (x ∷ xs) =
    by (bytes_eq x.request.key key) refl (eqb x.client client && not (is_some x.answer)) refl (waiting_on_key key client xs)
  where
    by : (b : Bool) → bytes_eq x.request.key key ≡ b → (w : Bool) → (eqb x.client client && not (is_some x.answer)) ≡ w
        → rule.waiting_of client (on_key key xs) ≡ on_key key (rule.waiting_of client xs)
        → rule.waiting_of client (cond b (x ∷ on_key key xs) (on_key key xs))
        ≡ on_key key (cond w (x ∷ rule.waiting_of client xs) (rule.waiting_of client xs))
    by true e true f rest = rw (e, f, rest) refl
    by true e false f rest = rw (f, rest) refl
    by false e true f rest = rw (e, rest) refl
    by false e false f rest = rest

fewer : (key : List ℕ) (xs : List Operation) → length (on_key key xs) ≤ length xs
fewer key [] = omega arith
fewer key (x ∷ xs) = by (bytes_eq x.request.key key) (fewer key xs)
  where
    by : (b : Bool) → length (on_key key xs) ≤ length xs → length (cond b (x ∷ on_key key xs) (on_key key xs)) ≤ suc (length xs)
    by true le = omega arith
    by false le = omega arith

-- operations on one key have at most that key
all_one : (key : List ℕ) (xs : List Operation) → rule.keys_after (key ∷ []) (on_key key xs) ≡ key ∷ []
all_one key [] = refl
all_one key (x ∷ xs) = by (bytes_eq x.request.key key) refl (all_one key xs)
  where
    by : (b : Bool) → bytes_eq x.request.key key ≡ b → rule.keys_after (key ∷ []) (on_key key xs) ≡ key ∷ []
        → rule.keys_after (key ∷ []) (cond b (x ∷ on_key key xs) (on_key key xs)) ≡ key ∷ []
    by true e rest =
        ap (λ b. rule.keys_after (if b || false then key ∷ [] else (key ∷ x.request.key ∷ [])) (on_key key xs)) e ∙ rest
    by false e rest = rest

one_key : (key : List ℕ) (xs : List Operation) → length (rule.keys_of (on_key key xs)) ≤ 1
one_key key [] = omega arith
one_key key (x ∷ xs) = by (bytes_eq x.request.key key) refl (one_key key xs)
  where
    by : (b : Bool) → bytes_eq x.request.key key ≡ b → length (rule.keys_of (on_key key xs)) ≤ 1
        → length (rule.keys_of (cond b (x ∷ on_key key xs) (on_key key xs))) ≤ 1
    by true e le =
        let same = (bytes_eq-Decides x.request.key key).0 e in
        let all : rule.keys_after (x.request.key ∷ []) (on_key key xs) ≡ x.request.key ∷ [] =
        subst (λ k. rule.keys_after (k ∷ []) (on_key key xs) ≡ k ∷ []) (sym same) (all_one key xs) in
        let len = ap length all in
        omega arith
    by false e le = le

-- ---- a request

record NoneBroken (w f u m s : Bool) : Type 0 where
  pub words : w ≡ true
  pub full : f ≡ false
  pub unused : u ≡ true
  pub follows : m ≡ true
  pub seen : s ≡ true

abbrev broken : Bool → Bool → Bool → Bool → Bool → Option HistoryKind
broken w f u m s =
    if not w then Some kind.Line
    else (if f then Some kind.TooMany
    else (if not u then Some kind.Order
    else (if not m then Some kind.NotCleared
    else (if not s then Some kind.UnseenNumber else None))))

none_broken : (w f u m s : Bool) → broken w f u m s ≡ None → NoneBroken w f u m s
none_broken false f u m s e = absurd (cc)
none_broken true true u m s e = absurd (cc)
none_broken true false false m s e = absurd (cc)
none_broken true false true false s e = absurd (cc)
none_broken true false true true false e = absurd (cc)
none_broken true false true true true e = record { words = refl; full = refl; unused = refl; follows = refl; seen = refl }

unbroken : (w f u m s : Bool) → w ≡ true → f ≡ false → u ≡ true → m ≡ true → s ≡ true → broken w f u m s ≡ None
unbroken w f u m s a b c d e = rw (a, b, c, d, e) refl

none_full : (a b c d : Bool) → a ≡ false → b ≡ false → c ≡ false → (a || b || (c && d)) ≡ false
none_full a b c d x y z = rw (x, y, z) refl

or_false : (a b : Bool) → (a || b) ≡ false → (a ≡ false) × (b ≡ false)
or_false false false e = (refl, refl)
or_false false true e = absurd (cc)
or_false true b e = absurd (cc)

begin_on_key : (clock : ℕ → ℕ) (key : List ℕ) (operations : List Operation) (client : ℕ) (request : Request) → bytes_eq request.key key ≡ true
    → rule.begin_fault operations client request ≡ None
    → rule.begin_fault (map (retimed clock) (on_key key operations)) client request ≡ None
begin_on_key clock key operations client request here e =
    unbroken (has_words request) (rule.is_full kept client request) (rule.is_unused (rule.waiting_of client kept))
    (rule.may_follow (on_key request.key kept) request.verb) (rule.is_number_seen kept request) n.words full unused follows seen
  where
    kept : List Operation
    kept = map (retimed clock) (on_key key operations)

    same : request.key ≡ key
    same = (bytes_eq-Decides request.key key).0 here

    n : NoneBroken (has_words request) (rule.is_full operations client request) (rule.is_unused (rule.waiting_of client operations))
        (rule.may_follow (on_key request.key operations) request.verb) (rule.is_number_seen operations request)
    n = none_broken (has_words request) (rule.is_full operations client request) (rule.is_unused (rule.waiting_of client operations))
        (rule.may_follow (on_key request.key operations) request.verb) (rule.is_number_seen operations request) e

    full : rule.is_full kept client request ≡ false
    full =
        let parts = or_false (nat_le CLIENTS_LIMIT client || nat_le OPERATIONS_LIMIT (length operations))
        (nat_le TIMELINE_KEYS_LIMIT (length (rule.keys_of operations)) && rule.is_unused (on_key request.key operations)) n.full in
        let first = or_false (nat_le CLIENTS_LIMIT client) (nat_le OPERATIONS_LIMIT (length operations)) parts.0 in
        let room = leb-false OPERATIONS_LIMIT (length operations) first.1 in
        let less = fewer key operations in
        let len = length-map (on_key key operations) (retimed clock) in
        let few : nat_le OPERATIONS_LIMIT (length kept) ≡ false = lt-leb OPERATIONS_LIMIT (length kept) (omega arith) in
        let one = one_key key operations in
        let keys = keys_retimed clock [] (on_key key operations) in
        let short : nat_le TIMELINE_KEYS_LIMIT (length (rule.keys_of kept)) ≡ false =
        subst (λ l. nat_le TIMELINE_KEYS_LIMIT (length l) ≡ false) (sym keys)
        (lt-leb TIMELINE_KEYS_LIMIT (length (rule.keys_of (on_key key operations))) (omega arith)) in
        none_full (nat_le CLIENTS_LIMIT client) (nat_le OPERATIONS_LIMIT (length kept)) (nat_le TIMELINE_KEYS_LIMIT (length (rule.keys_of kept)))
        (rule.is_unused (on_key request.key kept)) first.0 few short

    unused : rule.is_unused (rule.waiting_of client kept) ≡ true
    unused =
        let none = none_of (rule.waiting_of client operations) n.unused in
        ap rule.is_unused (waiting_retimed clock client (on_key key operations)
        ∙ ap (map (retimed clock)) (waiting_on_key key client operations ∙ ap (on_key key) none))

    all_on : on_key request.key kept ≡ map (retimed clock) (on_key request.key operations)
    all_on =
        subst (λ k. on_key k kept ≡ map (retimed clock) (on_key k operations)) (sym same)
        (on_key_retimed clock key (on_key key operations) ∙ ap (map (retimed clock)) (twice key operations))

    follows : rule.may_follow (on_key request.key kept) request.verb ≡ true
    follows = ap (λ l. rule.may_follow l request.verb) all_on ∙ follow_retimed clock (on_key request.key operations) request.verb ∙ n.follows

    seen : rule.is_number_seen kept request ≡ true
    seen =
        ap (λ b. not (is_cas request.verb) || b)
        (shown_on request.key request.number kept
        ∙ ap (list_any (shows_it request.number)) all_on
        ∙ shows_retimed request.number (on_key request.key operations)
        ∙ sym (shown_on request.key request.number operations))
        ∙ n.seen
      where
        shows_retimed : (number : ℕ) (xs : List Operation) → list_any (shows_it number) (map (retimed clock) xs) ≡ list_any (shows_it number) xs
        shows_retimed number [] = refl
        shows_retimed number (x ∷ xs) =
            ap (λ b. b || list_any (shows_it number) (map (retimed clock) xs)) (shows_same clock number x)
            ∙ ap (λ b. shows_it number x || b) (shows_retimed number xs)

-- ---- a reply

reply_on_key : (clock : ℕ → ℕ) (key : List ℕ) (operations : List Operation) (client : ℕ) (reply : Reply)
    → ((x : Operation) → IsIn x (rule.waiting_of client operations) → bytes_eq x.request.key key ≡ true)
    → rule.reply_fault (rule.waiting_of client operations) reply ≡ None
    → rule.reply_fault (rule.waiting_of client (map (retimed clock) (on_key key operations))) reply ≡ None
reply_on_key clock key operations client reply here e =
    ap (λ l. rule.reply_fault l reply) (waiting_retimed clock client (on_key key operations) ∙ ap (map (retimed clock)) (waiting_on_key key client operations))
    ∙ by (rule.waiting_of client operations) here e
  where
    by : (xs : List Operation) → ((x : Operation) → IsIn x xs → bytes_eq x.request.key key ≡ true) → rule.reply_fault xs reply ≡ None
        → rule.reply_fault (map (retimed clock) (on_key key xs)) reply ≡ None
    by [] at fault = fault
    by (x ∷ xs) at fault = let on = at x (inl refl) in rw on fault

-- ---- note by note

abbrev Tells : List ℕ → List ClientNote → Type 0
Tells key notes =
    (client : ℕ) (x : Operation) → IsIn x (rule.waiting_of client (operations_of notes))
    → waits_on (λ client. false) key notes client ≡ bytes_eq x.request.key key

tells_begun : (key : List ℕ) (notes : List ClientNote) (who : ℕ) (request : Request) → Tells key notes
    → rule.waiting_of who (operations_of notes) ≡ [] → Tells key (notes ++ (who, note.Begin request) ∷ [])
tells_begun key notes who request tells free client x h =
    ap (λ w. w client) (waits_on_more (λ client. false) key notes (who, note.Begin request))
    ∙ at (among_parts x (rule.waiting_of client told) (cond (eqb who client && true) (next ∷ []) [])
    (subst (λ l. IsIn x l) (filter-append (λ y. eqb y.client client && not (is_some y.answer)) told (next ∷ []))
    (subst (λ l. IsIn x (rule.waiting_of client l)) (begun notes who request) h)))
  where
    told : List Operation
    told = operations_of notes

    next : Operation
    next = unanswered who request (length notes)

    here : Bool
    here = bytes_eq request.key key

    before : Waiting
    before = waits_on (λ client. false) key notes

    old : (b : Bool) → eqb client who ≡ b → IsIn x (rule.waiting_of client told) → cond b here (before client) ≡ bytes_eq x.request.key key
    old true e i =
        let none : IsIn x [] = subst (λ l. IsIn x l) free (subst (λ c. IsIn x (rule.waiting_of c told)) (eqb-true client who e) i) in
        absurd none
    old false e i = tells client x i

    new : (b : Bool) → eqb who client ≡ b → IsIn x (cond (b && true) (next ∷ []) []) → cond (eqb client who) here (before client) ≡ bytes_eq x.request.key key
    new true e (inl same) =
        let on : eqb client who ≡ true = eq-eqb client who (sym (eqb-true who client e)) in
        ap (λ b. cond b here (before client)) on ∙ ap (λ y. bytes_eq y.request.key key) (sym same)
    new true e (inr never) = absurd never
    new false e never = absurd never

    at : IsIn x (rule.waiting_of client told) ⊎ IsIn x (cond (eqb who client && true) (next ∷ []) [])
        → cond (eqb client who) here (before client) ≡ bytes_eq x.request.key key
    at (inl i) = old (eqb client who) refl i
    at (inr i) = new (eqb who client) refl i

tells_replied : (key : List ℕ) (notes : List ClientNote) (who : ℕ) (reply : Reply) → Tells key notes
    → Tells key (notes ++ (who, note.Reply reply) ∷ [])
tells_replied key notes who reply tells client x h =
    ap (λ w. w client) (waits_on_more (λ client. false) key notes (who, note.Reply reply)) ∙ by (eqb client who) refl
  where
    told : List Operation
    told = operations_of notes

    now : IsIn x (rule.waiting_of client (map (answered who (record { time = length notes; reply = reply })) told))
    now = subst (λ l. IsIn x (rule.waiting_of client l)) (replied notes who reply) h

    by : (b : Bool) → eqb client who ≡ b → waits_on (λ client. false) key notes client ≡ bytes_eq x.request.key key
    by true e =
        let none : IsIn x [] =
        subst (λ l. IsIn x l) (none_left who (record { time = length notes; reply = reply }) told)
        (subst (λ c. IsIn x (rule.waiting_of c (map (answered who (record { time = length notes; reply = reply })) told))) (eqb-true client who e) now) in
        absurd none
    by false e =
        let apart : client ≢ who = λ same. (let on = eq-eqb client who same in absurd (cc)) in
        tells client x (subst (λ l. IsIn x l) (others_wait who (record { time = length notes; reply = reply }) client apart told) now)

keeps_rules : (key : List ℕ) (earlier notes : List ClientNote) → rule.IsTimeline earlier → Tells key earlier
    → rule.IsTimeline (restricted key earlier) → rule.KeepRules earlier notes → rule.IsTimeline (restricted key (earlier ++ notes))
keeps_rules key earlier [] t tells r k = subst (λ l. rule.IsTimeline (restricted key l)) (sym (append-nil earlier)) r
keeps_rules key earlier (next ∷ notes) t tells r k =
    subst (λ l. rule.IsTimeline (restricted key l)) (append_assoc earlier (next ∷ []) notes)
    (keeps_rules key (earlier ++ next ∷ []) notes (keep_more [] earlier next t k.0) (more next k.0)
    (subst rule.IsTimeline (sym (restricted_more (λ client. false) key earlier next))
    (one (is_on_key (waits_on (λ client. false) key earlier) key next) refl)) k.1)
  where
    told : List Operation
    told = operations_of earlier

    more : (next : ClientNote) → rule.fault_of earlier next ≡ None → Tells key (earlier ++ next ∷ [])
    more (who, note.Begin request) e =
        tells_begun key earlier who request tells (none_of (rule.waiting_of who told) (room_and_free told who request e).1)
    more (who, note.Reply reply) e = tells_replied key earlier who reply tells

    same : operations_of (restricted key earlier) ≡ map (retimed (restricted_clock key earlier)) (on_key key told)
    same = restricted_operations key earlier (are_ordered earlier t)

    faultless : (next : ClientNote) → rule.fault_of earlier next ≡ None → is_on_key (waits_on (λ client. false) key earlier) key next ≡ true
        → rule.fault_of (restricted key earlier) next ≡ None
    faultless (who, note.Begin request) e here =
        ap (λ l. rule.begin_fault l who request) same ∙ begin_on_key (restricted_clock key earlier) key told who request here e
    faultless (who, note.Reply reply) e here =
        ap (λ l. rule.reply_fault (rule.waiting_of who l) reply) same
        ∙ reply_on_key (restricted_clock key earlier) key told who reply (λ x h. sym (tells who x h) ∙ here) e

    one : (b : Bool) → is_on_key (waits_on (λ client. false) key earlier) key next ≡ b
        → rule.IsTimeline (restricted key earlier ++ cond b (next ∷ []) [])
    one true here = keep_more [] (restricted key earlier) next r (faultless next k.0 here)
    one false here = subst rule.IsTimeline (sym (append-nil (restricted key earlier))) r

pub are_timelines : RestrictionsAreTimelines
are_timelines notes key k = keeps_rules key [] notes tt (λ client x h. absurd h) tt k
