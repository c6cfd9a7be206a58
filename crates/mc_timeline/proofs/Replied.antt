-- What a builder knows once a reply came.
use Rattle.std.proofs.Common.{◌≡◌, ◌≢◌, ◌<◌, ◌≤◌, ◌⊎◌, inl, inr, ℕ, Bool, true, false, cond, not, ◌&&◌, ◌||◌, eqb, eqb-true, eq-eqb, is_some}
use Rattle.std.proofs.Common.{Option, Some, None, List, [], ◌∷◌, ◌++◌, map, slice_set, length, refl, ap, subst, sym, ◌∙◌, arith}
use Rattle.std.proofs.{lemmas.Bool.and_parts, lemmas.Bool.cases_lt, lemmas.List.length-map, lemmas.List.length-set, lemmas.Slice.Eq.bytes_eq-Decides}
use Rattle.std.specs.Prelude.{if◌then◌else◌, ◌==◌, Result, Ok, Err, OnOk}
use Rattle.std.specs.{List.list_any, List.slice_get, Map.lookup, Ordering.nat_cmp, BTreeSet.contains, Str.bytes_eq}
use Rattle.mc_protocol.specs.{declared.request.Request.Request, declared.request.Verb.Verb, declared.reply.Reply.Reply, Legal.is_fit, Legal.is_fit_for}
use Rattle.mc_protocol.specs.declared.request.Verb.TheVariants as verb
use Rattle.mc_protocol.specs.declared.reply.Reply.TheVariants as replies
use Rattle.mc_model.specs.declared.note.Note.TheVariants as note
use Rattle.mc_model.specs.declared.rules.HistoryKind.TheVariants as kind
use Rattle.mc_model.specs.History.{is_gets, shows_number}
use Rattle.mc_timeline.specs.RuleState.{is_shown, shown_by, opener_after, opener_of, shows_it, first_request, IsAnswered, Answers, Knows, Waits, Follows}
use Rattle.mc_timeline.specs.{declared.limits.TheConstants.CLIENTS_LIMIT, declared.key_state.KeyState.KeyState, Members.IsIn, Operations.Answer}
use Rattle.mc_timeline.specs.{Operations.Operation, Operations.on_key, Timelines.ClientNote, Timelines.operations_of, Explanations.received}
use Rattle.mc_timeline.specs.Rules as rule
use Rattle.mc_timeline.proofs.Answered.{waits_for, same_client, on_key_answered, keys_answered, none_left, others_wait}
use Rattle.mc_timeline.proofs.Following.{keep_more, none_waits, set_here, set_other}
use Rattle.mc_timeline.proofs.{Members.among_kept, Members.kept_among, Members.mapped_among, MoreNotes.answered, MoreNotes.replied}

-- ---- one key

-- none of these waits for the answer
unchanged : (client : ℕ) (answer : Answer) (xs : List Operation) → ((y : Operation) → IsIn y xs → waits_for client y ≡ true → ⊥)
    → map (answered client answer) xs ≡ xs
unchanged client answer [] none = refl
unchanged client answer (x ∷ xs) none = by (waits_for client x) refl (unchanged client answer xs (λ y h. none y (inr h)))
  where
    by : (b : Bool) → waits_for client x ≡ b → map (answered client answer) xs ≡ xs
        → cond b (record x { answer = Some answer }) x ∷ map (answered client answer) xs ≡ x ∷ xs
    by true e rest = absurd (none x (inl refl) e)
    by false e rest = ap (λ l. x ∷ l) rest

opener_answered : (client : ℕ) (answer : Answer) (x : Operation) → opener_after (opener_of x) client ≡ opener_of (answered client answer x)
opener_answered client answer x = by (eqb x.client client) refl (is_some x.answer) refl
  where
    by : (b : Bool) → eqb x.client client ≡ b → (s : Bool) → is_some x.answer ≡ s
        → opener_after (cond s None (Some x.client)) client ≡ opener_of (cond (b && not s) (record x { answer = Some answer }) x)
    by true e true f = rw f refl
    by true e false f = rw e refl
    by false e true f = rw f refl
    by false e false f = rw (e, f) refl

-- the numbers shown are those from before and that of the answer
shows_answered : (number client : ℕ) (answer : Answer) (g : Bool) (xs : List Operation)
    → ((y : Operation) → IsIn y xs → waits_for client y ≡ true → shows_it number (record y { answer = Some answer }) ≡ g)
    → list_any (shows_it number) (map (answered client answer) xs)
    ≡ ((list_any (waits_for client) xs && g) || list_any (shows_it number) xs)
shows_answered number client answer g [] each = refl
shows_answered number client answer g (x ∷ xs) each =
    by (waits_for client x) refl (shows_answered number client answer g xs (λ y h. each y (inr h)))
  where
    after : List Operation
    after = map (answered client answer) xs

    it : (t w l : Bool) → (t || ((w && t) || l)) ≡ (t || l)
    it true w l = refl
    it false true l = refl
    it false false l = refl

    other : (a w l : Bool) → (a || (w || l)) ≡ (w || (a || l))
    other true true l = refl
    other true false l = refl
    other false w l = refl

    not_shown : waits_for client x ≡ true → shows_it number x ≡ false
    not_shown e = on x.answer (and_parts (eqb x.client client) (not (is_some x.answer)) e).1
      where
        on : (o : Option Answer) → not (is_some o) ≡ true → (is_gets x.request.verb && shows_number number (received o)) ≡ false
        on (Some a) f = absurd (cc)
        on None f = by (is_gets x.request.verb)
          where
            by : (b : Bool) → (b && false) ≡ false
            by true = refl
            by false = refl

    by : (b : Bool) → waits_for client x ≡ b
        → list_any (shows_it number) after ≡ ((list_any (waits_for client) xs && g) || list_any (shows_it number) xs)
        → (shows_it number (cond b (record x { answer = Some answer }) x) || list_any (shows_it number) after)
        ≡ (((b || list_any (waits_for client) xs) && g) || (shows_it number x || list_any (shows_it number) xs))
    by true e rest =
        let now = each x (inl refl) e in
        let before = not_shown e in
        rw (now, before, rest) (it g (list_any (waits_for client) xs) (list_any (shows_it number) xs))
    by false e rest = rw rest (other (shows_it number x) (list_any (waits_for client) xs && g) (list_any (shows_it number) xs))

no_number : (b : Bool) → (b && false) ≡ false
no_number true = refl
no_number false = refl

-- a fitting reply shows its number exactly if it answers a gets
shown_of : (v : Verb) (reply : Reply) (number : ℕ) → is_fit_for v reply ≡ true
    → (is_gets v && shows_number number (Some reply)) ≡ is_shown (shown_by reply) number
shown_of v (replies.Hit flags body (Some cas)) number e = on v e
  where
    on : (v : Verb) → is_fit_for v (replies.Hit flags body (Some cas)) ≡ true → (is_gets v && (cas == number)) ≡ (cas == number)
    on verb.Gets e = refl
    on verb.Get e = absurd (cc)
    on verb.Set e = absurd (cc)
    on verb.Add e = absurd (cc)
    on verb.Replace e = absurd (cc)
    on verb.Append e = absurd (cc)
    on verb.Prepend e = absurd (cc)
    on verb.Cas e = absurd (cc)
    on verb.Incr e = absurd (cc)
    on verb.Decr e = absurd (cc)
    on verb.Delete e = absurd (cc)
    on verb.Touch e = absurd (cc)
shown_of v (replies.Hit flags body None) number e = no_number (is_gets v)
shown_of v replies.Stored number e = no_number (is_gets v)
shown_of v replies.NotStored number e = no_number (is_gets v)
shown_of v replies.Exists number e = no_number (is_gets v)
shown_of v replies.NotFound number e = no_number (is_gets v)
shown_of v replies.Miss number e = no_number (is_gets v)
shown_of v replies.Deleted number e = no_number (is_gets v)
shown_of v replies.Touched number e = no_number (is_gets v)
shown_of v (replies.Number n) number e = no_number (is_gets v)
shown_of v replies.NotNumber number e = no_number (is_gets v)

-- ---- all keys

any_in : (test : Operation → Bool) (x : Operation) (xs : List Operation) → IsIn x xs → test x ≡ true → list_any test xs ≡ true
any_in test x [] h e = absurd h
any_in test x (y ∷ xs) (inl same) e = let now = ap test (sym same) ∙ e in rw now refl
any_in test x (y ∷ xs) (inr more) e = let rest = any_in test x xs more e in rw rest (or_true (test y))
  where
    or_true : (b : Bool) → (b || true) ≡ true
    or_true true = refl
    or_true false = refl

knows_answered : (s after : KeyState) (xs : List Operation) (client : ℕ) (answer : Answer) (x : Operation)
    → is_fit x.request answer.reply ≡ true → IsIn x xs → waits_for client x ≡ true
    → ((y : Operation) → IsIn y xs → waits_for client y ≡ true → y ≡ x)
    → after.opener ≡ opener_after s.opener client
    → ((number : ℕ) → contains nat_cmp after.shown number ≡ (is_shown (shown_by answer.reply) number || contains nat_cmp s.shown number))
    → Knows (Some s) xs → Knows (Some after) (map (answered client answer) xs)
knows_answered s after [] client answer x fit here waits only opener shown k = absurd k
knows_answered s after (y ∷ xs) client answer x fit here waits only opener shown k = (
  opener ∙ ap (λ o. opener_after o client) k.0 ∙ opener_answered client answer y,
  shown_now,
)
  where
    shown_now : (number : ℕ) → contains nat_cmp after.shown number ≡ list_any (shows_it number) (map (answered client answer) (y ∷ xs))
    shown_now number =
        let g = is_shown (shown_by answer.reply) number in
        let each : (z : Operation) → IsIn z (y ∷ xs) → waits_for client z ≡ true → shows_it number (record z { answer = Some answer }) ≡ g =
        λ z h w. ap (λ (o : Operation). is_gets o.request.verb && shows_number number (Some answer.reply)) (only z h w)
        ∙ shown_of x.request.verb answer.reply number fit in
        let any = any_in (waits_for client) x (y ∷ xs) here waits in
        shown number ∙ ap (λ b. g || b) (k.1 number)
        ∙ sym (shows_answered number client answer g (y ∷ xs) each
        ∙ ap (λ b. (b && g) || list_any (shows_it number) (y ∷ xs)) any)

-- ---- what is kept of a key whose request is answered

state_is : (s t : KeyState) → Some s ≡ Some t → s ≡ t
state_is s t e = cc

pub answers_by : (key : List ℕ) (client : ℕ) (number : Option ℕ) (kept new : List (List ℕ × KeyState)) (old now : KeyState)
    → Some old ≡ lookup (bytes_eq key) kept
    → ((q : List ℕ) → lookup (bytes_eq q) new ≡ cond (bytes_eq key q) (Some now) (lookup (bytes_eq q) kept)) → length new ≡ length kept
    → now.opener ≡ opener_after old.opener client
    → ((other : ℕ) → contains nat_cmp now.shown other ≡ (is_shown number other || contains nat_cmp old.shown other))
    → Answers key client number kept new
answers_by key client number kept new old now found put count opener shown other e =
    let same = state_is old other (found ∙ e) in record {
      state = now;
      opener = opener ∙ ap (λ s. opener_after s.opener client) same;
      shown = λ n. shown n ∙ ap (λ s. is_shown number n || contains nat_cmp s.shown n) same;
      put = put;
      count = count;
    }

pub on_ok_both : {T E P Q R : Type 0} (r : Result T E) → (P → Q → R) → OnOk r P → OnOk r Q → OnOk r R
on_ok_both (Ok x) f p q = f p q
on_ok_both (Err e) f p q = tt

-- ---- the request that is answered

pub no_request : (xs : List Operation) (reply : Reply) → first_request xs ≡ None → rule.reply_fault xs reply ≡ Some kind.Order
no_request [] reply e = refl
no_request (x ∷ xs) reply e = absurd (cc)

some_is : (x y : Request) → Some x ≡ Some y → x ≡ y
some_is x y e = cc

pub fault_by : (xs : List Operation) (request : Request) (reply : Reply) → first_request xs ≡ Some request
    → rule.reply_fault xs reply ≡ (if is_fit request reply then None else Some kind.WrongReply)
fault_by [] request reply e = absurd (cc)
fault_by (x ∷ xs) request reply e = ap (λ r. if is_fit r reply then None else Some kind.WrongReply) (some_is x.request request e)

pub record Asked (client : ℕ) (operations : List Operation) (request : Request) : Type 0 where
  pub asking : Operation
  pub asks : rule.waiting_of client operations ≡ asking ∷ []
  pub same : asking.request ≡ request
  pub small : client < CLIENTS_LIMIT

pub asked : {notes : List ClientNote} {requests : ℕ} {waiting : List (Option ℕ)} {keys : List (List ℕ × KeyState)}
    → Follows notes requests waiting keys → (client : ℕ) (request : Request)
    → first_request (rule.waiting_of client (operations_of notes)) ≡ Some request → Asked client (operations_of notes) request
asked {notes} {requests} {waiting} {keys} f client request e = by (cases_lt client CLIENTS_LIMIT)
  where
    at : client < CLIENTS_LIMIT → (slot : Option (Option ℕ)) (xs : List Operation) → Waits slot xs
        → rule.waiting_of client (operations_of notes) ≡ xs → first_request xs ≡ Some request → Asked client (operations_of notes) request
    at small None xs w is e = absurd w
    at small (Some None) [] w is e = absurd (cc)
    at small (Some None) (x ∷ xs) w is e = absurd w
    at small (Some (Some place)) [] w is e = absurd w
    at small (Some (Some place)) (x ∷ []) w is e = record { asking = x; asks = is; same = some_is x.request request e; small = small }
    at small (Some (Some place)) (x ∷ y ∷ xs) w is e = absurd w

    by : (client < CLIENTS_LIMIT) ⊎ (CLIENTS_LIMIT ≤ client) → Asked client (operations_of notes) request
    by (inl small) = at small (slice_get waiting client) (rule.waiting_of client (operations_of notes)) (f.waits client small) refl e
    by (inr large) =
        let none : first_request [] ≡ Some request =
        subst (λ l. first_request l ≡ Some request) (none_waits client (operations_of notes) f.clients large) e in
        absurd (cc)

module _ {notes : List ClientNote} {requests : ℕ} {waiting : List (Option ℕ)} {keys : List (List ℕ × KeyState)}
    (f : Follows notes requests waiting keys) (client : ℕ) (reply : Reply) (x : Operation)
    (asks : rule.waiting_of client (operations_of notes) ≡ x ∷ []) (small : client < CLIENTS_LIMIT) (fit : is_fit x.request reply ≡ true) where
  abbrev told : List Operation
  told = operations_of notes

  abbrev answer : Answer
  answer = record { time = length notes; reply = reply }

  abbrev told_after : List Operation
  told_after = map (answered client answer) told

  abbrev after : List (Option ℕ)
  after = slice_set waiting client None

  slot : slice_get after client ≡ Some None
  slot = let all = f.slots in set_here waiting client None (omega arith)

  others : (q : ℕ) → q ≢ client → slice_get after q ≡ slice_get waiting q
  others q apart = set_other waiting client q None apart

  is_asked : (waits_for client x ≡ true) × IsIn x told
  is_asked = among_kept (waits_for client) x told (subst (λ l. IsIn x l) (sym asks) (inl refl))

  only_asked : (y : Operation) → IsIn y told → waits_for client y ≡ true → y ≡ x
  only_asked y h w = by (subst (λ l. IsIn y l) asks (kept_among (waits_for client) y told w h))
    where
      by : IsIn y (x ∷ []) → y ≡ x
      by (inl same) = same
      by (inr never) = absurd never

  all_small : (y : Operation) → IsIn y told_after → y.client < CLIENTS_LIMIT
  all_small y h =
      let m = mapped_among (answered client answer) y told h in
      subst (λ c. c < CLIENTS_LIMIT) (sym (ap (λ z. z.client) m.1 ∙ same_client client answer m.0)) (f.clients m.0 m.2)

  waits_after : (q : ℕ) → q < CLIENTS_LIMIT → Waits (slice_get after q) (rule.waiting_of q told_after)
  waits_after q low = by (eqb q client) refl
    where
      by : (b : Bool) → eqb q client ≡ b → Waits (slice_get after q) (rule.waiting_of q told_after)
      by true e =
          let same : client ≡ q = sym (eqb-true q client e) in
          subst (λ c. Waits (slice_get after c) (rule.waiting_of c told_after)) same
          (subst (Waits (slice_get after client)) (sym (none_left client answer told)) (subst (λ s. Waits s []) (sym slot) tt))
      by false e =
          let apart : q ≢ client = λ same. (let on = eq-eqb q client same in absurd (cc)) in
          subst (Waits (slice_get after q)) (sym (others_wait client answer q apart told))
          (subst (λ s. Waits s (rule.waiting_of q told)) (sym (others q apart)) (f.waits q low))

  follows_answer : (more : List (List ℕ × KeyState)) (s : KeyState) → lookup (bytes_eq x.request.key) keys ≡ Some s
      → IsAnswered x.request.key client (shown_by reply) s keys more
      → Follows (notes ++ (client, note.Reply reply) ∷ []) requests after more
  follows_answer more s found new =
      let all = sym (replied notes client reply) in record {
        timeline = keep_more [] notes (client, note.Reply reply) f.timeline faultless;
        counted = f.counted ∙ sym (length-map told (answered client answer)) ∙ ap length all;
        clients = subst (λ l. (y : Operation) → IsIn y l → y.client < CLIENTS_LIMIT) all all_small;
        slots = length-set waiting client None ∙ f.slots;
        waits = subst (λ l. (q : ℕ) → q < CLIENTS_LIMIT → Waits (slice_get after q) (rule.waiting_of q l)) all waits_after;
        knows = subst (λ l. (q : List ℕ) → Knows (lookup (bytes_eq q) more) (on_key q l)) all knows;
        keyed = new.count ∙ f.keyed ∙ ap length (sym (keys_answered client answer [] told)) ∙ ap (λ l. length (rule.keys_of l)) all;
      }
    where
      faultless : rule.reply_fault (rule.waiting_of client told) reply ≡ None
      faultless = ap (λ l. rule.reply_fault l reply) asks ∙ ap (λ b. if b then None else Some kind.WrongReply) fit

      knows : (q : List ℕ) → Knows (lookup (bytes_eq q) more) (on_key q told_after)
      knows q =
          subst (Knows (lookup (bytes_eq q) more)) (sym (on_key_answered client answer q told))
          (subst (λ k. Knows k (map (answered client answer) (on_key q told))) (sym (new.put q)) (by (bytes_eq x.request.key q) refl))
        where
          kept : (y : Operation) → IsIn y (on_key q told) → (bytes_eq y.request.key q ≡ true) × IsIn y told
          kept y h = among_kept (λ z. bytes_eq z.request.key q) y told h

          by : (b : Bool) → bytes_eq x.request.key q ≡ b
              → Knows (cond b (Some new.state) (lookup (bytes_eq q) keys)) (map (answered client answer) (on_key q told))
          by true e =
              let same = (bytes_eq-Decides x.request.key q).0 e in
              let here = kept_among (λ z. bytes_eq z.request.key q) x told e is_asked.1 in
              let old : Knows (Some s) (on_key q told) =
              subst (λ k. Knows k (on_key q told)) (subst (λ k. lookup (bytes_eq k) keys ≡ Some s) same found) (f.knows q) in
              knows_answered s new.state (on_key q told) client answer x fit here is_asked.0 (λ y h w. only_asked y (kept y h).1 w) new.opener new.shown old
          by false e =
              let none : (y : Operation) → IsIn y (on_key q told) → waits_for client y ≡ true → ⊥ =
              λ y h w. (let same = ap (λ z. bytes_eq z.request.key q) (sym (only_asked y (kept y h).1 w)) in
              let there = (kept y h).0 in
              absurd (cc)) in
              subst (Knows (lookup (bytes_eq q) keys)) (sym (unchanged client answer (on_key q told) none)) (f.knows q)

  -- and once a builder keeps it
  pub follows_kept : (more : List (List ℕ × KeyState)) → Answers x.request.key client (shown_by reply) keys more
      → Follows (notes ++ (client, note.Reply reply) ∷ []) requests after more
  follows_kept more answers = by (lookup (bytes_eq x.request.key) keys) refl
    where
      there : IsIn x (on_key x.request.key told)
      there = kept_among (λ z. bytes_eq z.request.key x.request.key) x told ((bytes_eq-Decides x.request.key x.request.key).1 refl) is_asked.1

      by : (found : Option KeyState) → lookup (bytes_eq x.request.key) keys ≡ found
          → Follows (notes ++ (client, note.Reply reply) ∷ []) requests after more
      by None e = absurd (never (on_key x.request.key told) there (subst (λ s. Knows s (on_key x.request.key told)) e (f.knows x.request.key)))
        where
          never : (xs : List Operation) → IsIn x xs → Knows None xs → ⊥
          never [] h k = h
          never (y ∷ xs) h k = k
      by (Some s) e = follows_answer more s e (answers s e)

-- a builder follows the notes once a reply came
pub follows_reply : {notes : List ClientNote} {requests : ℕ} {waiting : List (Option ℕ)} {keys : List (List ℕ × KeyState)}
    → Follows notes requests waiting keys → (client : ℕ) (reply : Reply) (request : Request) (more : List (List ℕ × KeyState))
    → first_request (rule.waiting_of client (operations_of notes)) ≡ Some request → is_fit request reply ≡ true
    → Answers request.key client (shown_by reply) keys more
    → Follows (notes ++ (client, note.Reply reply) ∷ []) requests (slice_set waiting client None) more
follows_reply {notes} {requests} {waiting} {keys} f client reply request more e fit answers =
    let a = asked f client request e in
    follows_kept f client reply a.asking a.asks a.small (subst (λ r. is_fit r reply ≡ true) (sym a.same) fit) more
    (subst (λ r. Answers r.key client (shown_by reply) keys more) (sym a.same) answers)
