-- What a builder knows once a request began.
use Rattle.std.proofs.Common.{◌≡◌, ◌≢◌, ◌<◌, ◌+◌, ◌⊎◌, inl, inr, ℕ, Bool, true, false, cond, not, ◌&&◌, ◌||◌, eqb, eqb-true, is_some}
use Rattle.std.proofs.Common.{Option, Some, None, List, [], ◌∷◌, ◌++◌, slice_set, length, refl, ap, subst, sym, ◌∙◌, arith}
use Rattle.std.proofs.{lemmas.Bool.leb-false, lemmas.Bool.eqb-false, lemmas.List.append-nil, lemmas.List.length-append, lemmas.List.length-set}
use Rattle.std.proofs.{lemmas.List.Elements.filter-append, lemmas.List.Folds.list_any-append, lemmas.Slice.Eq.bytes_eq-Decides}
use Rattle.std.specs.Prelude.{nat_le, if◌then◌else◌}
use Rattle.std.specs.{List.list_any, List.slice_get, Map.lookup, Ordering.nat_cmp, BTreeSet.contains, Str.bytes_eq}
use Rattle.mc_protocol.specs.declared.request.Request.{Request}
use Rattle.mc_model.specs.declared.note.Note.TheVariants as note
use Rattle.mc_model.specs.declared.rules.HistoryKind.TheVariants as kind
use Rattle.mc_model.specs.History.{has_words, is_gets}
use Rattle.mc_timeline.specs.declared.limits.TheConstants.{CLIENTS_LIMIT, OPERATIONS_LIMIT, TIMELINE_KEYS_LIMIT}
use Rattle.mc_timeline.specs.declared.key_state.KeyState.{KeyState}
use Rattle.mc_timeline.specs.RuleState.{shows_it, Knows, Waits, IsNew, Opens, Follows}
use Rattle.mc_timeline.specs.{Members.IsIn, Operations.Operation, Operations.on_key, Timelines.ClientNote, Timelines.operations_of}
use Rattle.mc_timeline.specs.Rules as rule
use Rattle.mc_timeline.proofs.Following.{keep_more, key_known, keys_more, is_known, set_here, set_other}
use Rattle.mc_timeline.proofs.{Members.among_parts, MoreNotes.unanswered, MoreNotes.begun}

-- no rule is broken: there is room, and the client doesn't wait
chain : (w f u m s : Bool)
    → (if not w then Some kind.Line
    else (if f then Some kind.TooMany
    else (if not u then Some kind.Order
    else (if not m then Some kind.NotCleared
    else (if not s then Some kind.UnseenNumber else None)))))
    ≡ None → (f ≡ false) × (u ≡ true)
chain false f u m s e = absurd (cc)
chain true true u m s e = absurd (cc)
chain true false false m s e = absurd (cc)
chain true false true m s e = (refl, refl)

pub room_and_free : (operations : List Operation) (client : ℕ) (request : Request) → rule.begin_fault operations client request ≡ None
    → (rule.is_full operations client request ≡ false) × (rule.is_unused (rule.waiting_of client operations) ≡ true)
room_and_free operations client request e =
    chain (has_words request) (rule.is_full operations client request) (rule.is_unused (rule.waiting_of client operations))
    (rule.may_follow (on_key request.key operations) request.verb) (rule.is_number_seen operations request) e

or_left : (a b : Bool) → (a || b) ≡ false → a ≡ false
or_left false b e = refl
or_left true b e = absurd (cc)

or_right : (a b : Bool) → (a || b) ≡ false → b ≡ false
or_right false b e = e
or_right true b e = absurd (cc)

has_room : (operations : List Operation) (client : ℕ) (request : Request) → rule.is_full operations client request ≡ false
    → nat_le OPERATIONS_LIMIT (length operations) ≡ false
has_room operations client request e =
    or_right (nat_le CLIENTS_LIMIT client) (nat_le OPERATIONS_LIMIT (length operations))
    (or_left (nat_le CLIENTS_LIMIT client || nat_le OPERATIONS_LIMIT (length operations))
    (nat_le TIMELINE_KEYS_LIMIT (length (rule.keys_of operations)) && rule.is_unused (on_key request.key operations)) e)

pub is_small : (operations : List Operation) (client : ℕ) (request : Request) → rule.is_full operations client request ≡ false
    → client < CLIENTS_LIMIT
is_small operations client request e =
    leb-false CLIENTS_LIMIT client
    (or_left (nat_le CLIENTS_LIMIT client) (nat_le OPERATIONS_LIMIT (length operations))
    (or_left (nat_le CLIENTS_LIMIT client || nat_le OPERATIONS_LIMIT (length operations))
    (nat_le TIMELINE_KEYS_LIMIT (length (rule.keys_of operations)) && rule.is_unused (on_key request.key operations)) e))

pub none_of : (xs : List Operation) → rule.is_unused xs ≡ true → xs ≡ []
none_of [] e = refl
none_of (x ∷ xs) e = absurd (cc)

-- a new operation shows no number
shows_none : (number client place : ℕ) (request : Request) → shows_it number (unanswered client request place) ≡ false
shows_none number client place request = by (is_gets request.verb)
  where
    by : (b : Bool) → (b && false) ≡ false
    by true = refl
    by false = refl

or_none : (b : Bool) → (b || (false || false)) ≡ b
or_none true = refl
or_none false = refl

-- what is kept of a key that has operations is so with one more
knows_more : (s : Option KeyState) (xs : List Operation) (client place : ℕ) (request : Request) → rule.is_unused xs ≡ false → Knows s xs
    → Knows s (xs ++ unanswered client request place ∷ [])
knows_more s [] client place request some k = absurd (cc)
knows_more None (x ∷ xs) client place request some k = absurd k
knows_more (Some s) (x ∷ xs) client place request some k = (k.0, shown)
  where
    shown : (number : ℕ) → contains nat_cmp s.shown number ≡ list_any (shows_it number) (x ∷ xs ++ unanswered client request place ∷ [])
    shown number =
        k.1 number
        ∙ sym (list_any-append (shows_it number) (x ∷ xs) (unanswered client request place ∷ [])
        ∙ ap (λ b. list_any (shows_it number) (x ∷ xs) || (b || false)) (shows_none number client place request)
        ∙ or_none (list_any (shows_it number) (x ∷ xs)))

-- and of a new key what it opens with
knows_first : (s : KeyState) (client place : ℕ) (request : Request) → s.opener ≡ Some client
    → ((number : ℕ) → contains nat_cmp s.shown number ≡ false) → Knows (Some s) (unanswered client request place ∷ [])
knows_first s client place request opener shown =
    (opener, (λ number. shown number ∙ sym (ap (λ b. b || false) (shows_none number client place request))))

module _ {notes : List ClientNote} {requests : ℕ} {waiting : List (Option ℕ)} {keys : List (List ℕ × KeyState)}
    (f : Follows notes requests waiting keys) (client : ℕ) (request : Request)
    (faultless : rule.begin_fault (operations_of notes) client request ≡ None) where
  abbrev told : List Operation
  told = operations_of notes

  abbrev next : Operation
  next = unanswered client request (length notes)

  rules : (rule.is_full told client request ≡ false) × (rule.is_unused (rule.waiting_of client told) ≡ true)
  rules = room_and_free told client request faultless

  pub small : client < CLIENTS_LIMIT
  small = is_small told client request rules.0

  pub few : requests < OPERATIONS_LIMIT
  few =
      let room = leb-false OPERATIONS_LIMIT (length told) (has_room told client request rules.0) in
      let old = f.counted in
      omega arith

  abbrev after : List (Option ℕ)
  after = slice_set waiting client (Some (length notes))

  slot : slice_get after client ≡ Some (Some (length notes))
  slot = let all = f.slots in let low = small in set_here waiting client (Some (length notes)) (omega arith)

  others : (q : ℕ) → q ≢ client → slice_get after q ≡ slice_get waiting q
  others q apart = set_other waiting client q (Some (length notes)) apart

  all_small : (x : Operation) → IsIn x (told ++ next ∷ []) → x.client < CLIENTS_LIMIT
  all_small x h = by (among_parts x told (next ∷ []) h)
    where
      by : IsIn x told ⊎ IsIn x (next ∷ []) → x.client < CLIENTS_LIMIT
      by (inl old) = f.clients x old
      by (inr (inl same)) = subst (λ y. y.client < CLIENTS_LIMIT) (sym same) small
      by (inr (inr never)) = absurd never

  waits_more : (q : ℕ) → q < CLIENTS_LIMIT → Waits (slice_get after q) (rule.waiting_of q (told ++ next ∷ []))
  waits_more q low =
      subst (Waits (slice_get after q)) (sym (filter-append (λ x. eqb x.client q && not (is_some x.answer)) told (next ∷ []))) (by (eqb client q) refl)
    where
      by : (b : Bool) → eqb client q ≡ b → Waits (slice_get after q) (rule.waiting_of q told ++ cond (b && true) (next ∷ []) [])
      by true e =
          let same : client ≡ q = eqb-true client q e in
          subst (λ c. Waits (slice_get after c) (rule.waiting_of c told ++ next ∷ [])) same
          (subst (λ l. Waits (slice_get after client) (l ++ next ∷ [])) (sym (none_of (rule.waiting_of client told) rules.1))
          (subst (λ s. Waits s (next ∷ [])) (sym slot) refl))
      by false e =
          let apart : q ≢ client = λ same. eqb-false client q e (sym same) in
          subst (Waits (slice_get after q)) (sym (append-nil (rule.waiting_of q told)))
          (subst (λ s. Waits s (rule.waiting_of q told)) (sym (others q apart)) (f.waits q low))

  -- at each key: the operations on it
  on_more : (q : List ℕ) → on_key q (told ++ next ∷ []) ≡ on_key q told ++ cond (bytes_eq request.key q) (next ∷ []) []
  on_more q = filter-append (λ x. bytes_eq x.request.key q) told (next ∷ [])

  counted : requests + 1 ≡ length (told ++ next ∷ [])
  counted = let old = f.counted in let len = length-append told (next ∷ []) in omega arith

  there_is : is_some (lookup (bytes_eq request.key) keys) ≡ not (rule.is_unused (on_key request.key told))
  there_is = is_known (lookup (bytes_eq request.key) keys) (on_key request.key told) (f.knows request.key)

  keyed_by : (b : Bool) → is_some (lookup (bytes_eq request.key) keys) ≡ b
      → rule.keys_of (told ++ next ∷ []) ≡ (if b then rule.keys_of told else (rule.keys_of told ++ request.key ∷ []))
  keyed_by b e =
      keys_more told next
      ∙ ap (λ t. if t then rule.keys_of told else (rule.keys_of told ++ request.key ∷ [])) (key_known request.key told ∙ sym there_is ∙ e)

  abbrev Goal : List (List ℕ × KeyState) → Type 0
  Goal kept = Follows (notes ++ (client, note.Begin request) ∷ []) (requests + 1) after kept

  follows_by : (kept : List (List ℕ × KeyState)) → ((q : List ℕ) → Knows (lookup (bytes_eq q) kept) (on_key q (told ++ next ∷ [])))
      → length kept ≡ length (rule.keys_of (told ++ next ∷ [])) → Goal kept
  follows_by kept knows keyed =
      let told_more = sym (begun notes client request) in record {
        timeline = keep_more [] notes (client, note.Begin request) f.timeline faultless;
        counted = subst (λ l. requests + 1 ≡ length l) told_more counted;
        clients = subst (λ l. (x : Operation) → IsIn x l → x.client < CLIENTS_LIMIT) told_more all_small;
        slots = length-set waiting client (Some (length notes)) ∙ f.slots;
        waits = subst (λ l. (q : ℕ) → q < CLIENTS_LIMIT → Waits (slice_get after q) (rule.waiting_of q l)) told_more waits_more;
        knows = subst (λ l. (q : List ℕ) → Knows (lookup (bytes_eq q) kept) (on_key q l)) told_more knows;
        keyed = subst (λ l. length kept ≡ length (rule.keys_of l)) told_more keyed;
      }

  -- the key had a request
  follows_known : is_some (lookup (bytes_eq request.key) keys) ≡ true → Goal keys
  follows_known there = follows_by keys knows (f.keyed ∙ ap length (sym (keyed_by true there)))
    where
      used : rule.is_unused (on_key request.key told) ≡ false
      used = by (rule.is_unused (on_key request.key told)) (sym there_is ∙ there)
        where
          by : (b : Bool) → not b ≡ true → b ≡ false
          by true e = absurd (cc)
          by false e = refl

      knows : (q : List ℕ) → Knows (lookup (bytes_eq q) keys) (on_key q (told ++ next ∷ []))
      knows q = subst (Knows (lookup (bytes_eq q) keys)) (sym (on_more q)) (by (bytes_eq request.key q) refl)
        where
          by : (b : Bool) → bytes_eq request.key q ≡ b → Knows (lookup (bytes_eq q) keys) (on_key q told ++ cond b (next ∷ []) [])
          by true e =
              let same = (bytes_eq-Decides request.key q).0 e in
              knows_more (lookup (bytes_eq q) keys) (on_key q told) client (length notes) request
              (subst (λ k. rule.is_unused (on_key k told) ≡ false) same used) (f.knows q)
          by false e = subst (Knows (lookup (bytes_eq q) keys)) (sym (append-nil (on_key q told))) (f.knows q)

  -- the key is new
  follows_new : (more : List (List ℕ × KeyState)) → IsNew request.key client keys more → Goal more
  follows_new more new = follows_by more knows keyed
    where
      keyed : length more ≡ length (rule.keys_of (told ++ next ∷ []))
      keyed =
          let all : length (rule.keys_of (told ++ next ∷ [])) ≡ length (rule.keys_of told ++ request.key ∷ []) =
          ap length (keyed_by false (ap (λ s. is_some s) new.absent)) in
          let one = length-append (rule.keys_of told) (request.key ∷ []) in
          let old = f.keyed in
          let len = new.count in
          omega arith

      unused : on_key request.key told ≡ []
      unused = by (on_key request.key told) (subst (λ s. Knows s (on_key request.key told)) new.absent (f.knows request.key))
        where
          by : (xs : List Operation) → Knows None xs → xs ≡ []
          by [] k = refl
          by (x ∷ xs) k = absurd k

      knows : (q : List ℕ) → Knows (lookup (bytes_eq q) more) (on_key q (told ++ next ∷ []))
      knows q =
          subst (Knows (lookup (bytes_eq q) more)) (sym (on_more q))
          (subst (λ s. Knows s (on_key q told ++ cond (bytes_eq request.key q) (next ∷ []) [])) (sym (new.put q)) (by (bytes_eq request.key q) refl))
        where
          by : (b : Bool) → bytes_eq request.key q ≡ b
              → Knows (cond b (Some new.state) (lookup (bytes_eq q) keys)) (on_key q told ++ cond b (next ∷ []) [])
          by true e =
              let same = (bytes_eq-Decides request.key q).0 e in
              subst (λ k. Knows (Some new.state) (on_key k told ++ next ∷ [])) same
              (subst (λ l. Knows (Some new.state) (l ++ next ∷ [])) (sym unused) (knows_first new.state client (length notes) request new.opener new.shown))
          by false e = subst (Knows (lookup (bytes_eq q) keys)) (sym (append-nil (on_key q told))) (f.knows q)

  -- and once a builder keeps it
  pub follows_begin : (more : List (List ℕ × KeyState)) → Opens request.key client keys more → Goal more
  follows_begin more (inl (there, same)) = subst Goal (sym same) (follows_known there)
  follows_begin more (inr new) = follows_new more new
