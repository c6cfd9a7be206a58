-- What a builder knows of the notes, and what each test of it says.
use Rattle.std.proofs.Common.{◌≡◌, ◌≢◌, ◌<◌, ◌≤◌, ◌⊎◌, inl, inr, ℕ, zero, suc, Bool, true, false, cond, not, ◌&&◌, ◌||◌, eqb, is_some}
use Rattle.std.proofs.Common.{Option, Some, None, List, [], ◌∷◌, ◌++◌, append_assoc, map, replicate, slice_set, length, refl, ap, subst, sym, ◌∙◌, arith}
use Rattle.std.proofs.{lemmas.Bool.cases_lt, lemmas.Bool.eqb-true, lemmas.List.append-nil, lemmas.Option.slice_get_past, lemmas.Slice.Eq.bytes_eq-Decides}
use Rattle.std.specs.Prelude.{if◌then◌else◌}
use Rattle.std.specs.{List.list_any, List.slice_get, Map.lookup, Str.bytes_eq}
use Rattle.mc_protocol.specs.declared.{request.Request.Request}
use Rattle.mc_protocol.specs.declared.request.Verb.TheVariants as verb
use Rattle.mc_model.specs.declared.note.Note.TheVariants as note
use Rattle.mc_model.specs.History.{is_cas, is_gets, shows, shows_number}
use Rattle.mc_timeline.specs.RuleState.{knows_number, first_request, is_asked, shows_it, Knows, Waits, request_in, begun_at, Follows}
use Rattle.mc_timeline.specs.{declared.limits.TheConstants.CLIENTS_LIMIT, declared.key_state.KeyState.KeyState, Members.IsIn, Operations.Operation}
use Rattle.mc_timeline.specs.{Operations.on_key, Timelines.ClientNote, Timelines.operations_of, Explanations.received}
use Rattle.mc_timeline.specs.Rules as rule
use Rattle.mc_timeline.proofs.{Members.among_kept, MoreNotes.begin_note}

-- ---- texts

bytes_eq_turned : (a b : List ℕ) → bytes_eq a b ≡ bytes_eq b a
bytes_eq_turned a b = by (bytes_eq a b) refl (bytes_eq b a) refl
  where
    by : (x : Bool) → bytes_eq a b ≡ x → (y : Bool) → bytes_eq b a ≡ y → x ≡ y
    by true e true f = refl
    by false e false f = refl
    by true e false f = let back = (bytes_eq-Decides b a).1 (sym ((bytes_eq-Decides a b).0 e)) in absurd (cc)
    by false e true f = let back = (bytes_eq-Decides a b).1 (sym ((bytes_eq-Decides b a).0 f)) in absurd (cc)

-- ---- the rules of one more note

pub keep_more : (earlier notes : List ClientNote) (next : ClientNote) → rule.KeepRules earlier notes → rule.fault_of (earlier ++ notes) next ≡ None
    → rule.KeepRules earlier (notes ++ next ∷ [])
keep_more earlier [] next k e = (subst (λ l. rule.fault_of l next ≡ None) (append-nil earlier) e, tt)
keep_more earlier (n ∷ notes) next k e =
    (k.0, keep_more (earlier ++ n ∷ []) notes next k.1 (subst (λ l. rule.fault_of l next ≡ None) (sym (append_assoc earlier (n ∷ []) notes)) e))

-- ---- keys

pub any_more : (q key : List ℕ) (keys : List (List ℕ)) → list_any (bytes_eq q) (keys ++ key ∷ []) ≡ (bytes_eq q key || list_any (bytes_eq q) keys)
any_more q key [] = refl
any_more q key (k ∷ keys) = rw (any_more q key keys) (swapped (bytes_eq q k) (bytes_eq q key) (list_any (bytes_eq q) keys))
  where
    swapped : (a b c : Bool) → (a || (b || c)) ≡ (b || (a || c))
    swapped true true c = refl
    swapped true false c = refl
    swapped false true c = refl
    swapped false false c = refl

-- a key is among the keys exactly if an operation is on it
any_after : (q : List ℕ) (keys : List (List ℕ)) (operations : List Operation)
    → list_any (bytes_eq q) (rule.keys_after keys operations) ≡ (list_any (bytes_eq q) keys || not (rule.is_unused (on_key q operations)))
any_after q keys [] = sym (or_false (list_any (bytes_eq q) keys))
  where
    or_false : (b : Bool) → (b || false) ≡ b
    or_false true = refl
    or_false false = refl
any_after q keys (x ∷ operations) =
    any_after q (rule.with_key keys x.request.key) operations
    ∙ by (list_any (bytes_eq x.request.key) keys) refl (bytes_eq x.request.key q) refl
  where
    others : Bool
    others = not (rule.is_unused (on_key q operations))

    both : (a b c : Bool) → ((b || a) || c) ≡ (a || cond b true c)
    both true true c = refl
    both true false c = refl
    both false true c = refl
    both false false c = refl

    unused : (b : Bool) → not (rule.is_unused (cond b (x ∷ on_key q operations) (on_key q operations))) ≡ cond b true others
    unused true = refl
    unused false = refl

    there : (a c : Bool) → a ≡ true → (a || c) ≡ (a || true)
    there true c e = refl
    there false c e = absurd (cc)

    by : (known : Bool) → list_any (bytes_eq x.request.key) keys ≡ known → (b : Bool) → bytes_eq x.request.key q ≡ b
        → (list_any (bytes_eq q) (if known then keys else (keys ++ x.request.key ∷ [])) || others)
        ≡ (list_any (bytes_eq q) keys || not (rule.is_unused (cond b (x ∷ on_key q operations) (on_key q operations))))
    by true e true f =
        let same = (bytes_eq-Decides x.request.key q).0 f in
        there (list_any (bytes_eq q) keys) others (subst (λ k. list_any (bytes_eq k) keys ≡ true) same e)
    by true e false f = refl
    by false e b f =
        ap (λ l. l || others) (any_more q x.request.key keys ∙ ap (λ t. t || list_any (bytes_eq q) keys) (bytes_eq_turned q x.request.key ∙ f))
        ∙ both (list_any (bytes_eq q) keys) b others ∙ ap (λ t. list_any (bytes_eq q) keys || t) (sym (unused b))

pub key_known : (key : List ℕ) (operations : List Operation)
    → list_any (bytes_eq key) (rule.keys_of operations) ≡ not (rule.is_unused (on_key key operations))
key_known key operations = any_after key [] operations

keys_after_more : (keys : List (List ℕ)) (operations : List Operation) (x : Operation)
    → rule.keys_after keys (operations ++ x ∷ []) ≡ rule.with_key (rule.keys_after keys operations) x.request.key
keys_after_more keys [] x = refl
keys_after_more keys (y ∷ operations) x = keys_after_more (rule.with_key keys y.request.key) operations x

pub keys_more : (operations : List Operation) (x : Operation)
    → rule.keys_of (operations ++ x ∷ []) ≡ rule.with_key (rule.keys_of operations) x.request.key
keys_more operations x = keys_after_more [] operations x

-- ---- what is kept of a key

pub is_known : (s : Option KeyState) (xs : List Operation) → Knows s xs → is_some s ≡ not (rule.is_unused xs)
is_known None [] k = refl
is_known None (x ∷ xs) k = absurd k
is_known (Some s) [] k = absurd k
is_known (Some s) (x ∷ xs) k = refl

-- the numbers shown of a key are those of its operations
pub shown_on : (key : List ℕ) (number : ℕ) (operations : List Operation)
    → list_any (shows key number) (map rule.sent_of operations) ≡ list_any (shows_it number) (on_key key operations)
shown_on key number [] = refl
shown_on key number (x ∷ operations) = by (bytes_eq x.request.key key) (shown_on key number operations)
  where
    only : (g b n : Bool) (l m : Bool) → l ≡ m → (((g && b) && n) || l) ≡ cond b ((g && n) || m) m
    only true true n l m e = ap (λ t. n || t) e
    only true false n l m e = e
    only false true n l m e = e
    only false false n l m e = e

    by : (b : Bool) → list_any (shows key number) (map rule.sent_of operations) ≡ list_any (shows_it number) (on_key key operations)
        → (((is_gets x.request.verb && b) && shows_number number (received x.answer)) || list_any (shows key number) (map rule.sent_of operations))
        ≡ list_any (shows_it number) (cond b (x ∷ on_key key operations) (on_key key operations))
    by b rest =
        only (is_gets x.request.verb) b (shows_number number (received x.answer)) (list_any (shows key number) (map rule.sent_of operations))
        (list_any (shows_it number) (on_key key operations)) rest ∙ taken b
      where
        taken : (b : Bool)
            → cond b (shows_it number x || list_any (shows_it number) (on_key key operations)) (list_any (shows_it number) (on_key key operations))
            ≡ list_any (shows_it number) (cond b (x ∷ on_key key operations) (on_key key operations))
        taken true = refl
        taken false = refl

seen_by : (s : Option KeyState) (xs : List Operation) (number : ℕ) → Knows s xs → list_any (shows_it number) xs ≡ knows_number s number
seen_by None [] number k = refl
seen_by None (x ∷ xs) number k = absurd k
seen_by (Some s) [] number k = absurd k
seen_by (Some s) (x ∷ xs) number k = sym (k.1 number)

-- ---- what a builder tests

-- the client waits
waits_now : (slot : Option (Option ℕ)) (xs : List Operation) → Waits slot xs → is_asked slot ≡ not (rule.is_unused xs)
waits_now None xs w = absurd w
waits_now (Some None) [] w = refl
waits_now (Some None) (x ∷ xs) w = absurd w
waits_now (Some (Some place)) [] w = absurd w
waits_now (Some (Some place)) (x ∷ []) w = refl
waits_now (Some (Some place)) (x ∷ y ∷ xs) w = absurd w

-- a client whose number is too large has no operation
pub none_waits : (client : ℕ) (operations : List Operation) → ((x : Operation) → IsIn x operations → x.client < CLIENTS_LIMIT)
    → CLIENTS_LIMIT ≤ client → rule.waiting_of client operations ≡ []
none_waits client [] clients large = refl
none_waits client (x ∷ operations) clients large =
    by (eqb x.client client) refl (none_waits client operations (λ y h. clients y (inr h)) large)
  where
    by : (b : Bool) → eqb x.client client ≡ b → rule.waiting_of client operations ≡ []
        → cond (b && not (is_some x.answer)) (x ∷ rule.waiting_of client operations) (rule.waiting_of client operations) ≡ []
    by true e rest = let same = eqb-true x.client client e in let small = clients x (inl refl) in absurd (omega arith)
    by false e rest = rest

module _ {notes : List ClientNote} {requests : ℕ} {waiting : List (Option ℕ)} {keys : List (List ℕ × KeyState)}
    (f : Follows notes requests waiting keys) where
  abbrev told : List Operation
  told = operations_of notes

  past : (client : ℕ) → CLIENTS_LIMIT ≤ client → slice_get waiting client ≡ None
  past client large = let slots = f.slots in slice_get_past waiting client (omega arith)

  pub tests_waiting : (client : ℕ) → is_asked (slice_get waiting client) ≡ not (rule.is_unused (rule.waiting_of client told))
  tests_waiting client = by (cases_lt client CLIENTS_LIMIT)
    where
      by : (client < CLIENTS_LIMIT) ⊎ (CLIENTS_LIMIT ≤ client)
          → is_asked (slice_get waiting client) ≡ not (rule.is_unused (rule.waiting_of client told))
      by (inl small) = waits_now (slice_get waiting client) (rule.waiting_of client told) (f.waits client small)
      by (inr large) =
          ap is_asked (past client large) ∙ ap (λ l. not (rule.is_unused l)) (sym (none_waits client told f.clients large))

  pub tests_seen : (request : Request)
      → (not (is_cas request.verb) || knows_number (lookup (bytes_eq request.key) keys) request.number) ≡ rule.is_number_seen told request
  tests_seen request =
      ap (λ b. not (is_cas request.verb) || b)
      (sym (shown_on request.key request.number told
      ∙ seen_by (lookup (bytes_eq request.key) keys) (on_key request.key told) request.number (f.knows request.key)))

  pub seen_cas : (request : Request) → request.verb ≡ verb.Cas
      → knows_number (lookup (bytes_eq request.key) keys) request.number ≡ rule.is_number_seen told request
  seen_cas request cas =
      sym (ap (λ v. not (is_cas v) || knows_number (lookup (bytes_eq request.key) keys) request.number) cas) ∙ tests_seen request

  -- the request that began at the place that is kept of a client
  pub finds_request : (client : ℕ) → begun_at notes (slice_get waiting client) ≡ first_request (rule.waiting_of client told)
  finds_request client = by (cases_lt client CLIENTS_LIMIT)
    where
      at : (slot : Option (Option ℕ)) (xs : List Operation) → rule.waiting_of client told ≡ xs → Waits slot xs
          → begun_at notes slot ≡ first_request xs
      at None xs e w = absurd w
      at (Some None) [] e w = refl
      at (Some None) (x ∷ xs) e w = absurd w
      at (Some (Some place)) [] e w = absurd w
      at (Some (Some place)) (x ∷ []) e w =
          let there : IsIn x (rule.waiting_of client told) = subst (λ l. IsIn x l) (sym e) (inl refl) in
          let noted = begin_note notes x (among_kept (λ y. eqb y.client client && not (is_some y.answer)) x told there).1 in
          ap request_in (subst (λ k. slice_get notes k ≡ Some (x.client, note.Begin x.request)) w noted)
      at (Some (Some place)) (x ∷ y ∷ xs) e w = absurd w

      by : (client < CLIENTS_LIMIT) ⊎ (CLIENTS_LIMIT ≤ client) → begun_at notes (slice_get waiting client) ≡ first_request (rule.waiting_of client told)
      by (inl small) = at (slice_get waiting client) (rule.waiting_of client told) refl (f.waits client small)
      by (inr large) = ap (begun_at notes) (past client large) ∙ ap first_request (sym (none_waits client told f.clients large))

-- ---- before the first note

-- this many clients, of which nothing is kept
abbrev pub none_kept : ℕ → List (Option ℕ)
none_kept count = replicate count None

all_free : (count : ℕ) → length (none_kept count) ≡ count
all_free zero = refl
all_free (suc count) = let rest = all_free count in omega arith

free_slot : (count client : ℕ) → client < count → slice_get (none_kept count) client ≡ Some None
free_slot zero client less = absurd (omega arith)
free_slot (suc count) zero less = refl
free_slot (suc count) (suc client) less = free_slot count client (omega arith)

pub nothing_yet : (notes : List ClientNote) (keys : List (List ℕ × KeyState)) → notes ≡ [] → keys ≡ []
    → Follows notes 0 (none_kept CLIENTS_LIMIT) keys
nothing_yet notes keys n k =
    subst (λ l. Follows l 0 (none_kept CLIENTS_LIMIT) keys) (sym n)
    (subst (Follows [] 0 (none_kept CLIENTS_LIMIT)) (sym k) (record {
      timeline = tt;
      counted = refl;
      clients = λ x h. absurd h;
      slots = all_free CLIENTS_LIMIT;
      waits = λ client small. subst (λ s. Waits s []) (sym (free_slot CLIENTS_LIMIT client small)) tt;
      knows = λ key. tt;
      keyed = refl;
    }))

-- ---- a slot is set

pub set_here : {X : Type 0} (xs : List X) (i : ℕ) (v : X) → i < length xs → slice_get (slice_set xs i v) i ≡ Some v
set_here [] i v less = absurd (omega arith)
set_here (x ∷ xs) zero v less = refl
set_here (x ∷ xs) (suc i) v less = set_here xs i v (omega arith)

pub set_other : {X : Type 0} (xs : List X) (i j : ℕ) (v : X) → j ≢ i → slice_get (slice_set xs i v) j ≡ slice_get xs j
set_other [] i j v apart = refl
set_other (x ∷ xs) zero zero v apart = absurd (apart refl)
set_other (x ∷ xs) zero (suc j) v apart = refl
set_other (x ∷ xs) (suc i) zero v apart = refl
set_other (x ∷ xs) (suc i) (suc j) v apart = set_other xs i j v (λ same. apart (ap suc same))
