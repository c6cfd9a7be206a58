-- Keys that are cleared: a request in P is on them, and the first is a delete.
use Rattle.std.proofs.Common.{◌≡◌, ℕ, Bool, true, false, cond, ◌&&◌, ◌||◌, inl, inr, Some}
use Rattle.std.proofs.Common.{List, [], ◌∷◌, ◌++◌, append_assoc, append-nil, refl, sym, ap, ap₂, subst, ◌∙◌, arith}
use Rattle.std.proofs.lemmas.Bool.{cases_Bool, and_parts, both_ways, false_from_ne_true}
use Rattle.std.proofs.{lemmas.List.Folds.list_all-append, lemmas.List.Folds.list_any-append, lemmas.Slice.Eq.bytes_eq-Decides}
use Rattle.std.specs.List.{list_all, find}
use Rattle.mc_model.specs.History.{is_on, has_key, is_delete, is_a_delete, clears, is_cleared, comes_late}
use Rattle.mc_model.specs.{Types.Actor, Types.Sent, Sections.Sections, Sections.with_sent}
use Rattle.mc_protocol.specs.declared.actor.Actor.TheVariants as actor
use Rattle.mc_model.specs.Next as next
use Rattle.mc_model.proofs.{Added.every_added, Turns.no_branch}

-- the first request on a key is that of the front, if the front has one
clears-append : (p more : List Sent) (key : List ℕ) → clears (p ++ more) key ≡ cond (has_key key p) (clears p key) (clears more key)
clears-append [] more key = refl
clears-append (x ∷ p) more key =
    elim (is_on key x) as (λ b. is_a_delete (cond b (Some x) (find (is_on key) (p ++ more)))
    ≡ cond (b || has_key key p) (is_a_delete (cond b (Some x) (find (is_on key) p))) (clears more key)) [
      | true ↦ refl
      | false ↦ clears-append p more key
    ]

-- what clears a key has a request on it
pub has_key-clears : (p : List Sent) (key : List ℕ) → clears p key ≡ true → has_key key p ≡ true
has_key-clears p key cleared = first (has_key key p) (sym (ap (λ l. clears l key) (append-nil p)) ∙ clears-append p [] key) cleared
  where
    first : (b : Bool) → clears p key ≡ cond b (clears p key) false → clears p key ≡ true → b ≡ true
    first b e f = grind arith

-- a request of a list where each one's key is cleared, on a key: the key is cleared
clears-of : (p : List Sent) (key : List ℕ) (xs : List Sent) → list_all (λ sent. clears p sent.request.key) xs ≡ true → has_key key xs ≡ true
    → clears p key ≡ true
clears-of p key [] all one = cc
clears-of p key (x ∷ xs) all one =
    let parts = and_parts (clears p x.request.key) (list_all (λ sent. clears p sent.request.key) xs) all in
    elim (cases_Bool (is_on key x)) [
      | inl e ↦ subst (λ k. clears p k ≡ true) ((bytes_eq-Decides x.request.key key).0 e) parts.0
      | inr e ↦ clears-of p key xs parts.1 (sym (ap (λ b. b || has_key key xs) e) ∙ one)
    ]

-- the three sections, each of whose keys is cleared
pub cleared_parts : (s : Sections) → is_cleared s ≡ true
    → (list_all (λ sent. clears s.p sent.request.key) s.p ≡ true) × (list_all (λ sent. clears s.p sent.request.key) s.a ≡ true)
    × (list_all (λ sent. clears s.p sent.request.key) s.b ≡ true)
cleared_parts s all =
    let passes : List Sent → Bool = list_all (λ sent. clears s.p sent.request.key) in
    let both = and_parts (passes s.p && passes s.a) (passes s.b) all in
    let first = and_parts (passes s.p) (passes s.a) both.0 in
    (first.0, first.1, both.1)

absorbed : (x y z : Bool) → (y ≡ true → x ≡ true) → (z ≡ true → x ≡ true) → (x || y || z) ≡ x
absorbed x y z f g = grind arith

-- in a history P has each key
pub keys_in_prefix : (s : Sections) (key : List ℕ) → is_cleared s ≡ true → has_key key (s.p ++ s.a ++ s.b) ≡ has_key key s.p
keys_in_prefix s key all =
    let parts = cleared_parts s all in
    rw (list_any-append (is_on key) (s.p ++ s.a) s.b, list_any-append (is_on key) s.p s.a)
    (absorbed (has_key key s.p) (has_key key s.a) (has_key key s.b) (λ e. has_key-clears s.p key (clears-of s.p key s.a parts.1 e))
    (λ e. has_key-clears s.p key (clears-of s.p key s.b parts.2 e)))

-- where each key of P is cleared, a key is cleared exactly if P has it
clears-has_key : (p : List Sent) (key : List ℕ) → list_all (λ sent. clears p sent.request.key) p ≡ true → clears p key ≡ has_key key p
clears-has_key p key all =
    elim (cases_Bool (has_key key p)) [
      | inl e ↦ clears-of p key p all e ∙ sym e
      | inr e ↦ false_from_ne_true (clears p key) (λ c. both_ways (has_key key p) e (has_key-clears p key c)) ∙ sym e
    ]

-- a request is on its own key
is_on-itself : (sent : Sent) → is_on sent.request.key sent ≡ true
is_on-itself sent = (bytes_eq-Decides sent.request.key sent.request.key).1 refl

or-true : (x : Bool) → (x || true) ≡ true
or-true x = grind arith

-- more requests of P clear no key that it has
cleared-append : (front xs more : List Sent)
    → list_all (λ x. clears (front ++ xs ++ more) x.request.key) xs ≡ list_all (λ x. clears (front ++ xs) x.request.key) xs
cleared-append front [] more = refl
cleared-append front (x ∷ xs) more =
    let has : has_key x.request.key (front ++ x ∷ xs) ≡ true =
    rw (list_any-append (is_on x.request.key) front (x ∷ xs), is_on-itself x) (or-true (has_key x.request.key front)) in
    ap₂ (λ a b. a && b)
    (clears-append (front ++ x ∷ xs) more x.request.key
    ∙ ap (λ b. cond b (clears (front ++ x ∷ xs) x.request.key) (clears more x.request.key)) has)
    (subst (λ l. list_all (λ y. clears (l ++ more) y.request.key) xs ≡ list_all (λ y. clears l y.request.key) xs) (append_assoc front (x ∷ []) xs)
    (cleared-append (front ++ x ∷ []) xs more))

-- with one more request of P each key is cleared exactly if those before it are and that one's is
prefix_cleared : (p : List Sent) (sent : Sent) → list_all (λ x. clears (p ++ sent ∷ []) x.request.key) (p ++ sent ∷ [])
    ≡ (list_all (λ x. clears p x.request.key) p && (has_key sent.request.key p || is_delete sent.request.verb))
prefix_cleared p sent =
    rw (
      list_all-append (λ x. clears (p ++ sent ∷ []) x.request.key) p (sent ∷ []),
      cleared-append [] p (sent ∷ []),
      clears-append p (sent ∷ []) sent.request.key,
      is_on-itself sent,
    )
    (by (list_all (λ x. clears p x.request.key) p) (clears p sent.request.key) (has_key sent.request.key p) (is_delete sent.request.verb)
    (clears-has_key p sent.request.key))
  where
    by : (all c h d : Bool) → (all ≡ true → c ≡ h) → (all && (cond h c d && true)) ≡ (all && (h || d))
    by all c h d e = grind arith

branch_cleared : (all c h : Bool) → (all ≡ true → c ≡ h) → (all && c) ≡ (all && (h || false))
branch_cleared all c h e = grind arith

alone : (x y : Bool) → (x && y && true && true) ≡ ((x && true && true) && y)
alone x y = grind arith

-- with one more request each key is cleared exactly if those before it are and that one's is
pub cleared_added : (s : Sections) (who : Actor) (sent : Sent) → comes_late s who ≡ false
    → is_cleared (with_sent s who sent) ≡ (is_cleared s && next.clears s who sent)
cleared_added s actor.P sent late =
    let none = no_branch s late in
    rw (none.0, none.1, prefix_cleared s.p sent)
    (alone (list_all (λ x. clears s.p x.request.key) s.p) (has_key sent.request.key s.p || is_delete sent.request.verb))
cleared_added s actor.A sent late =
    every_added (λ x. clears s.p x.request.key) s actor.A sent
    ∙ branch_cleared (is_cleared s) (clears s.p sent.request.key) (has_key sent.request.key s.p)
    (λ all. clears-has_key s.p sent.request.key (cleared_parts s all).0)
cleared_added s actor.B sent late =
    every_added (λ x. clears s.p x.request.key) s actor.B sent
    ∙ branch_cleared (is_cleared s) (clears s.p sent.request.key) (has_key sent.request.key s.p)
    (λ all. clears-has_key s.p sent.request.key (cleared_parts s all).0)
