-- Operations on all keys have an explanation where those on each key have one.
use Rattle.std.proofs.Common.{◌≡◌, ◌⊎◌, ◌≤◌, ◌<◌, ◌^◌, inl, inr, ℕ, zero, suc, Bool, true, false, cond, not, is_some}
use Rattle.std.proofs.Common.{List, [], ◌∷◌, ◌++◌, append_assoc, length, map, filter, refl, ap, subst, sym, ◌∙◌, arith}
use Rattle.std.proofs.{lemmas.List.Elements.filter-append, lemmas.Slice.Eq.bytes_eq-Decides}
use Rattle.std.specs.Str.{bytes_eq}
use Rattle.mc_history.specs.Distinct.{AreDistinct}
use Rattle.mc_timeline.specs.Explanations.{Effected, step_of, order_of, GivesEach, IsExplained}
use Rattle.mc_timeline.specs.{Members.IsIn, Operations.Operation, Operations.IsLinearization, Operations.on_key, Laws.Locality}
use Rattle.mc_claims.specs.{Explains.start_contents, Replay.replay, Replay.versions}
use Rattle.mc_timeline.proofs.Members.{among_kept, kept_among, kept_distinct, mapped_among, mapped_kept, among_parts}
use Rattle.mc_timeline.proofs.Merges.{IsMerge, merged_among, among_left, among_right, merged_distinct, mapped_merge, more_left, more_right, appended}
use Rattle.mc_timeline.proofs.Times.{InTime, kept_in_time, linear_in_time, in_time_linear, merge_in_time}
use Rattle.mc_timeline.proofs.Acting.{Version, Keys, effected_at, versions_at, AgreeAt, AllAt, kept_replies, kept_versions, kept_start}
use Rattle.mc_timeline.proofs.Acting.{starts_left, starts_right, merged_replies, merged_versions}

-- ---- some keys alone

abbrev at_keys : Keys → List Operation → List Operation
at_keys keys operations = filter (λ x. keys x.request.key) operations

-- an explanation in which everything is at these keys
record ExplainedAt (keys : Keys) (operations : List Operation) : Type 0 where
  pub start : List Version
  pub effected : List Effected
  pub linear : IsLinearization (at_keys keys operations) (order_of effected)
  pub start_fits : (s : Version) → IsIn s start → s.1 < 2 ^ 64
  pub effected_fit : (a : Effected) → IsIn a effected → a.number < 2 ^ 64
  pub distinct : AreDistinct (map (λ s. s.0) start)
  pub numbers : AreDistinct (start ++ versions (start_contents start) (map step_of effected))
  pub replies : GivesEach effected (replay (start_contents start) (map step_of effected))
  pub start_there : (s : Version) → IsIn s start → keys s.0 ≡ true
  pub effected_there : AllAt keys true effected
  pub versions_there : (v : Version) → IsIn v (versions (start_contents start) (map step_of effected)) → keys v.0 ≡ true

linear_at : (keys : Keys) (operations order : List Operation) → IsLinearization operations order
    → IsLinearization (at_keys keys operations) (at_keys keys order)
linear_at keys operations order l =
    let keeps = λ (x : Operation). keys x.request.key in
    in_time_linear (at_keys keys operations) (at_keys keys order) (kept_distinct keeps order l.distinct)
    (λ x h. let k = among_kept keeps x order h in kept_among keeps x operations k.0 (l.only x k.1))
    (λ x h e. let k = among_kept keeps x operations h in kept_among keeps x order k.0 (l.answered x k.1 e))
    (kept_in_time keeps order (linear_in_time operations order l))

explained_at : (keys : Keys) (operations : List Operation) → IsExplained operations → ExplainedAt keys operations
explained_at keys operations e = record {
  start = versions_at keys e.start;
  effected = effected_at keys e.effected;
  linear = subst (IsLinearization (at_keys keys operations)) (sym (mapped_kept (λ a. a.operation) (λ x. keys x.request.key) e.effected))
      (linear_at keys operations (order_of e.effected) e.explains.linear);
  start_fits = λ s h. e.explains.start_fits s (among_kept (λ v. keys v.0) s e.start h).1;
  effected_fit = λ a h. e.explains.effected_fit a (among_kept (λ a. keys a.operation.request.key) a e.effected h).1;
  distinct = subst AreDistinct (sym (mapped_kept (λ s. s.0) keys e.start)) (kept_distinct keys (map (λ s. s.0) e.start) e.explains.keys);
  numbers = subst AreDistinct (filter-append (λ v. keys v.0) e.start before ∙ ap (λ l. versions_at keys e.start ++ l) (sym same))
      (kept_distinct (λ v. keys v.0) (e.start ++ before) e.explains.numbers);
  replies = kept_replies keys (start_contents e.start) (start_contents (versions_at keys e.start)) e.effected agree e.explains.replies;
  start_there = λ s h. (among_kept (λ v. keys v.0) s e.start h).0;
  effected_there = λ a h. (among_kept (λ a. keys a.operation.request.key) a e.effected h).0;
  versions_there = λ v h. (among_kept (λ v. keys v.0) v before (subst (λ l. IsIn v l) same h)).0;
}
  where
    before : List Version
    before = versions (start_contents e.start) (map step_of e.effected)

    agree : AgreeAt keys (start_contents e.start) (start_contents (versions_at keys e.start))
    agree q on = sym (kept_start keys e.start q on)

    same : versions (start_contents (versions_at keys e.start)) (map step_of (effected_at keys e.effected))
        ≡ versions_at keys (versions (start_contents e.start) (map step_of e.effected))
    same = kept_versions keys (start_contents e.start) (start_contents (versions_at keys e.start)) e.effected agree

pub explained_alone : (keys : Keys) (operations : List Operation) → IsExplained operations → IsExplained (at_keys keys operations)
explained_alone keys operations e =
    let p = explained_at keys operations e in record {
      start = p.start;
      effected = p.effected;
      explains = record {
        linear = p.linear;
        start_fits = p.start_fits;
        effected_fit = p.effected_fit;
        keys = p.distinct;
        numbers = p.numbers;
        replies = p.replies;
      };
    }

-- ---- some keys and the others

from_not : (b : Bool) → not b ≡ true → b ≡ false
from_not true e = absurd (cc)
from_not false e = refl

join_parts : (keys : Keys) (operations : List Operation) → ExplainedAt keys (at_keys keys operations)
    → ExplainedAt (λ q. not (keys q)) (at_keys (λ q. not (keys q)) operations) → IsExplained operations
join_parts keys operations a b = record {
  start = a.start ++ b.start;
  effected = both.order;
  explains = record {
    linear = in_time_linear operations (order_of both.order)
        (merged_distinct (order_of a.effected) (order_of b.effected) (order_of both.order) together a.linear.distinct b.linear.distinct
        (λ x l r. apart (keys x.request.key) (from_left x l).0 (from_right x r).0))
        (λ x h. only x (merged_among x (order_of a.effected) (order_of b.effected) (order_of both.order) together h))
        (λ x h is. answered x h is (keys x.request.key) refl)
        both.keeps;
    start_fits = λ s h. fits s (among_parts s a.start b.start h);
    effected_fit = λ x h. fit x (merged_among x a.effected b.effected both.order both.merge h);
    keys = merged_distinct (map (λ s. s.0) a.start) (map (λ s. s.0) b.start) (map (λ s. s.0) (a.start ++ b.start))
        (mapped_merge (λ s. s.0) a.start b.start (a.start ++ b.start) (appended a.start b.start)) a.distinct b.distinct keys_apart;
    numbers = all_numbers;
    replies = merged_replies keys (start_contents (a.start ++ b.start)) (start_contents a.start) (start_contents b.start) a.effected b.effected
        both.order both.merge
        a.effected_there b_there left_same right_same a.replies b.replies;
  };
}
  where
    both : InTime a.effected b.effected
    both = merge_in_time a.effected b.effected (linear_in_time (at_keys keys (at_keys keys operations)) (order_of a.effected) a.linear)
        (linear_in_time (at_keys (λ q. not (keys q)) (at_keys (λ q. not (keys q)) operations)) (order_of b.effected) b.linear)

    together : IsMerge (order_of a.effected) (order_of b.effected) (order_of both.order)
    together = mapped_merge (λ x. x.operation) a.effected b.effected both.order both.merge

    apart : (t : Bool) → t ≡ true → not t ≡ true → ⊥
    apart true e f = absurd (cc)
    apart false e f = absurd (cc)

    from_left : (x : Operation) → IsIn x (order_of a.effected) → (keys x.request.key ≡ true) × IsIn x operations
    from_left x h = among_kept (λ z. keys z.request.key) x operations
        (among_kept (λ z. keys z.request.key) x (at_keys keys operations) (a.linear.only x h)).1

    from_right : (x : Operation) → IsIn x (order_of b.effected) → (not (keys x.request.key) ≡ true) × IsIn x operations
    from_right x h = among_kept (λ z. not (keys z.request.key)) x operations
        (among_kept (λ z. not (keys z.request.key)) x (at_keys (λ q. not (keys q)) operations) (b.linear.only x h)).1

    only : (x : Operation) → IsIn x (order_of a.effected) ⊎ IsIn x (order_of b.effected) → IsIn x operations
    only x (inl h) = (from_left x h).1
    only x (inr h) = (from_right x h).1

    answered : (x : Operation) → IsIn x operations → is_some x.answer ≡ true → (t : Bool) → keys x.request.key ≡ t
        → IsIn x (order_of both.order)
    answered x h is true at =
        let once = kept_among (λ z. keys z.request.key) x operations at h in
        among_left x (order_of a.effected) (order_of b.effected) (order_of both.order) together
        (a.linear.answered x (kept_among (λ z. keys z.request.key) x (at_keys keys operations) at once) is)
    answered x h is false at =
        let off = ap not at in
        let once = kept_among (λ z. not (keys z.request.key)) x operations off h in
        among_right x (order_of a.effected) (order_of b.effected) (order_of both.order) together
        (b.linear.answered x (kept_among (λ z. not (keys z.request.key)) x (at_keys (λ q. not (keys q)) operations) off once) is)

    fits : (s : Version) → IsIn s a.start ⊎ IsIn s b.start → s.1 < 2 ^ 64
    fits s (inl h) = a.start_fits s h
    fits s (inr h) = b.start_fits s h

    fit : (x : Effected) → IsIn x a.effected ⊎ IsIn x b.effected → x.number < 2 ^ 64
    fit x (inl h) = a.effected_fit x h
    fit x (inr h) = b.effected_fit x h

    keys_apart : (k : List ℕ) → IsIn k (map (λ s. s.0) a.start) → IsIn k (map (λ s. s.0) b.start) → ⊥
    keys_apart k l r =
        let u = mapped_among (λ s. s.0) k a.start l in
        let v = mapped_among (λ s. s.0) k b.start r in
        apart (keys k) (ap keys u.1 ∙ a.start_there u.0 u.2) (ap (λ q. not (keys q)) v.1 ∙ b.start_there v.0 v.2)

    b_there : AllAt keys false b.effected
    b_there x h = from_not (keys x.operation.request.key) (b.effected_there x h)

    left_same : AgreeAt keys (start_contents (a.start ++ b.start)) (start_contents a.start)
    left_same = starts_left keys a.start b.start (λ v h. from_not (keys v.0) (b.start_there v h))

    right_same : AgreeAt (λ q. not (keys q)) (start_contents (a.start ++ b.start)) (start_contents b.start)
    right_same = starts_right (λ q. not (keys q)) a.start b.start (λ v h. ap not (a.start_there v h))

    all_numbers : AreDistinct ((a.start ++ b.start) ++ versions (start_contents (a.start ++ b.start)) (map step_of both.order))
    all_numbers =
        let va = versions (start_contents a.start) (map step_of a.effected) in
        let vb = versions (start_contents b.start) (map step_of b.effected) in
        let vz = versions (start_contents (a.start ++ b.start)) (map step_of both.order) in
        let merged = merged_versions keys (start_contents (a.start ++ b.start)) (start_contents a.start) (start_contents b.start) a.effected b.effected
        both.order both.merge a.effected_there b_there left_same right_same in
        rw append_assoc
        (merged_distinct (a.start ++ va) (b.start ++ vb) (a.start ++ (b.start ++ vz))
        (more_left a.start va (b.start ++ vb) (b.start ++ vz) (more_right b.start va vb vz merged)) a.numbers b.numbers
        (λ v l r. apart (keys v.0) (left_there v (among_parts v a.start va l)) (right_there v (among_parts v b.start vb r))))
      where
        left_there : (v : Version) → IsIn v a.start ⊎ IsIn v (versions (start_contents a.start) (map step_of a.effected)) → keys v.0 ≡ true
        left_there v (inl h) = a.start_there v h
        left_there v (inr h) = a.versions_there v h

        right_there : (v : Version) → IsIn v b.start ⊎ IsIn v (versions (start_contents b.start) (map step_of b.effected)) → not (keys v.0) ≡ true
        right_there v (inl h) = b.start_there v h
        right_there v (inr h) = b.versions_there v h

explained_by_both : (keys : Keys) (operations : List Operation) → IsExplained (at_keys keys operations)
    → IsExplained (at_keys (λ q. not (keys q)) operations) → IsExplained operations
explained_by_both keys operations e f =
    join_parts keys operations (explained_at keys (at_keys keys operations) e)
    (explained_at (λ q. not (keys q)) (at_keys (λ q. not (keys q)) operations) f)

-- ---- key after key

abbrev off_key : List ℕ → List Operation → List Operation
off_key key operations = filter (λ x. not (bytes_eq x.request.key key)) operations

is_itself : (key : List ℕ) → bytes_eq key key ≡ true
is_itself key = (bytes_eq-Decides key key).1 refl

is_same : (x y : List ℕ) → bytes_eq x y ≡ true → x ≡ y
is_same x y e = (bytes_eq-Decides x y).0 e

off_shorter : (key : List ℕ) (operations : List Operation) → length (off_key key operations) ≤ length operations
off_shorter key [] = omega arith
off_shorter key (x ∷ xs) = by (bytes_eq x.request.key key) (off_shorter key xs)
  where
    by : (b : Bool) → length (off_key key xs) ≤ length xs → length (cond (not b) (x ∷ off_key key xs) (off_key key xs)) ≤ suc (length xs)
    by true le = omega arith
    by false le = omega arith

-- the operations on another key are all left
others_left : (key other : List ℕ) → bytes_eq other key ≡ false → (operations : List Operation)
    → on_key other (off_key key operations) ≡ on_key other operations
others_left key other apart [] = refl
others_left key other apart (x ∷ xs) = by (bytes_eq x.request.key key) refl (others_left key other apart xs)
  where
    by : (b : Bool) → bytes_eq x.request.key key ≡ b → on_key other (off_key key xs) ≡ on_key other xs
        → on_key other (cond (not b) (x ∷ off_key key xs) (off_key key xs)) ≡ cond (bytes_eq x.request.key other) (x ∷ on_key other xs) (on_key other xs)
    by false e rest = ap (λ l. cond (bytes_eq x.request.key other) (x ∷ l) l) rest
    by true e rest = at (bytes_eq x.request.key other) refl
      where
        at : (c : Bool) → bytes_eq x.request.key other ≡ c → on_key other (off_key key xs) ≡ cond c (x ∷ on_key other xs) (on_key other xs)
        at false f = rest
        at true f =
            let same : bytes_eq other key ≡ true = ap (λ k. bytes_eq k key) (sym (is_same x.request.key other f)) ∙ e in
            absurd (cc)

none_left : (key : List ℕ) (operations : List Operation) → on_key key (off_key key operations) ≡ []
none_left key [] = refl
none_left key (x ∷ xs) = by (bytes_eq x.request.key key) refl (none_left key xs)
  where
    by : (b : Bool) → bytes_eq x.request.key key ≡ b → on_key key (off_key key xs) ≡ [] → on_key key (cond (not b) (x ∷ off_key key xs) (off_key key xs)) ≡ []
    by true e rest = rest
    by false e rest = rw e rest

nothing_explained : IsExplained []
nothing_explained = record {
  start = [];
  effected = [];
  explains = record {
    linear = in_time_linear [] [] tt (λ x h. h) (λ x h e. h) tt;
    start_fits = λ s h. absurd h;
    effected_fit = λ a h. absurd h;
    keys = tt;
    numbers = tt;
    replies = tt;
  };
}

explained_by_each : (fuel : ℕ) (operations : List Operation) → length operations ≤ fuel → ((key : List ℕ) → IsExplained (on_key key operations))
    → IsExplained operations
explained_by_each fuel [] few each = nothing_explained
explained_by_each zero (x ∷ xs) few each = absurd (omega arith)
explained_by_each (suc fuel) (x ∷ xs) few each =
    explained_by_both (λ q. bytes_eq q x.request.key) (x ∷ xs) (each x.request.key)
    (explained_by_each fuel (off_key x.request.key (x ∷ xs)) fewer left_over)
  where
    fewer : length (off_key x.request.key (x ∷ xs)) ≤ fuel
    fewer =
        let gone = off_shorter x.request.key xs in
        let same = is_itself x.request.key in
        rw same (omega arith)

    left_over : (key : List ℕ) → IsExplained (on_key key (off_key x.request.key (x ∷ xs)))
    left_over key = by (bytes_eq key x.request.key) refl
      where
        by : (b : Bool) → bytes_eq key x.request.key ≡ b → IsExplained (on_key key (off_key x.request.key (x ∷ xs)))
        by false e = subst IsExplained (sym (others_left x.request.key key e (x ∷ xs))) (each key)
        by true e =
            let same = is_same key x.request.key e in
            subst (λ k. IsExplained (on_key k (off_key x.request.key (x ∷ xs)))) (sym same)
            (subst IsExplained (sym (none_left x.request.key (x ∷ xs))) nothing_explained)

-- a key that no operation has
each_key : (operations : List Operation) → ((x : Operation) → IsIn x operations → IsExplained (on_key x.request.key operations))
    → (key : List ℕ) → IsExplained (on_key key operations)
each_key operations each key = by (on_key key operations) refl
  where
    by : (found : List Operation) → on_key key operations ≡ found → IsExplained (on_key key operations)
    by [] none = subst IsExplained (sym none) nothing_explained
    by (x ∷ found) some =
        let there : IsIn x (on_key key operations) = subst (λ l. IsIn x l) (sym some) (here x found) in
        let k = among_kept (λ y. bytes_eq y.request.key key) x operations there in
        subst (λ q. IsExplained (on_key q operations)) (is_same x.request.key key k.0) (each x k.1)
      where
        here : (x : Operation) (found : List Operation) → IsIn x (x ∷ found)
        here x found = inl refl

pub is_local : Locality
is_local operations = (
  (λ e x h. explained_alone (λ q. bytes_eq q x.request.key) operations e),
  (λ each. explained_by_each (length operations) operations (omega arith) (each_key operations each)),
)
