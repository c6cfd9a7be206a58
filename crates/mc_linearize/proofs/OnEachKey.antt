-- Operations are explained where those on each key are, in one order that keeps to the times.
use Rattle.std.proofs.Common.{◌≡◌, ℕ, Bool, true, false, cond, is_some, List, [], ◌∷◌, ◌++◌, map, filter, refl, ap, subst, sym, ◌∙◌}
use Rattle.std.proofs.{lemmas.List.Elements.filter-append, lemmas.Slice.Eq.bytes_eq-Decides}
use Rattle.std.specs.Str.{bytes_eq}
use Rattle.mc_model.specs.{Act.effect_of, Contents.Contents}
use Rattle.mc_model.proofs.Changes.{get_other}
use Rattle.mc_history.specs.Distinct.{AreDistinct}
use Rattle.mc_claims.specs.{Explains.start_contents, Replay.after, Replay.replay, Replay.versions}
use Rattle.mc_timeline.specs.Explanations.{Effected, Explains, GivesEach, order_of, step_of}
use Rattle.mc_timeline.specs.{Members.IsIn, Operations.Operation, Operations.on_key}
use Rattle.mc_timeline.proofs.Acting.{AgreeAt, Keys, Version, effected_at, kept_replies, kept_start, kept_versions, versions_at}
use Rattle.mc_timeline.proofs.Members.{absent, is_absent, among_kept, kept_among, mapped_kept}
use Rattle.mc_timeline.proofs.Times.{KeepsTime, in_time_linear}

-- this key alone
abbrev pub at : List ℕ → Keys
at key other = bytes_eq other key

pub is_itself : (key : List ℕ) → bytes_eq key key ≡ true
is_itself key = (bytes_eq-Decides key key).1 refl

-- ---- lists whose elements have keys

pub kept_twice : {X : Type 0} (keeps : X → Bool) (xs : List X) → filter keeps (filter keeps xs) ≡ filter keeps xs
kept_twice keeps [] = refl
kept_twice keeps (x ∷ xs) = by (keeps x) refl (kept_twice keeps xs)
  where
    by : (b : Bool) → keeps x ≡ b → filter keeps (filter keeps xs) ≡ filter keeps xs
        → filter keeps (cond b (x ∷ filter keeps xs) (filter keeps xs)) ≡ cond b (x ∷ filter keeps xs) (filter keeps xs)
    by true e rest = rw e (ap (λ l. x ∷ l) rest)
    by false e rest = rest

-- if those of each key differ, all do
distinct_by_key : {X : Type 0} (key_of : X → List ℕ) (xs : List X)
    → ((key : List ℕ) → AreDistinct (filter (λ x. bytes_eq (key_of x) key) xs)) → AreDistinct xs
distinct_by_key key_of [] each = tt
distinct_by_key {X = X} key_of (x ∷ xs) each = (is_absent x xs here, distinct_by_key key_of xs rest)
  where
    own : List X
    own = filter (λ y. bytes_eq (key_of y) (key_of x)) xs

    first : AreDistinct (x ∷ own)
    first = subst (λ b. AreDistinct (cond b (x ∷ own) own)) (is_itself (key_of x)) (each (key_of x))

    here : IsIn x xs → ⊥
    here h = absent x own first.0 (kept_among (λ y. bytes_eq (key_of y) (key_of x)) x xs (is_itself (key_of x)) h)

    rest : (key : List ℕ) → AreDistinct (filter (λ y. bytes_eq (key_of y) key) xs)
    rest key = by (bytes_eq (key_of x) key) (each key)
      where
        by : (b : Bool) → AreDistinct (cond b (x ∷ filter (λ y. bytes_eq (key_of y) key) xs) (filter (λ y. bytes_eq (key_of y) key) xs))
            → AreDistinct (filter (λ y. bytes_eq (key_of y) key) xs)
        by true d = d.1
        by false d = d

-- ---- replies

replies_by_key : (c : Contents) (zs : List Effected)
    → ((key : List ℕ) → GivesEach (effected_at (at key) zs) (replay c (map step_of (effected_at (at key) zs)))) → GivesEach zs (replay c (map step_of zs))
replies_by_key c [] each = tt
replies_by_key c (z ∷ zs) each = (first.0, replies_by_key (after c (step_of z)) zs rest)
  where
    own : List ℕ
    own = z.operation.request.key

    first : GivesEach (z ∷ effected_at (at own) zs) (replay c (map step_of (z ∷ effected_at (at own) zs)))
    first = subst
        (λ b. GivesEach (cond b (z ∷ effected_at (at own) zs) (effected_at (at own) zs))
        (replay c (map step_of (cond b (z ∷ effected_at (at own) zs) (effected_at (at own) zs)))))
        (is_itself own) (each own)

    rest : (key : List ℕ) → GivesEach (effected_at (at key) zs) (replay (after c (step_of z)) (map step_of (effected_at (at key) zs)))
    rest key = by (bytes_eq own key) refl (each key)
      where
        by : (b : Bool) → bytes_eq own key ≡ b
            → GivesEach (cond b (z ∷ effected_at (at key) zs) (effected_at (at key) zs))
            (replay c (map step_of (cond b (z ∷ effected_at (at key) zs) (effected_at (at key) zs))))
            → GivesEach (effected_at (at key) zs) (replay (after c (step_of z)) (map step_of (effected_at (at key) zs)))
        by true e g = g.1
        by false e g =
            subst (λ l. GivesEach l (replay (after c (step_of z)) (map step_of l))) (kept_twice (λ (a : Effected). at key a.operation.request.key) zs)
            (kept_replies (at key) c (after c (step_of z)) (effected_at (at key) zs) agree g)
          where
            agree : AgreeAt (at key) c (after c (step_of z))
            agree q on =
                sym (get_other c own (effect_of c z.operation.request z.choice z.number).change q
                (λ same. (let there : bytes_eq own key ≡ true = ap (λ k. bytes_eq k key) (sym same) ∙ on in absurd (cc))))

-- ---- the whole

pub joined : (operations : List Operation) (start : List Version) (zs : List Effected) → KeepsTime (order_of zs)
    → ((key : List ℕ) → Explains (on_key key operations) (versions_at (at key) start) (effected_at (at key) zs)) → Explains operations start zs
joined operations start zs keeps each = record {
  linear = in_time_linear operations (order_of zs)
      (distinct_by_key (λ (x : Operation). x.request.key) (order_of zs) (λ key. subst AreDistinct (order_at key) (each key).linear.distinct))
      only answered keeps;
  start_fits = λ s h. (each s.0).start_fits s (kept_among (λ (v : Version). at s.0 v.0) s start (is_itself s.0) h);
  effected_fit = λ e h.
      (each e.operation.request.key).effected_fit e
      (kept_among (λ (a : Effected). at e.operation.request.key a.operation.request.key) e zs (is_itself e.operation.request.key) h);
  keys = distinct_by_key (λ (k : List ℕ). k) (map (λ (s : Version). s.0) start)
      (λ key. subst AreDistinct (mapped_kept (λ (s : Version). s.0) (at key) start) (each key).keys);
  numbers = distinct_by_key (λ (v : Version). v.0) (start ++ versions (start_contents start) (map step_of zs))
      (λ key. subst AreDistinct (numbers_at key) (each key).numbers);
  replies = replies_by_key (start_contents start) zs replies_at;
}
  where
    order_at : (key : List ℕ) → order_of (effected_at (at key) zs) ≡ filter (λ (x : Operation). at key x.request.key) (order_of zs)
    order_at key = mapped_kept (λ (a : Effected). a.operation) (λ (x : Operation). at key x.request.key) zs

    only : (x : Operation) → IsIn x (order_of zs) → IsIn x operations
    only x h =
        let own = λ (y : Operation). at x.request.key y.request.key in
        let there : IsIn x (order_of (effected_at (at x.request.key) zs)) =
        subst (λ l. IsIn x l) (sym (order_at x.request.key)) (kept_among own x (order_of zs) (is_itself x.request.key) h) in
        (among_kept own x operations ((each x.request.key).linear.only x there)).1

    answered : (x : Operation) → IsIn x operations → is_some x.answer ≡ true → IsIn x (order_of zs)
    answered x h is =
        let own = λ (y : Operation). at x.request.key y.request.key in
        let there = (each x.request.key).linear.answered x (kept_among own x operations (is_itself x.request.key) h) is in
        (among_kept own x (order_of zs) (subst (λ l. IsIn x l) (order_at x.request.key) there)).1

    numbers_at : (key : List ℕ)
        → versions_at (at key) start ++ versions (start_contents (versions_at (at key) start)) (map step_of (effected_at (at key) zs))
        ≡ versions_at (at key) (start ++ versions (start_contents start) (map step_of zs))
    numbers_at key =
        ap (λ l. versions_at (at key) start ++ l)
        (kept_versions (at key) (start_contents start) (start_contents (versions_at (at key) start)) zs (λ q on. sym (kept_start (at key) start q on)))
        ∙ sym (filter-append (λ (v : Version). at key v.0) start (versions (start_contents start) (map step_of zs)))

    replies_at : (key : List ℕ) → GivesEach (effected_at (at key) zs) (replay (start_contents start) (map step_of (effected_at (at key) zs)))
    replies_at key =
        subst (λ l. GivesEach l (replay (start_contents start) (map step_of l))) (kept_twice (λ (a : Effected). at key a.operation.request.key) zs)
        (kept_replies (at key) (start_contents (versions_at (at key) start)) (start_contents start) (effected_at (at key) zs) (kept_start (at key) start)
        (each key).replies)
