-- What a cache answers on some keys, whatever is asked on the others.
use Rattle.std.proofs.Common.{◌≡◌, ◌≢◌, inl, inr, ℕ, Bool, true, false, cond, not, Some, List, [], ◌∷◌, ◌++◌, map, filter}
use Rattle.std.proofs.Common.{refl, ap, subst, sym, ◌∙◌}
use Rattle.std.proofs.{lemmas.List.Elements.filter-append, lemmas.Slice.Eq.bytes_eq-Decides}
use Rattle.std.specs.{Cmp.Lexicographic.nat_list_cmp_total, Cmp.Lexicographic.texts_ties, FinMap.get-insert, Str.bytes_eq}
use Rattle.std.specs.FinMap as finite_map
use Rattle.mc_model.specs.{Act.Change, Act.Keeps, Act.Puts, Act.Removes, Act.effect_of, Act.effect_by, Act.item_after, Contents.Contents}
use Rattle.mc_model.proofs.Changes.{get_changed, get_other}
use Rattle.mc_timeline.specs.{Members.IsIn, Explanations.Effected, Explanations.step_of, Explanations.received, Explanations.GivesEach}
use Rattle.mc_claims.specs.Explains.{IsReceived, start_contents, start_item}
use Rattle.mc_claims.specs.Replay.{Step, reply_to, after, replay, version_by, versions}
use Rattle.mc_timeline.proofs.Merges.{IsMerge, none, left, right, more_left, more_right}

abbrev pub Version : Type 0
Version = List ℕ × ℕ

-- these keys
abbrev pub Keys : Type 0
Keys = List ℕ → Bool

abbrev pub effected_at : Keys → List Effected → List Effected
effected_at keys effected = filter (λ a. keys a.operation.request.key) effected

abbrev pub versions_at : Keys → List Version → List Version
versions_at keys vs = filter (λ v. keys v.0) vs

-- both hold the same at these keys
abbrev pub AgreeAt : Keys → Contents → Contents → Type 0
AgreeAt keys c d = (q : List ℕ) → keys q ≡ true → finite_map.get c q ≡ finite_map.get d q

-- ---- one step

abbrev change_by : Contents → Step → Change
change_by c step = (effect_of c step.request step.choice step.number).change

same_effect : (c d : Contents) (step : Step) → finite_map.get c step.request.key ≡ finite_map.get d step.request.key
    → effect_of c step.request step.choice step.number ≡ effect_of d step.request step.choice step.number
same_effect c d step same = ap (effect_by step.request.verb step.request step.choice step.number) same

same_reply : (c d : Contents) (step : Step) → finite_map.get c step.request.key ≡ finite_map.get d step.request.key
    → reply_to c step ≡ reply_to d step
same_reply c d step same = ap (λ e. e.reply) (same_effect c d step same)

same_versions : (c d : Contents) (step : Step) → finite_map.get c step.request.key ≡ finite_map.get d step.request.key
    → version_by step.request.key (change_by c step) ≡ version_by step.request.key (change_by d step)
same_versions c d step same = ap (λ e. version_by step.request.key e.change) (same_effect c d step same)

-- by the same step
agree_after : (keys : Keys) (c d : Contents) (step : Step) → keys step.request.key ≡ true → AgreeAt keys c d → AgreeAt keys (after c step) (after d step)
agree_after keys c d step here agree q on = by (bytes_eq q step.request.key) refl
  where
    by : (b : Bool) → bytes_eq q step.request.key ≡ b → finite_map.get (after c step) q ≡ finite_map.get (after d step) q
    by true e =
        let same : q ≡ step.request.key = (bytes_eq-Decides q step.request.key).0 e in
        let at = agree step.request.key here in
        let there : finite_map.get (after c step) step.request.key ≡ finite_map.get (after d step) step.request.key =
        get_changed c step.request.key (change_by c step)
        ∙ ap (λ x. item_after x (finite_map.get c step.request.key)) (ap (λ x. x.change) (same_effect c d step at))
        ∙ ap (item_after (change_by d step)) at
        ∙ sym (get_changed d step.request.key (change_by d step)) in
        subst (λ k. finite_map.get (after c step) k ≡ finite_map.get (after d step) k) (sym same) there
    by false e =
        let differ : q ≢ step.request.key = λ s. (let on = (bytes_eq-Decides q step.request.key).1 s in absurd (cc)) in
        get_other c step.request.key (change_by c step) q differ ∙ agree q on
        ∙ sym (get_other d step.request.key (change_by d step) q differ)

-- by a step at another key
agree_apart : (keys : Keys) (c d : Contents) (step : Step) → keys step.request.key ≡ false → AgreeAt keys c d → AgreeAt keys (after c step) d
agree_apart keys c d step off agree q on =
    let differ : q ≢ step.request.key = λ s. (let there = ap keys s in absurd (cc)) in
    get_other c step.request.key (change_by c step) q differ ∙ agree q on

-- the versions of a step are at its key
versions_here : (keys : Keys) (key : List ℕ) (change : Change) → keys key ≡ true → versions_at keys (version_by key change) ≡ version_by key change
versions_here keys key Keeps e = refl
versions_here keys key (Puts item) e = rw e refl
versions_here keys key Removes e = refl

no_versions : (keys : Keys) (key : List ℕ) (change : Change) → keys key ≡ false → versions_at keys (version_by key change) ≡ []
no_versions keys key Keeps e = refl
no_versions keys key (Puts item) e = rw e refl
no_versions keys key Removes e = refl

-- ---- some keys alone

pub kept_replies : (keys : Keys) (c d : Contents) (effected : List Effected) → AgreeAt keys c d → GivesEach effected (replay c (map step_of effected))
    → GivesEach (effected_at keys effected) (replay d (map step_of (effected_at keys effected)))
kept_replies keys c d [] agree g = tt
kept_replies keys c d (a ∷ effected) agree g = by (keys a.operation.request.key) refl (λ c' d' h k. kept_replies keys c' d' effected h k)
  where
    by : (b : Bool) → keys a.operation.request.key ≡ b
        → ((c' d' : Contents) → AgreeAt keys c' d' → GivesEach effected (replay c' (map step_of effected))
        → GivesEach (effected_at keys effected) (replay d' (map step_of (effected_at keys effected))))
        → GivesEach (cond b (a ∷ effected_at keys effected) (effected_at keys effected))
        (replay d (map step_of (cond b (a ∷ effected_at keys effected) (effected_at keys effected))))
    by true e rest = (
      subst (IsReceived (received a.operation.answer)) (same_reply c d (step_of a) (agree a.operation.request.key e)) g.0,
      rest (after c (step_of a)) (after d (step_of a)) (agree_after keys c d (step_of a) e agree) g.1,
    )
    by false e rest = rest (after c (step_of a)) d (agree_apart keys c d (step_of a) e agree) g.1

pub kept_versions : (keys : Keys) (c d : Contents) (effected : List Effected) → AgreeAt keys c d
    → versions d (map step_of (effected_at keys effected)) ≡ versions_at keys (versions c (map step_of effected))
kept_versions keys c d [] agree = refl
kept_versions keys c d (a ∷ effected) agree =
    by (keys a.operation.request.key) refl (λ c' d' h. kept_versions keys c' d' effected h)
    ∙ sym (filter-append (λ v. keys v.0) (version_by a.operation.request.key (change_by c (step_of a))) (versions (after c (step_of a)) (map step_of effected)))
  where
    by : (b : Bool) → keys a.operation.request.key ≡ b
        → ((c' d' : Contents) → AgreeAt keys c' d'
        → versions d' (map step_of (effected_at keys effected)) ≡ versions_at keys (versions c' (map step_of effected)))
        → versions d (map step_of (cond b (a ∷ effected_at keys effected) (effected_at keys effected)))
        ≡ versions_at keys (version_by a.operation.request.key (change_by c (step_of a)))
        ++ versions_at keys (versions (after c (step_of a)) (map step_of effected))
    by true e rest =
        let more = rest (after c (step_of a)) (after d (step_of a)) (agree_after keys c d (step_of a) e agree) in
        let first = versions_here keys a.operation.request.key (change_by c (step_of a)) e in
        let same = same_versions c d (step_of a) (agree a.operation.request.key e) in
        ap (λ l. l ++ versions (after d (step_of a)) (map step_of (effected_at keys effected))) (sym same ∙ sym first)
        ∙ ap (λ l. versions_at keys (version_by a.operation.request.key (change_by c (step_of a))) ++ l) more
    by false e rest =
        let more = rest (after c (step_of a)) d (agree_apart keys c d (step_of a) e agree) in
        let first = no_versions keys a.operation.request.key (change_by c (step_of a)) e in
        more ∙ ap (λ l. l ++ versions_at keys (versions (after c (step_of a)) (map step_of effected))) (sym first)

-- ---- the start

pub start_more : (k : Version) (start : List Version) (q : List ℕ)
    → finite_map.get (start_contents (k ∷ start)) q ≡ cond (bytes_eq q k.0) (Some (start_item k.1)) (finite_map.get (start_contents start) q)
start_more k start q =
    get-insert nat_list_cmp_total (start_contents start) k.0 (start_item k.1) q
    ∙ ap (λ b. cond b (Some (start_item k.1)) (finite_map.get (start_contents start) q)) (sym (texts_ties q k.0))

-- the items at these keys
pub kept_start : (keys : Keys) (start : List Version) → AgreeAt keys (start_contents (versions_at keys start)) (start_contents start)
kept_start keys [] q on = refl
kept_start keys (k ∷ start) q on = by (keys k.0) refl (kept_start keys start q on)
  where
    by : (b : Bool) → keys k.0 ≡ b → finite_map.get (start_contents (versions_at keys start)) q ≡ finite_map.get (start_contents start) q
        → finite_map.get (start_contents (cond b (k ∷ versions_at keys start) (versions_at keys start))) q ≡ finite_map.get (start_contents (k ∷ start)) q
    by true e rest =
        start_more k (versions_at keys start) q ∙ ap (λ o. cond (bytes_eq q k.0) (Some (start_item k.1)) o) rest ∙ sym (start_more k start q)
    by false e rest = rest ∙ sym (start_more k start q ∙ other (bytes_eq q k.0) refl)
      where
        other : (b : Bool) → bytes_eq q k.0 ≡ b
            → cond b (Some (start_item k.1)) (finite_map.get (start_contents start) q) ≡ finite_map.get (start_contents start) q
        other true f = let same = ap keys ((bytes_eq-Decides q k.0).0 f) in absurd (cc)
        other false f = refl

-- two lists of items with different keys, one after the other
pub starts_left : (keys : Keys) (xs ys : List Version) → ((v : Version) → IsIn v ys → keys v.0 ≡ false)
    → AgreeAt keys (start_contents (xs ++ ys)) (start_contents xs)
starts_left keys [] [] off q on = refl
starts_left keys [] (y ∷ ys) off q on = start_more y ys q ∙ other (bytes_eq q y.0) refl (starts_left keys [] ys (λ v h. off v (inr h)) q on)
  where
    other : (b : Bool) → bytes_eq q y.0 ≡ b → finite_map.get (start_contents ys) q ≡ finite_map.get (start_contents []) q
        → cond b (Some (start_item y.1)) (finite_map.get (start_contents ys) q) ≡ finite_map.get (start_contents []) q
    other true f rest = let same = ap keys ((bytes_eq-Decides q y.0).0 f) in let not_here = off y (inl refl) in absurd (cc)
    other false f rest = rest
starts_left keys (x ∷ xs) ys off q on =
    start_more x (xs ++ ys) q ∙ ap (λ o. cond (bytes_eq q x.0) (Some (start_item x.1)) o) (starts_left keys xs ys off q on) ∙ sym (start_more x xs q)

pub starts_right : (keys : Keys) (xs ys : List Version) → ((v : Version) → IsIn v xs → keys v.0 ≡ false)
    → AgreeAt keys (start_contents (xs ++ ys)) (start_contents ys)
starts_right keys [] ys off q on = refl
starts_right keys (x ∷ xs) ys off q on =
    start_more x (xs ++ ys) q ∙ other (bytes_eq q x.0) refl ∙ starts_right keys xs ys (λ v h. off v (inr h)) q on
  where
    other : (b : Bool) → bytes_eq q x.0 ≡ b
        → cond b (Some (start_item x.1)) (finite_map.get (start_contents (xs ++ ys)) q) ≡ finite_map.get (start_contents (xs ++ ys)) q
    other true f = let same = ap keys ((bytes_eq-Decides q x.0).0 f) in let not_here = off x (inl refl) in absurd (cc)
    other false f = refl

-- ---- two lists at different keys

abbrev pub AllAt : Keys → Bool → List Effected → Type 0
AllAt keys b effected = (a : Effected) → IsIn a effected → keys a.operation.request.key ≡ b

pub merged_replies : (keys : Keys) (c d e : Contents) (xs ys zs : List Effected) → IsMerge xs ys zs → AllAt keys true xs → AllAt keys false ys
    → AgreeAt keys c d → AgreeAt (λ q. not (keys q)) c e → GivesEach xs (replay d (map step_of xs)) → GivesEach ys (replay e (map step_of ys))
    → GivesEach zs (replay c (map step_of zs))
merged_replies keys c d e xs ys zs none on off l r gx gy = tt
merged_replies keys c d e xs ys zs (left {x = a} {xs = ls} {ys = rs} {zs = ms} m) on off l r gx gy =
    let here = on a (inl refl) in (
      subst (IsReceived (received a.operation.answer)) (sym (same_reply c d (step_of a) (l a.operation.request.key here))) gx.0,
      merged_replies keys (after c (step_of a)) (after d (step_of a)) e ls rs ms m (λ b h. on b (inr h)) off
          (agree_after keys c d (step_of a) here l) (agree_apart (λ q. not (keys q)) c e (step_of a) (ap not here) r) gx.1 gy,
    )
merged_replies keys c d e xs ys zs (right {y = a} {xs = ls} {ys = rs} {zs = ms} m) on off l r gx gy =
    let here = off a (inl refl) in (
      subst (IsReceived (received a.operation.answer)) (sym (same_reply c e (step_of a) (r a.operation.request.key (ap not here)))) gy.0,
      merged_replies keys (after c (step_of a)) d (after e (step_of a)) ls rs ms m on (λ b h. off b (inr h))
          (agree_apart keys c d (step_of a) here l) (agree_after (λ q. not (keys q)) c e (step_of a) (ap not here) r) gx gy.1,
    )

pub merged_versions : (keys : Keys) (c d e : Contents) (xs ys zs : List Effected) → IsMerge xs ys zs → AllAt keys true xs → AllAt keys false ys
    → AgreeAt keys c d → AgreeAt (λ q. not (keys q)) c e
    → IsMerge (versions d (map step_of xs)) (versions e (map step_of ys)) (versions c (map step_of zs))
merged_versions keys c d e xs ys zs none on off l r = none
merged_versions keys c d e xs ys zs (left {x = a} {xs = ls} {ys = rs} {zs = ms} m) on off l r =
    let here = on a (inl refl) in
    let rest = merged_versions keys (after c (step_of a)) (after d (step_of a)) e ls rs ms m (λ b h. on b (inr h)) off
    (agree_after keys c d (step_of a) here l) (agree_apart (λ q. not (keys q)) c e (step_of a) (ap not here) r) in
    subst (λ l. IsMerge (versions d (map step_of (a ∷ ls))) (versions e (map step_of rs)) (l ++ versions (after c (step_of a)) (map step_of ms)))
    (sym (same_versions c d (step_of a) (l a.operation.request.key here)))
    (more_left (version_by a.operation.request.key (change_by d (step_of a))) _ _ _ rest)
merged_versions keys c d e xs ys zs (right {y = a} {xs = ls} {ys = rs} {zs = ms} m) on off l r =
    let here = off a (inl refl) in
    let rest = merged_versions keys (after c (step_of a)) d (after e (step_of a)) ls rs ms m on (λ b h. off b (inr h))
    (agree_apart keys c d (step_of a) here l) (agree_after (λ q. not (keys q)) c e (step_of a) (ap not here) r) in
    subst (λ l. IsMerge (versions d (map step_of ls)) (versions e (map step_of (a ∷ rs))) (l ++ versions (after c (step_of a)) (map step_of ms)))
    (sym (same_versions c e (step_of a) (r a.operation.request.key (ap not here))))
    (more_right (version_by a.operation.request.key (change_by e (step_of a))) _ _ _ rest)
