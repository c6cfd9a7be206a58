-- The keys of requests: which there are, and how many with one more request.
use Rattle.std.proofs.Common.{◌≡◌, ℕ, ◌+◌, Bool, cond, ◌||◌, bytes_eq, List, [], ◌∷◌, ◌++◌, append_assoc, append-nil, refl, sym, ap, ap₂, ◌∙◌, arith}
use Rattle.std.proofs.{lemmas.Cmp.nat_list_cmp_total, lemmas.Slice.Eq.bytes_eq-Decides, lemmas.Bool.Decides.same_from_decides, lemmas.Bool.Decides.Decides-like}
use Rattle.std.specs.FinMap.{slice_cmp-IsAntisymmetric, nat_cmp-IsAntisymmetric}
use Rattle.std.specs.{Ordering.nat_cmp, Cmp.Lexicographic.slice_cmp, Cmp.Lexicographic.texts_ties}
use Rattle.std.specs.FinSet as set
use Rattle.mc_model.specs.{Types.Actor, Types.Sent, Sections.Sections, Sections.with_sent, History.is_on, History.has_key, History.keys_of, History.key_count}
use Rattle.mc_protocol.specs.declared.actor.Actor.TheVariants as actor

-- the two sides of a test of bytes may change places
pub bytes_eq_sym : (x y : List ℕ) → bytes_eq x y ≡ bytes_eq y x
bytes_eq_sym x y = same_from_decides (bytes_eq x y) (bytes_eq y x) (bytes_eq-Decides x y) (Decides-like (bytes_eq y x) sym sym (bytes_eq-Decides y x))

-- the keys that the requests have
abbrev pub key_set : List Sent → set.FinSet (slice_cmp nat_cmp)
key_set section = set.from_list (keys_of section)

-- a key is among them where a request is on it
pub contains-key_set : (section : List Sent) (key : List ℕ) → set.contains (key_set section) key ≡ has_key key section
contains-key_set [] key = set.contains-empty (slice_cmp nat_cmp) key
contains-key_set (sent ∷ section) key =
    set.contains-insert nat_list_cmp_total (key_set section) sent.request.key key
    ∙ ap₂ (λ x y. x || y) (sym (texts_ties key sent.request.key) ∙ bytes_eq_sym key sent.request.key) (contains-key_set section key)

or_swap : (x y z : Bool) → (x || (y || z)) ≡ (y || (x || z))
or_swap x y z = grind arith

-- a request on the key may stand anywhere
has_key_with : (key : List ℕ) (xs ys : List Sent) (sent : Sent) → has_key key (xs ++ sent ∷ ys) ≡ (is_on key sent || has_key key (xs ++ ys))
has_key_with key [] ys sent = refl
has_key_with key (x ∷ xs) ys sent = ap (λ b. is_on key x || b) (has_key_with key xs ys sent) ∙ or_swap (is_on key x) (is_on key sent) (has_key key (xs ++ ys))

-- one more request adds its key
key_set_with : (xs ys : List Sent) (sent : Sent) → key_set (xs ++ sent ∷ ys) ≡ set.insert (key_set (xs ++ ys)) sent.request.key
key_set_with xs ys sent =
    set.same_set nat_list_cmp_total (slice_cmp-IsAntisymmetric nat_cmp-IsAntisymmetric) _ _
    (λ q. contains-key_set (xs ++ sent ∷ ys) q ∙ has_key_with q xs ys sent
    ∙ sym (set.contains-insert nat_list_cmp_total (key_set (xs ++ ys)) sent.request.key q
    ∙ ap₂ (λ x y. x || y) (sym (texts_ties q sent.request.key) ∙ bytes_eq_sym q sent.request.key) (contains-key_set (xs ++ ys) q)))

-- the lists less and more, the second with one more request somewhere
counted : (xs ys : List Sent) (sent : Sent) (less more : List Sent) → less ≡ xs ++ ys → more ≡ xs ++ sent ∷ ys
    → set.len (key_set more) ≡ cond (has_key sent.request.key less) (set.len (key_set less)) (set.len (key_set less) + 1)
counted xs ys sent less more e f =
    rw (f, e)
    (ap set.len (key_set_with xs ys sent) ∙ set.len-insert nat_list_cmp_total (key_set (xs ++ ys)) sent.request.key
    ∙ ap (λ b. cond b (set.len (key_set (xs ++ ys))) (set.len (key_set (xs ++ ys)) + 1)) (contains-key_set (xs ++ ys) sent.request.key))

-- how many keys there are with one more request
pub key_count_added : (s : Sections) (who : Actor) (sent : Sent)
    → key_count (with_sent s who sent) ≡ cond (has_key sent.request.key (s.p ++ s.a ++ s.b)) (key_count s) (key_count s + 1)
key_count_added s actor.P sent = counted s.p (s.a ++ s.b) sent (s.p ++ s.a ++ s.b) _ (simp append_assoc) (simp append_assoc)
key_count_added s actor.A sent = counted (s.p ++ s.a) s.b sent (s.p ++ s.a ++ s.b) _ refl (simp append_assoc)
key_count_added s actor.B sent = counted (s.p ++ s.a ++ s.b) [] sent (s.p ++ s.a ++ s.b) _ (simp append-nil) (simp append_assoc)
