-- What an answer changes of the operations.
use Rattle.std.proofs.Common.{◌≡◌, ◌≢◌, ℕ, Bool, true, false, cond, not, ◌&&◌, eqb, eqb-true, is_some}
use Rattle.std.proofs.Common.{Some, List, [], ◌∷◌, map, refl, ap, sym, ◌∙◌}
use Rattle.std.specs.Str.{bytes_eq}
use Rattle.mc_timeline.specs.Operations.{Answer, Operation, on_key}
use Rattle.mc_timeline.specs.Rules as rule
use Rattle.mc_timeline.proofs.MoreNotes.{answered}

-- ---- the answer changes no request and no client

abbrev pub waits_for : ℕ → Operation → Bool
waits_for client x = eqb x.client client && not (is_some x.answer)

pub same_request : (client : ℕ) (answer : Answer) (x : Operation) → (answered client answer x).request ≡ x.request
same_request client answer x = by (waits_for client x)
  where
    by : (b : Bool) → (cond b (record x { answer = Some answer }) x).request ≡ x.request
    by true = refl
    by false = refl

pub same_client : (client : ℕ) (answer : Answer) (x : Operation) → (answered client answer x).client ≡ x.client
same_client client answer x = by (waits_for client x)
  where
    by : (b : Bool) → (cond b (record x { answer = Some answer }) x).client ≡ x.client
    by true = refl
    by false = refl

pub on_key_answered : (client : ℕ) (answer : Answer) (key : List ℕ) (xs : List Operation)
    → on_key key (map (answered client answer) xs) ≡ map (answered client answer) (on_key key xs)
on_key_answered client answer key [] = refl
on_key_answered client answer key (x ∷ xs) =
    ap (λ r. cond (bytes_eq r.key key) (answered client answer x ∷ on_key key (map (answered client answer) xs)) (on_key key (map (answered client answer) xs)))
    (same_request client answer x)
    ∙ by (bytes_eq x.request.key key) (on_key_answered client answer key xs)
  where
    by : (b : Bool) → on_key key (map (answered client answer) xs) ≡ map (answered client answer) (on_key key xs)
        → cond b (answered client answer x ∷ on_key key (map (answered client answer) xs)) (on_key key (map (answered client answer) xs))
        ≡ map (answered client answer) (cond b (x ∷ on_key key xs) (on_key key xs))
    by true rest = ap (λ l. answered client answer x ∷ l) rest
    by false rest = rest

pub keys_answered : (client : ℕ) (answer : Answer) (keys : List (List ℕ)) (xs : List Operation)
    → rule.keys_after keys (map (answered client answer) xs) ≡ rule.keys_after keys xs
keys_answered client answer keys [] = refl
keys_answered client answer keys (x ∷ xs) =
    ap (λ r. rule.keys_after (rule.with_key keys r.key) (map (answered client answer) xs)) (same_request client answer x)
    ∙ keys_answered client answer (rule.with_key keys x.request.key) xs

-- ---- who waits

-- the client waits no more
pub none_left : (client : ℕ) (answer : Answer) (xs : List Operation) → rule.waiting_of client (map (answered client answer) xs) ≡ []
none_left client answer [] = refl
none_left client answer (x ∷ xs) = by (eqb x.client client) refl (is_some x.answer) refl (none_left client answer xs)
  where
    others : List Operation
    others = rule.waiting_of client (map (answered client answer) xs)

    by : (b : Bool) → eqb x.client client ≡ b → (s : Bool) → is_some x.answer ≡ s → others ≡ []
        → cond (waits_for client (cond (b && not s) (record x { answer = Some answer }) x))
        (cond (b && not s) (record x { answer = Some answer }) x ∷ others) others
        ≡ []
    by true e true f rest = rw (e, f) rest
    by true e false f rest = rw e rest
    by false e true f rest = rw e rest
    by false e false f rest = rw e rest

-- and every other one waits as before
pub others_wait : (client : ℕ) (answer : Answer) (other : ℕ) → other ≢ client → (xs : List Operation)
    → rule.waiting_of other (map (answered client answer) xs) ≡ rule.waiting_of other xs
others_wait client answer other apart [] = refl
others_wait client answer other apart (x ∷ xs) = by (eqb x.client client) refl (is_some x.answer) (others_wait client answer other apart xs)
  where
    others : List Operation
    others = rule.waiting_of other (map (answered client answer) xs)

    by : (b : Bool) → eqb x.client client ≡ b → (s : Bool) → others ≡ rule.waiting_of other xs
        → cond (waits_for other (cond (b && not s) (record x { answer = Some answer }) x))
        (cond (b && not s) (record x { answer = Some answer }) x ∷ others) others
        ≡ cond (waits_for other x) (x ∷ rule.waiting_of other xs) (rule.waiting_of other xs)
    by true e true rest = ap (λ l. cond (waits_for other x) (x ∷ l) l) rest
    by true e false rest = not_it (eqb x.client other) refl
      where
        not_it : (c : Bool) → eqb x.client other ≡ c
            → cond (c && false) (record x { answer = Some answer } ∷ others) others
            ≡ cond (c && not (is_some x.answer)) (x ∷ rule.waiting_of other xs) (rule.waiting_of other xs)
        not_it true f = absurd (apart (sym (eqb-true x.client other f) ∙ eqb-true x.client client e))
        not_it false f = rest
    by false e s rest = ap (λ l. cond (waits_for other x) (x ∷ l) l) rest
