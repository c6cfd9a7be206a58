-- What a client hears changes no request but a cas.
use Rattle.std.proofs.Common.{◌≡◌, ℕ, ◌-◌, ◌==◌, ◌||◌, Bool, true, false, Option, Some, None, List, [], ◌∷◌, length, get_or, set, map}
use Rattle.std.proofs.Common.{refl, sym, ap, ◌∙◌, arith, if◌then◌else◌}
use Rattle.std.specs.Option.{option_map}
use Rattle.rand_pcg.specs.Lcg.{Lcg}
use Rattle.mc_protocol.specs.{declared.reply.Reply.Reply, declared.request.Request.Request, declared.request.Verb.Verb}
use Rattle.mc_protocol.specs.declared.request.Verb.TheVariants as verb
use Rattle.mc_settings.specs.declared.mix.Mix.{Mix}
use Rattle.mc_rounds.specs.Clients.{Asking, number_of, request_as, request_of, asked_by, asking_of, shown_by, hearing_of, hearing}
use Rattle.mc_rounds.specs.{declared.wish.Wish.Wish, Wishes.wish_in, Draws.generator_of, Laws.asked_with, Laws.as_gets, Laws.SeedsTellRequests}

-- a client that draws this next, and heard these numbers
abbrev drawing : Mix → ℕ → Lcg → List (Option ℕ) → Option ℕ → Asking
drawing m left g heard asked = record { mix = m; left = left; generator = g; heard = heard; asked = asked }

abbrev plain : List (Option Request) → List (Option Request)
plain requests = map (option_map as_gets) requests

-- ---- one request

request-alike : (v : Verb) (key : List ℕ) (n n' : Option ℕ) (w : Wish) → as_gets (request_as v key n w) ≡ as_gets (request_as v key n' w)
request-alike verb.Set key n n' w = refl
request-alike verb.Add key n n' w = refl
request-alike verb.Replace key n n' w = refl
request-alike verb.Append key n n' w = refl
request-alike verb.Prepend key n n' w = refl
request-alike verb.Cas key None None w = refl
request-alike verb.Cas key None (Some n') w = refl
request-alike verb.Cas key (Some n) None w = refl
request-alike verb.Cas key (Some n) (Some n') w = refl
request-alike verb.Get key n n' w = refl
request-alike verb.Gets key n n' w = refl
request-alike verb.Incr key n n' w = refl
request-alike verb.Decr key n n' w = refl
request-alike verb.Delete key n n' w = refl
request-alike verb.Touch key n n' w = refl

-- ---- what is heard

-- a client that hears something draws as before
heard-by : (m : Mix) (left : ℕ) (g : Lcg) (heard : List (Option ℕ)) (asked shown : Option ℕ)
    → (more : List (Option ℕ)) × (hearing_of asked shown (drawing m left g heard asked) ≡ drawing m left g more asked)
heard-by m left g heard None None = (heard, refl)
heard-by m left g heard None (Some n) = (heard, refl)
heard-by m left g heard (Some index) None = (heard, refl)
heard-by m left g heard (Some index) (Some n) = (set heard index (Some n), refl)

-- what two clients ask that draw the same, whatever they heard
abbrev Alike : List (List ℕ) → List Reply → List Reply → Type 0
Alike keys replies others =
    (m : Mix) (left : ℕ) (g : Lcg) (h h' : List (Option ℕ)) (a a' : Option ℕ)
    → plain (asked_with keys (drawing m left g h a) replies) ≡ plain (asked_with keys (drawing m left g h' a') others)

after-hearing : (keys : List (List ℕ)) (r o : Reply) (replies others : List Reply) → Alike keys replies others
    → (m : Mix) (left : ℕ) (g : Lcg) (h h' : List (Option ℕ)) (a a' : Option ℕ)
    → plain (asked_with keys (hearing r (drawing m left g h a)) replies)
    ≡ plain (asked_with keys (hearing o (drawing m left g h' a')) others)
after-hearing keys r o replies others alike m left g h h' a a' =
    let one = heard-by m left g h a (shown_by r) in
    let other = heard-by m left g h' a' (shown_by o) in
    ap (λ c. plain (asked_with keys c replies)) one.1 ∙ alike m left g one.0 other.0 a a'
    ∙ sym (ap (λ c. plain (asked_with keys c others)) other.1)

-- ---- all requests

one-more : (keys : List (List ℕ)) (r o : Reply) (replies others : List Reply) → Alike keys replies others → Alike keys (r ∷ replies) (o ∷ others)
one-more keys r o replies others further m left g h h' a a' = by-rest ((left == 0) || (length keys == 0)) (wish_in m (length keys) g)
  where
    by-wish : (w : Wish) (next : Lcg) (n n' : Option ℕ)
        → Some (as_gets (request_of (get_or keys w.key []) n w))
        ∷ plain (asked_with keys (hearing r (drawing m (left - 1) next h (asked_by (request_of (get_or keys w.key []) n w).verb w.key))) replies)
        ≡ Some (as_gets (request_of (get_or keys w.key []) n' w))
        ∷ plain (asked_with keys (hearing o (drawing m (left - 1) next h' (asked_by (request_of (get_or keys w.key []) n' w).verb w.key))) others)
    by-wish w next n n' =
        let key = get_or keys w.key [] in
        let one = asked_by (request_of key n w).verb w.key in
        let other = asked_by (request_of key n' w).verb w.key in
        ap (λ q. Some q ∷ plain (asked_with keys (hearing r (drawing m (left - 1) next h one)) replies)) (request-alike w.verb key n n' w)
        ∙ ap (λ qs. Some (as_gets (request_of key n' w)) ∷ qs) (after-hearing keys r o replies others further m (left - 1) next h h' one other)

    by-rest : (done : Bool) (p : Wish × Lcg)
        → (let one = if done then (None, drawing m left g h a) else asking_of keys (drawing m left g h a) p in
        option_map as_gets one.0 ∷ plain (asked_with keys (hearing r one.1) replies))
        ≡ (let other = if done then (None, drawing m left g h' a') else asking_of keys (drawing m left g h' a') p in
        option_map as_gets other.0 ∷ plain (asked_with keys (hearing o other.1) others))
    by-rest true p = ap (λ qs. None ∷ qs) (after-hearing keys r o replies others further m left g h h' a a')
    by-rest false (w, next) = by-wish w next (number_of h w.key) (number_of h' w.key)

asked-alike : (keys : List (List ℕ)) (replies others : List Reply) → length replies ≡ length others → Alike keys replies others
asked-alike keys [] [] same m left g h h' a a' = refl
asked-alike keys [] (o ∷ others) same m left g h h' a a' = cc
asked-alike keys (r ∷ replies) [] same m left g h h' a a' = cc
asked-alike keys (r ∷ replies) (o ∷ others) same m left g h h' a a' =
    one-more keys r o replies others (asked-alike keys replies others (omega arith)) m left g h h' a a'

pub seeds-tell : SeedsTellRequests
seeds-tell keys plan round client replies others same =
    asked-alike keys replies others same plan.mix plan.requests (generator_of plan.seed round client) _ _ None None
