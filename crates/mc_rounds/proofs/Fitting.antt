-- Each request of a client is on one of the keys, is short, and words spell it.
use Rattle.std.proofs.Common.{◌≡◌, ℕ, zero, suc, ◌<◌, ◌≤◌, ◌==◌, ◌&&◌, ◌||◌, nat_le, Bool, true, false, Option, Some, None, IfSome, List, [], length, get_or}
use Rattle.std.proofs.Common.{refl, arith, if◌then◌else◌}
use Rattle.std.proofs.lemmas.Bool.{le-leb}
use Rattle.rand_pcg.specs.Lcg.{Lcg}
use Rattle.mc_protocol.specs.declared.limits.TheConstants.{REPLY_BODY_LIMIT}
use Rattle.mc_protocol.specs.{Fields.fields_of, Names.is_key, declared.request.Request.Request, declared.request.Verb.Verb}
use Rattle.mc_protocol.specs.declared.request.Verb.TheVariants as verb
use Rattle.mc_model.specs.History.{has_its_fields}
use Rattle.mc_rounds.specs.Clients.{Asking, number_of, request_as, asking_of}
use Rattle.mc_rounds.specs.{Draws.draw, Draws.rest, Wishes.verb_in, Wishes.fields_in, Wishes.wish_in, Laws.IsAsked, Laws.RequestsFit}
use Rattle.mc_rounds.proofs.WishFacts.{draw-below, body-short}

spelled : (key : List ℕ) (n : ℕ) (own : Bool) → n ≤ 8 → own ≡ true → is_key key ≡ true → (is_key key && nat_le n REPLY_BODY_LIMIT && own) ≡ true
spelled key n own short has is = let small : n ≤ 65536 = omega arith in rw (is, le-leb n 65536 small, has) refl

asked : (keys : List (List ℕ)) (c : Asking) (index : ℕ) (r : Request) → index < length keys → r.key ≡ get_or keys index []
    → (r.verb ≡ verb.Cas → number_of c.heard index ≡ Some r.number) → length r.body ≤ 8 → has_its_fields r ≡ true → IsAsked keys c r
asked keys c index r below key heard short own = record {
  on_key = (index, record { below = below; key = key; heard = heard });
  short = short;
  spelled = spelled r.key (length r.body) (has_its_fields r) short own;
}

by-verb : (keys : List (List ℕ)) (c : Asking) (index : ℕ) (g : Lcg) → index < length keys → (v : Verb)
    → IfSome (asking_of keys c (fields_in v index (fields_of v) g)).0 (IsAsked keys c)
by-verb keys c index g below verb.Set = asked keys c index _ below refl (λ e. cc) (body-short (rest g)) refl
by-verb keys c index g below verb.Add = asked keys c index _ below refl (λ e. cc) (body-short (rest g)) refl
by-verb keys c index g below verb.Replace = asked keys c index _ below refl (λ e. cc) (body-short (rest g)) refl
by-verb keys c index g below verb.Append = asked keys c index _ below refl (λ e. cc) (body-short (rest g)) refl
by-verb keys c index g below verb.Prepend = asked keys c index _ below refl (λ e. cc) (body-short (rest g)) refl
by-verb keys c index g below verb.Cas = by-number (number_of c.heard index) refl
  where
    by-number : (n : Option ℕ) → number_of c.heard index ≡ n
        → IsAsked keys c (request_as verb.Cas (get_or keys index []) n (fields_in verb.Cas index (fields_of verb.Cas) g).0)
    by-number None e = asked keys c index _ below refl (λ e. cc) (omega arith) refl
    by-number (Some n) e = asked keys c index _ below refl (λ _. e) (body-short (rest g)) refl
by-verb keys c index g below verb.Get = asked keys c index _ below refl (λ e. cc) (omega arith) refl
by-verb keys c index g below verb.Gets = asked keys c index _ below refl (λ e. cc) (omega arith) refl
by-verb keys c index g below verb.Incr = asked keys c index _ below refl (λ e. cc) (omega arith) refl
by-verb keys c index g below verb.Decr = asked keys c index _ below refl (λ e. cc) (omega arith) refl
by-verb keys c index g below verb.Delete = asked keys c index _ below refl (λ e. cc) (omega arith) refl
by-verb keys c index g below verb.Touch = asked keys c index _ below refl (λ e. cc) (omega arith) refl

some-below : (n : ℕ) → (n == 0) ≡ false → 0 < n
some-below zero e = cc
some-below (suc n) e = omega arith

pub fitting : RequestsFit
fitting keys c = by-rest (c.left == 0) (length keys == 0) refl
  where
    by-rest : (a b : Bool) → (length keys == 0) ≡ b
        → IfSome (if a || b then (None, c) else asking_of keys c (wish_in c.mix (length keys) c.generator)).0 (IsAsked keys c)
    by-rest true b e = tt
    by-rest false true e = tt
    by-rest false false e =
        let drawn = verb_in c.mix c.generator in
        by-verb keys c (draw (length keys) drawn.1) (rest drawn.1) (draw-below (length keys) drawn.1 (some-below (length keys) e)) drawn.0
