-- What a section sent and received by the first of some notes, and by all of them.
use Rattle.std.proofs.Common.{◌≡◌, ◌⊎◌, inl, inr, ℕ, zero, suc, ◌+◌, ◌≤◌, ◌<◌, true, not, Option, None, is_some}
use Rattle.std.proofs.Common.{List, [], ◌∷◌, ◌++◌, drop, length, refl, ap, add-one, arith}
use Rattle.mc_protocol.specs.{declared.request.Request.Request, declared.reply.Reply.Reply}
use Rattle.mc_model.specs.{declared.sent.Sent.Sent, Notes.with_replies}
use Rattle.mc_claims.specs.Walk.{may_end}

-- the first of these requests, each with its reply or with none
abbrev pub Begins : List Sent → List Sent → Type 0
Begins [] xs = Unit {0}
Begins (y ∷ ys) [] = ⊥
Begins (y ∷ ys) (x ∷ xs) = (y.request ≡ x.request) × ((y.reply ≡ x.reply) ⊎ (y.reply ≡ None)) × Begins ys xs

pub begins_with : (requests more : List Request) (replies others : List Reply)
    → Begins (with_replies requests replies) (with_replies (requests ++ more) (replies ++ others))
begins_with [] more replies others = tt
begins_with (r ∷ rs) more [] [] = (refl, inl refl, begins_with rs more [] [])
begins_with (r ∷ rs) more [] (y ∷ ys) = (refl, inr refl, begins_with rs more [] ys)
begins_with (r ∷ rs) more (x ∷ xs) others = (refl, inl refl, begins_with rs more xs others)

pub begins_drop : (n : ℕ) (ys xs : List Sent) → Begins ys xs → Begins (drop n ys) (drop n xs)
begins_drop zero ys xs b = b
begins_drop (suc n) [] xs b = tt
begins_drop (suc n) (y ∷ ys) [] b = absurd b
begins_drop (suc n) (y ∷ ys) (x ∷ xs) b = begins_drop n ys xs b.2

no_reply : (y x : Option Reply) → (y ≡ x) ⊎ (y ≡ None) → not (is_some x) ≡ true → not (is_some y) ≡ true
no_reply y x (inl e) n = rw e n
no_reply y x (inr e) n = rw e refl

-- where all may end, so may the first of it
pub begins_may_end : (ys xs : List Sent) → Begins ys xs → may_end xs ≡ true → may_end ys ≡ true
begins_may_end [] xs b e = refl
begins_may_end (y ∷ ys) [] b e = absurd b
begins_may_end (y ∷ []) (x ∷ []) b e = no_reply y.reply x.reply b.1 e
begins_may_end (y ∷ z ∷ ys) (x ∷ []) b e = absurd b.2
begins_may_end (y ∷ ys) (x ∷ w ∷ xs) b e = absurd (cc)

pub length-with_replies : (requests : List Request) (replies : List Reply) → length (with_replies requests replies) ≡ length requests
length-with_replies [] replies = refl
length-with_replies (r ∷ rs) [] = ap suc (length-with_replies rs [])
length-with_replies (r ∷ rs) (x ∷ xs) = ap suc (length-with_replies rs xs)

-- a section may end after as many requests as were answered
pub answered_may_end : (requests : List Request) (replies : List Reply) (n : ℕ) → length requests ≤ length replies + 1 → length replies ≤ n
    → may_end (drop n (with_replies requests replies)) ≡ true
answered_may_end [] replies zero few many = refl
answered_may_end [] replies (suc n) few many = refl
answered_may_end (r ∷ []) [] zero few many = refl
answered_may_end (r ∷ []) [] (suc zero) few many = refl
answered_may_end (r ∷ []) [] (suc (suc n)) few many = refl
answered_may_end (r ∷ q ∷ rs) [] n few many = absurd (omega (arith, few))
answered_may_end (r ∷ rs) (x ∷ xs) zero few many = absurd (omega (arith, many))
answered_may_end (r ∷ rs) (x ∷ xs) (suc n) few many = answered_may_end rs xs n (omega (arith, few)) (omega (arith, many))

-- ---- what is left of a list

drop_suc : {X : Type 0} (n : ℕ) (xs : List X) (x : X) (others : List X) → drop n xs ≡ x ∷ others → drop (suc n) xs ≡ others
drop_suc zero [] x others e = absurd (cc)
drop_suc zero (y ∷ xs) x others e = cc
drop_suc (suc n) [] x others e = absurd (cc)
drop_suc (suc n) (y ∷ xs) x others e = drop_suc n xs x others e

pub drop_tail : {X : Type 0} (n : ℕ) (xs : List X) (x : X) (others : List X) → drop n xs ≡ x ∷ others → drop (n + 1) xs ≡ others
drop_tail n xs x others e = rw add-one (drop_suc n xs x others e)

pub drop_none : {X : Type 0} (n : ℕ) (xs : List X) → drop n xs ≡ [] → length xs ≤ n
drop_none zero [] e = omega arith
drop_none zero (y ∷ xs) e = absurd (cc)
drop_none (suc n) [] e = omega arith
drop_none (suc n) (y ∷ xs) e = let few = drop_none n xs e in omega (arith, few)

pub drop_some : {X : Type 0} (n : ℕ) (xs : List X) (x : X) (others : List X) → drop n xs ≡ x ∷ others → n < length xs
drop_some zero [] x others e = absurd (cc)
drop_some zero (y ∷ xs) x others e = omega arith
drop_some (suc n) [] x others e = absurd (cc)
drop_some (suc n) (y ∷ xs) x others e = let few = drop_some n xs x others e in omega (arith, few)
