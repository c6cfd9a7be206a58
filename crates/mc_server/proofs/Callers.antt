-- What a store answers is what a caller may answer.
use Rattle.std.proofs.Common.{◌≡◌, Bool, true, false, ◌&&◌, ◌==◌, cond, Option, Some, Result, Ok, Err, IsErrAnd, List, ℕ, [], ◌∷◌, refl, sym, ap, subst, ◌∙◌}
use Rattle.std.specs.{Cmp.eq_by_cmp_equiv, Cmp.Lexicographic.nat_list_cmp_total, FinMap.get-insert}
use Rattle.std.specs.FinMap as finite_map
use Rattle.mc_protocol.specs.{Decimals.MAX_64, declared.reply.Reply.Reply, declared.request.Request.Request, declared.request.Verb.Verb}
use Rattle.mc_protocol.specs.declared.request.Verb.TheVariants as verb
use Rattle.mc_model.specs.Act as act
use Rattle.mc_model.specs.{Contents.Contents, declared.cache.Item.Item}
use Rattle.mc_server.specs.Stores.{Stored, Calls, plain, effect_on, makes_version}
use Rattle.mc_server.specs.declared.store.StoreFault.TheVariants.{OutOfMemory, NumbersUsedUp}
use Rattle.mc_server.specs.{Callers.MayAnswer, declared.store.StoreFault.StoreFault}

pub may_answer : (old new : Stored) (request : Request) (result : Result Reply StoreFault) → Calls old request new result → MayAnswer request result
may_answer old new request (Ok reply) h = (old, h.1)
may_answer old new request (Err OutOfMemory) h = tt
may_answer old new request (Err NumbersUsedUp) h = (old, h.0)

-- ---- faults of an incr: each of them may be answered, since a store that holds a number at the key may have none left

abbrev zero : Item
zero = record { flags = 0; body = 48 ∷ []; number = 0 }

counted_zero : (request : Request) (found : Option Item) → found ≡ Some zero
    → makes_version (act.count act.increment request plain MAX_64 found).change ≡ true
counted_zero request found is =
    subst (λ o. makes_version (act.count act.increment request plain MAX_64 o).change ≡ true) (sym is) refl

incremented : (v : Verb) (request : Request) (found : Option Item) → v ≡ verb.Incr → found ≡ Some zero
    → makes_version (act.effect_by v request plain MAX_64 found).change ≡ true
incremented v request found is there =
    subst (λ x. makes_version (act.effect_by x request plain MAX_64 found).change ≡ true) (sym is) (counted_zero request found there)

abbrev none : Contents
none = finite_map.empty

-- what holds a zero at the key
abbrev zero_at : List ℕ → Contents
zero_at key = finite_map.insert none key zero

found_zero : (key : List ℕ) → finite_map.get (zero_at key) key ≡ Some zero
found_zero key =
    get-insert nat_list_cmp_total none key zero key
    ∙ ap (λ b. cond b (Some zero) (finite_map.get none key)) ((eq_by_cmp_equiv nat_list_cmp_total).refl key)

both : (b c : Bool) → b ≡ true → c ≡ true → (b && c) ≡ true
both true true h k = refl
both true false h k = k
both false c h k = h

pub may_fail : (request : Request) (fault : StoreFault) → request.verb ≡ verb.Incr → MayAnswer request (Err fault)
may_fail request OutOfMemory is = tt
may_fail request NumbersUsedUp is = (
  record { contents = zero_at request.key; next = MAX_64 },
  both (makes_version (effect_on (record { contents = zero_at request.key; next = MAX_64 }) request).change) (MAX_64 == MAX_64)
      (incremented request.verb request (finite_map.get (zero_at request.key) request.key) is (found_zero request.key)) refl,
)

pub may_fail_as : (request : Request) (P : StoreFault → Type 0) (result : Result Reply StoreFault) → IsErrAnd result P → request.verb ≡ verb.Incr
    → MayAnswer request result
may_fail_as request P (Ok reply) h is = absurd h
may_fail_as request P (Err fault) h is = may_fail request fault is
