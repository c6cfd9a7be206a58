-- The numbers in a store are below its counter, also after a change.
use Rattle.std.proofs.Common.{◌≡◌, ℕ, ◌+◌, ◌<◌, Bool, true, false, cond, if◌then◌else◌, Option, Some, None, List, IfSome, sym, subst, refl, arith}
use Rattle.std.specs.Cmp.Lexicographic.{slice_cmp, nat_list_cmp_total}
use Rattle.std.specs.{Ordering.nat_cmp, Ordering.eq_by_cmp, FinMap.get-empty, FinMap.get-insert, FinMap.get-remove}
use Rattle.std.specs.FinMap as finite_map
use Rattle.mc_protocol.specs.declared.request.Request.{Request}
use Rattle.mc_model.specs.Act as act
use Rattle.mc_model.specs.{Contents.Contents, Decide.change_at, declared.cache.Item.Item, declared.deciding.Change.Change}
use Rattle.mc_model.specs.declared.deciding.Change.TheVariants as change
use Rattle.mc_server.specs.Stores.{AreBelow, makes_version}

pub below_empty : (n : ℕ) → AreBelow n finite_map.empty
below_empty n key = subst (λ o. IfSome o (λ (item : Item). item.number < n)) (sym (get-empty (slice_cmp nat_cmp) key)) tt

kept : (b : Bool) (n : ℕ) (o : Option Item) → IfSome o (λ item. item.number < n) → IfSome (cond b None o) (λ item. item.number < n)
kept true n o h = tt
kept false n o h = h

below_removed : (n : ℕ) (c : Contents) (k : List ℕ) → AreBelow n c → AreBelow n (finite_map.remove c k)
below_removed n c k h q =
    subst (λ o. IfSome o (λ (item : Item). item.number < n)) (sym (get-remove nat_list_cmp_total c k q))
    (kept (eq_by_cmp (slice_cmp nat_cmp) q k) n (finite_map.get c q) (h q))

higher : (n : ℕ) (o : Option Item) → IfSome o (λ item. item.number < n) → IfSome o (λ item. item.number < n + 1)
higher n None h = tt
higher n (Some item) h = omega arith

either : (b : Bool) (n : ℕ) (x : Item) (o : Option Item) → x.number ≡ n → IfSome o (λ item. item.number < n)
    → IfSome (cond b (Some x) o) (λ item. item.number < n + 1)
either true n x o e h = omega arith
either false n x o e h = higher n o h

below_put : (n : ℕ) (c : Contents) (k : List ℕ) (x : Item) → x.number ≡ n → AreBelow n c → AreBelow (n + 1) (finite_map.insert c k x)
below_put n c k x e h q =
    subst (λ o. IfSome o (λ (item : Item). item.number < n + 1)) (sym (get-insert nat_list_cmp_total c k x q))
    (either (eq_by_cmp (slice_cmp nat_cmp) q k) n x (finite_map.get c q) e (h q))

-- a version that is made has this number
abbrev IsNumbered : ℕ → act.Change → Type 0
IsNumbered n act.Keeps = Unit {0}
IsNumbered n (act.Puts item) = item.number ≡ n
IsNumbered n act.Removes = Unit {0}

numbered : (request : Request) (pad : Bool) (n : ℕ) (found : Option Item) (decided : Change) → IsNumbered n (change_at request pad n found decided)
numbered request pad n found change.Keeps = tt
numbered request pad n found change.Stores = refl
numbered request pad n None change.Appends = tt
numbered request pad n (Some item) change.Appends = refl
numbered request pad n None change.Prepends = tt
numbered request pad n (Some item) change.Prepends = refl
numbered request pad n None (change.Counts m) = tt
numbered request pad n (Some item) (change.Counts m) = refl
numbered request pad n found change.Removes = tt

after : (n : ℕ) (c : Contents) (k : List ℕ) (made : act.Change) → IsNumbered n made → AreBelow n c
    → AreBelow (if makes_version made then n + 1 else n) (act.with_change c k made)
after n c k act.Keeps is h = h
after n c k (act.Puts item) is h = below_put n c k item is h
after n c k act.Removes is h = below_removed n c k h

-- what was decided keeps the numbers below the counter
pub below_changed : (request : Request) (pad : Bool) (n : ℕ) (c : Contents) (found : Option Item) (decided : Change) → AreBelow n c
    → AreBelow (if makes_version (change_at request pad n found decided) then n + 1 else n)
    (act.with_change c request.key (change_at request pad n found decided))
below_changed request pad n c found decided h = after n c request.key (change_at request pad n found decided) (numbered request pad n found decided) h
