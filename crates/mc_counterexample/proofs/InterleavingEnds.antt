-- Interleavings of which nothing is left, and interleavings from the first places.
use Rattle.std.proofs.Common.{◌≡◌, ◌↔◌, ℕ, ◌<◌, Bool, true, List, [], ◌∷◌, ◌++◌, length, refl, sym, subst}
use Rattle.mc_protocol.specs.{Merge.IsMerge, Merge.none, Sections.section_of, declared.actor.Actor.Actor, declared.sections.Sections.Sections}
use Rattle.mc_protocol.specs.declared.actor.Actor.TheVariants as actor
use Rattle.mc_protocol.proofs.Merges.{merge_first}
use Rattle.mc_code.specs.{Code.Code, Code.instructions_in, Paths.Edge, Paths.stays}
use Rattle.mc_counterexample.specs.Replays.{LeadsBetween, RestsAt, AreInside, first_places, moved, Ends, is_branch, LeadsToBothFrom, LeadsFrom}
use Rattle.mc_sound.specs.{Faults.IsStructured, Interleavings.Stage, Interleavings.staged, Interleavings.LeadsToBoth, Interleavings.LeadsTo}
use Rattle.mc_verify.specs.Shown.{replies_along}
use Rattle.mc_counterexample.proofs.Settling.{rests_once}
use Rattle.mc_sound.proofs.Structured.{structured_some}

-- ---- no stage

pub no_interleaving : (interleaving : List Stage) → [] ≡ replies_along interleaving → interleaving ≡ []
no_interleaving [] e = refl
no_interleaving (stage ∷ interleaving) e = absurd (cc)

-- where nothing is left of the interleaving, the section comes to the place without a reply; and where it is a branch, P to its end
abbrev pub IsThere : Code → Actor → Sections ℕ → ℕ → Type 0
IsThere c named places place = LeadsBetween c named (section_of places named) [] place × (is_branch named ≡ true → Ends c places.p)

no_stages : (edges : List Edge) (who : Actor) → [] ≡ staged who edges → edges ≡ []
no_stages [] who e = refl
no_stages (edge ∷ edges) who e = absurd (cc)

both_none : (before : List Edge) (merged : List Stage) → [] ≡ staged actor.P before ++ merged → (before ≡ []) × (merged ≡ [])
both_none [] [] e = (refl, refl)
both_none [] (stage ∷ merged) e = absurd (cc)
both_none (edge ∷ before) merged e = absurd (cc)

merged_none : (a b : List Edge) (merged : List Stage) → IsMerge (staged actor.A a) (staged actor.B b) merged → merged ≡ [] → (a ≡ []) × (b ≡ [])
merged_none a b merged m is =
    let begins = merge_first (subst (IsMerge (staged actor.A a) (staged actor.B b)) is m) in
    (no_stages a actor.A (sym begins.0), no_stages b actor.B (sym begins.1))

-- nothing is left of either path
pub record BothAreThere (c : Code) (places : Sections ℕ) (place_a place_b : ℕ) : Type 0 where
  pub ends : Ends c places.p
  pub there_a : LeadsBetween c actor.A places.a [] place_a
  pub there_b : LeadsBetween c actor.B places.b [] place_b

both_are_there : (c : Code) (places : Sections ℕ) (place_a place_b : ℕ) → LeadsToBothFrom c places place_a place_b [] → BothAreThere c places place_a place_b
both_are_there c places place_a place_b both =
    let parts = both_none both.before both.merged both.interleaving_is in
    let none = merged_none both.a both.b both.merged both.merge parts.1 in
    record {
      ends = (both.end, subst (λ edges. LeadsBetween c actor.P places.p edges both.end) parts.0 both.path_p, both.halts);
      there_a = subst (λ edges. LeadsBetween c actor.A places.a edges place_a) none.0 both.path_a;
      there_b = subst (λ edges. LeadsBetween c actor.B places.b edges place_b) none.1 both.path_b;
    }

pub interleaving_is_done : (c : Code) (named : Actor) (places : Sections ℕ) (place : ℕ) → LeadsFrom c places named place [] → IsThere c named places place
interleaving_is_done c actor.P places place (edges, path, is) =
    (subst (λ edges. LeadsBetween c actor.P places.p edges place) (no_stages edges actor.P is) path, λ no. absurd (cc))
interleaving_is_done c actor.A places place (other, both) = let there = both_are_there c places place other both in (there.there_a, λ branch. there.ends)
interleaving_is_done c actor.B places place (other, both) = let there = both_are_there c places other place both in (there.there_b, λ branch. there.ends)

both_from_there : (c : Code) (places : Sections ℕ) (place_a place_b : ℕ) → Ends c places.p → LeadsBetween c actor.A places.a [] place_a
    → LeadsBetween c actor.B places.b [] place_b → LeadsToBothFrom c places place_a place_b []
both_from_there c places place_a place_b ends there_a there_b = record {
  before = [];
  a = [];
  b = [];
  merged = [];
  end = ends.0;
  path_p = ends.1;
  halts = ends.2;
  path_a = there_a;
  path_b = there_b;
  merge = none;
  interleaving_is = refl;
}

pub done_from_there : (c : Code) (named : Actor) (places : Sections ℕ) (place : ℕ) → IsThere c named places place → LeadsFrom c places named place []
done_from_there c actor.P places place there = ([], there.0, refl)
done_from_there c actor.A places place there = (places.b, both_from_there c places place places.b (there.1 refl) there.0 stays)
done_from_there c actor.B places place there = (places.a, both_from_there c places places.a place (there.1 refl) stays there.0)

-- ---- where the sections stand

pub inside_moved : (c : Code) (places : Sections ℕ) (who : Actor) (place : ℕ) → AreInside c places → place < length (instructions_in c who)
    → AreInside c (moved places who place)
inside_moved c places actor.P place inside there actor.P = there
inside_moved c places actor.P place inside there actor.A = inside actor.A
inside_moved c places actor.P place inside there actor.B = inside actor.B
inside_moved c places actor.A place inside there actor.P = inside actor.P
inside_moved c places actor.A place inside there actor.A = there
inside_moved c places actor.A place inside there actor.B = inside actor.B
inside_moved c places actor.B place inside there actor.P = inside actor.P
inside_moved c places actor.B place inside there actor.A = inside actor.A
inside_moved c places actor.B place inside there actor.B = there

pub first_inside : (c : Code) → ((actor : Actor) → IsStructured c actor) → AreInside c first_places
first_inside c structured actor.P = structured_some c actor.P (structured actor.P)
first_inside c structured actor.A = structured_some c actor.A (structured actor.A)
first_inside c structured actor.B = structured_some c actor.B (structured actor.B)

-- the section rests at the place, if the answer says that P is done where it must be
pub rests_there : (c : Code) (named : Actor) (places : Sections ℕ) (place rest : ℕ) (done : Bool) → LeadsBetween c named (section_of places named) [] rest
    → RestsAt c named rest → rest ≡ place → (done ≡ true) ↔ (is_branch named ≡ true → Ends c places.p)
    → (done ≡ true) ↔ (RestsAt c named place × LeadsFrom c places named place [])
rests_there c named places place rest done slid rests here tells = (
  λ e. (
    subst (RestsAt c named) here rests,
    done_from_there c named places place (subst (LeadsBetween c named (section_of places named) []) here slid, tells.0 e),
  ),
  λ (there, leads). tells.1 (interleaving_is_done c named places place leads).1,
)

pub rests_elsewhere : (c : Code) (named : Actor) (places : Sections ℕ) (place rest : ℕ) → LeadsBetween c named (section_of places named) [] rest
    → RestsAt c named rest → (rest ≡ place → ⊥) → RestsAt c named place → LeadsFrom c places named place [] → ⊥
rests_elsewhere c named places place rest slid rests apart there leads =
    apart (rests_once c named (section_of places named) rest place slid (interleaving_is_done c named places place leads).0 rests there)

-- ---- from the first places

both_from_first : (c : Code) (place_a place_b : ℕ) (interleaving : List Stage) → LeadsToBoth c place_a place_b interleaving
    → LeadsToBothFrom c first_places place_a place_b interleaving
both_from_first c place_a place_b interleaving both = record {
  before = both.before;
  a = both.a;
  b = both.b;
  merged = both.merged;
  end = both.complete.0;
  path_p = both.complete.1;
  halts = both.complete.2;
  path_a = both.path_a;
  path_b = both.path_b;
  merge = both.merge;
  interleaving_is = both.interleaving_is;
}

first_from_both : (c : Code) (place_a place_b : ℕ) (interleaving : List Stage) → LeadsToBothFrom c first_places place_a place_b interleaving
    → LeadsToBoth c place_a place_b interleaving
first_from_both c place_a place_b interleaving both = record {
  before = both.before;
  a = both.a;
  b = both.b;
  merged = both.merged;
  complete = (both.end, both.path_p, both.halts);
  path_a = both.path_a;
  path_b = both.path_b;
  merge = both.merge;
  interleaving_is = both.interleaving_is;
}

pub leads_from_first : (c : Code) (actor : Actor) (place : ℕ) (interleaving : List Stage) → LeadsTo c actor place interleaving
    → LeadsFrom c first_places actor place interleaving
leads_from_first c actor.P place interleaving leads = leads
leads_from_first c actor.A place interleaving (other, both) = (other, both_from_first c place other interleaving both)
leads_from_first c actor.B place interleaving (other, both) = (other, both_from_first c other place interleaving both)

pub first_from_leads : (c : Code) (actor : Actor) (place : ℕ) (interleaving : List Stage) → LeadsFrom c first_places actor place interleaving
    → LeadsTo c actor place interleaving
first_from_leads c actor.P place interleaving leads = leads
first_from_leads c actor.A place interleaving (other, both) = (other, first_from_both c place other interleaving both)
first_from_leads c actor.B place interleaving (other, both) = (other, first_from_both c other place interleaving both)
