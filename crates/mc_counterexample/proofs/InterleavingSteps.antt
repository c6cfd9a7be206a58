-- The first stage of an interleaving from some places: which reply goes on with it, and what of the interleaving is left.
use Rattle.std.proofs.Common.{◌≡◌, ⊎_elim, ℕ, true, List, [], ◌∷◌, ◌++◌, refl, ap, sym, subst, ◌∙◌}
use Rattle.mc_protocol.specs.declared.sections.Sections.{Sections}
use Rattle.mc_protocol.specs.{Merge.IsMerge, Merge.left, Merge.right, Sections.section_of, declared.actor.Actor.Actor, declared.reply.Class.Class}
use Rattle.mc_protocol.specs.declared.actor.Actor.TheVariants as actor
use Rattle.mc_protocol.proofs.{FirstItems.head_is, FirstItems.rest_is, Merges.MergeBegins, Merges.merge_first}
use Rattle.mc_script.specs.declared.step.Template.{Template}
use Rattle.mc_code.specs.{Code.Code, Paths.Edge}
use Rattle.mc_verify.specs.Shown.{replies_along}
use Rattle.mc_counterexample.specs.Replays.{LeadsBetween, IsAnswered, moved, Ends, is_branch, MayFollow, GoesOn, LeadsToBothFrom, LeadsFrom}
use Rattle.mc_sound.specs.Interleavings.{Stage, staged}
use Rattle.mc_counterexample.proofs.Settling.{answered_once, answered_first, answered_then, ends_alone}

-- ---- one reply leads to one place

pub goes_once : (c : Code) (named : Actor) (places : Sections ℕ) (actor : Actor) (t u : Template) (class : Class) (others those : Sections ℕ)
    → GoesOn c named places actor t class others → GoesOn c named places actor u class those → (t ≡ u) × (others ≡ those)
goes_once c named places actor t u class others those x y =
    let same = answered_once c actor (section_of places actor) t u class x.place y.place x.answered y.answered in
    (same.0, x.others_are ∙ ap (moved places actor) same.1 ∙ sym y.others_are)

-- ---- the first stage

-- the interleaving begins with a reply of the class of this section, and goes on from the places to which that leads
pub record BothBegin (c : Code) (named : Actor) (places : Sections ℕ) (place_a place_b : ℕ) (actor : Actor) (class : Class) (interleaving : List Stage)
    (rest : List (Actor × Class)) : Type 0 where
  pub t : Template
  pub others : Sections ℕ
  pub more : List Stage
  pub goes : GoesOn c named places actor t class others
  pub leads : LeadsToBothFrom c others place_a place_b more
  pub interleaving_is : interleaving ≡ (actor, (t, class)) ∷ more
  pub rest_is : rest ≡ replies_along more

pub record InterleavingBegins (c : Code) (named : Actor) (places : Sections ℕ) (place : ℕ) (actor : Actor) (class : Class) (interleaving : List Stage)
    (rest : List (Actor × Class)) : Type 0 where
  pub t : Template
  pub others : Sections ℕ
  pub more : List Stage
  pub goes : GoesOn c named places actor t class others
  pub leads : LeadsFrom c others named place more
  pub interleaving_is : interleaving ≡ (actor, (t, class)) ∷ more
  pub rest_is : rest ≡ replies_along more

no_first : (first : Actor × Class) (rest : List (Actor × Class)) (interleaving : List Stage) → first ∷ rest ≡ replies_along interleaving → interleaving ≡ [] → ⊥
no_first first rest interleaving e is = let none : first ∷ rest ≡ [] = e ∙ ap replies_along is in absurd (cc)

-- the first reply and the others, where the interleaving's first stage is known
pub first_reply : (first : Actor × Class) (rest : List (Actor × Class)) (interleaving more : List Stage) (stage : Stage)
    → first ∷ rest ≡ replies_along interleaving
    → interleaving ≡ stage ∷ more → (first ≡ (stage.0, stage.1.1)) × (rest ≡ replies_along more)
first_reply first rest interleaving more stage e is =
    let same : first ∷ rest ≡ (stage.0, stage.1.1) ∷ replies_along more = e ∙ ap replies_along is in
    (head_is first (stage.0, stage.1.1) rest (replies_along more) same, rest_is first (stage.0, stage.1.1) rest (replies_along more) same)

pub both_begin : (c : Code) (named : Actor) → is_branch named ≡ true → (places : Sections ℕ) (place_a place_b : ℕ) (actor : Actor) (class : Class)
    (interleaving : List Stage) (rest : List (Actor × Class)) → LeadsToBothFrom c places place_a place_b interleaving
    → (actor, class) ∷ rest ≡ replies_along interleaving
    → BothBegin c named places place_a place_b actor class interleaving rest
both_begin c named branch places place_a place_b who cl interleaving rest both e = by_before both.before both.path_p both.interleaving_is
  where
    Answer : Type 0
    Answer = BothBegin c named places place_a place_b who cl interleaving rest

    moved_to : (first : Actor × Class) → (who, cl) ≡ first → BothBegin c named places place_a place_b first.0 first.1 interleaving rest → Answer
    moved_to first is begins = subst (λ (f : Actor × Class). BothBegin c named places place_a place_b f.0 f.1 interleaving rest) (sym is) begins

    by_a : (ends : Ends c places.p) (a : List Edge) (stage : Stage) (others zs : List Stage) → LeadsBetween c actor.A places.a a place_a
        → staged actor.A a ≡ stage ∷ others → IsMerge others (staged actor.B both.b) zs → interleaving ≡ stage ∷ zs → Answer
    by_a ends [] stage others zs path is m interleaving_is = absurd (cc)
    by_a ends (edge ∷ a) stage others zs path is m interleaving_is =
        let same = head_is (actor.A, edge) stage (staged actor.A a) others is in
        let after = rest_is (actor.A, edge) stage (staged actor.A a) others is in
        let whole = interleaving_is ∙ ap (λ stage. stage ∷ zs) (sym same) in
        let replies = first_reply (who, cl) rest interleaving zs (actor.A, edge) e whole in
        let first = answered_first c actor.A places.a place_a edge a path in
        moved_to (actor.A, edge.1) replies.0 (record {
          t = edge.0;
          others = moved places actor.A first.0;
          more = zs;
          goes = record { place = first.0; follows = (branch, ends); answered = first.1; others_are = refl };
          leads = record {
            before = [];
            a = a;
            b = both.b;
            merged = zs;
            end = ends.0;
            path_p = ends.1;
            halts = ends.2;
            path_a = first.2;
            path_b = both.path_b;
            merge = subst (λ xs. IsMerge xs (staged actor.B both.b) zs) (sym after) m;
            interleaving_is = refl;
          };
          interleaving_is = whole;
          rest_is = replies.1;
        })

    by_b : (ends : Ends c places.p) (b : List Edge) (stage : Stage) (others zs : List Stage) → LeadsBetween c actor.B places.b b place_b
        → staged actor.B b ≡ stage ∷ others → IsMerge (staged actor.A both.a) others zs → interleaving ≡ stage ∷ zs → Answer
    by_b ends [] stage others zs path is m interleaving_is = absurd (cc)
    by_b ends (edge ∷ b) stage others zs path is m interleaving_is =
        let same = head_is (actor.B, edge) stage (staged actor.B b) others is in
        let after = rest_is (actor.B, edge) stage (staged actor.B b) others is in
        let whole = interleaving_is ∙ ap (λ stage. stage ∷ zs) (sym same) in
        let replies = first_reply (who, cl) rest interleaving zs (actor.B, edge) e whole in
        let first = answered_first c actor.B places.b place_b edge b path in
        moved_to (actor.B, edge.1) replies.0 (record {
          t = edge.0;
          others = moved places actor.B first.0;
          more = zs;
          goes = record { place = first.0; follows = (branch, ends); answered = first.1; others_are = refl };
          leads = record {
            before = [];
            a = both.a;
            b = b;
            merged = zs;
            end = ends.0;
            path_p = ends.1;
            halts = ends.2;
            path_a = both.path_a;
            path_b = first.2;
            merge = subst (λ ys. IsMerge (staged actor.A both.a) ys zs) (sym after) m;
            interleaving_is = refl;
          };
          interleaving_is = whole;
          rest_is = replies.1;
        })

    by_merged : (ends : Ends c places.p) (merged : List Stage) → MergeBegins (staged actor.A both.a) (staged actor.B both.b) merged → interleaving ≡ merged
        → Answer
    by_merged ends [] begins is = absurd (no_first (who, cl) rest interleaving e is)
    by_merged ends (stage ∷ zs) begins is =
        ⊎_elim (λ (others, of_a, m). by_a ends both.a stage others zs both.path_a of_a m is)
        (λ (others, of_b, m). by_b ends both.b stage others zs both.path_b of_b m is) begins

    by_before : (before : List Edge) → LeadsBetween c actor.P places.p before both.end → interleaving ≡ staged actor.P before ++ both.merged → Answer
    by_before [] path is = by_merged (both.end, path, both.halts) both.merged (merge_first both.merge) is
    by_before (edge ∷ before) path is =
        let more = staged actor.P before ++ both.merged in
        let replies = first_reply (who, cl) rest interleaving more (actor.P, edge) e is in
        let first = answered_first c actor.P places.p both.end edge before path in
        moved_to (actor.P, edge.1) replies.0 (record {
          t = edge.0;
          others = moved places actor.P first.0;
          more = more;
          goes = record { place = first.0; follows = tt; answered = first.1; others_are = refl };
          leads = record {
            before = before;
            a = both.a;
            b = both.b;
            merged = both.merged;
            end = both.end;
            path_p = first.2;
            halts = both.halts;
            path_a = both.path_a;
            path_b = both.path_b;
            merge = both.merge;
            interleaving_is = refl;
          };
          interleaving_is = is;
          rest_is = replies.1;
        })

p_begins : (c : Code) (places : Sections ℕ) (place : ℕ) (who : Actor) (cl : Class) (interleaving : List Stage) (rest : List (Actor × Class)) (edges : List Edge)
    → LeadsBetween c actor.P places.p edges place → interleaving ≡ staged actor.P edges → (who, cl) ∷ rest ≡ replies_along interleaving
    → InterleavingBegins c actor.P places place who cl interleaving rest
p_begins c places place who cl interleaving rest [] path is e = absurd (no_first (who, cl) rest interleaving e is)
p_begins c places place who cl interleaving rest (edge ∷ edges) path is e =
    let replies = first_reply (who, cl) rest interleaving (staged actor.P edges) (actor.P, edge) e is in
    let first = answered_first c actor.P places.p place edge edges path in
    subst (λ (f : Actor × Class). InterleavingBegins c actor.P places place f.0 f.1 interleaving rest) (sym replies.0) (record {
      t = edge.0;
      others = moved places actor.P first.0;
      more = staged actor.P edges;
      goes = record { place = first.0; follows = tt; answered = first.1; others_are = refl };
      leads = (edges, first.2, refl);
      interleaving_is = is;
      rest_is = replies.1;
    })

pub interleaving_begins : (c : Code) (named : Actor) (places : Sections ℕ) (place : ℕ) (actor : Actor) (class : Class) (interleaving : List Stage)
    (rest : List (Actor × Class)) → LeadsFrom c places named place interleaving → (actor, class) ∷ rest ≡ replies_along interleaving
    → InterleavingBegins c named places place actor class interleaving rest
interleaving_begins c actor.P places place who cl interleaving rest (edges, path, is) e = p_begins c places place who cl interleaving rest edges path is e
interleaving_begins c actor.A places place who cl interleaving rest (other, both) e =
    let begins = both_begin c actor.A refl places place other who cl interleaving rest both e in
    record {
      t = begins.t;
      others = begins.others;
      more = begins.more;
      goes = begins.goes;
      leads = (other, begins.leads);
      interleaving_is = begins.interleaving_is;
      rest_is = begins.rest_is;
    }
interleaving_begins c actor.B places place who cl interleaving rest (other, both) e =
    let begins = both_begin c actor.B refl places other place who cl interleaving rest both e in
    record {
      t = begins.t;
      others = begins.others;
      more = begins.more;
      goes = begins.goes;
      leads = (other, begins.leads);
      interleaving_is = begins.interleaving_is;
      rest_is = begins.rest_is;
    }

-- ---- a stage before an interleaving

both_follow : (c : Code) (named : Actor) (places : Sections ℕ) (place_a place_b : ℕ) (who : Actor) (t : Template) (class : Class) (to : ℕ) (more : List Stage)
    → MayFollow c named places.p who → IsAnswered c who (section_of places who) t class to
    → LeadsToBothFrom c (moved places who to) place_a place_b more
    → LeadsToBothFrom c places place_a place_b ((who, (t, class)) ∷ more)
both_follow c named places place_a place_b actor.P t class to more follows answered both = record {
  before = (t, class) ∷ both.before;
  a = both.a;
  b = both.b;
  merged = both.merged;
  end = both.end;
  path_p = answered_then c actor.P places.p to both.end t class both.before answered both.path_p;
  halts = both.halts;
  path_a = both.path_a;
  path_b = both.path_b;
  merge = both.merge;
  interleaving_is = ap (λ interleaving. (actor.P, (t, class)) ∷ interleaving) both.interleaving_is;
}
both_follow c named places place_a place_b actor.A t class to more follows answered both =
    let alone = ends_alone c places.p both.end both.before follows.1 both.path_p in
    record {
      before = [];
      a = (t, class) ∷ both.a;
      b = both.b;
      merged = (actor.A, (t, class)) ∷ both.merged;
      end = follows.1.0;
      path_p = follows.1.1;
      halts = follows.1.2;
      path_a = answered_then c actor.A places.a to place_a t class both.a answered both.path_a;
      path_b = both.path_b;
      merge = left both.merge;
      interleaving_is = ap (λ interleaving. (actor.A, (t, class)) ∷ interleaving) (both.interleaving_is
          ∙ ap (λ before. staged actor.P before ++ both.merged) alone);
    }
both_follow c named places place_a place_b actor.B t class to more follows answered both =
    let alone = ends_alone c places.p both.end both.before follows.1 both.path_p in
    record {
      before = [];
      a = both.a;
      b = (t, class) ∷ both.b;
      merged = (actor.B, (t, class)) ∷ both.merged;
      end = follows.1.0;
      path_p = follows.1.1;
      halts = follows.1.2;
      path_a = both.path_a;
      path_b = answered_then c actor.B places.b to place_b t class both.b answered both.path_b;
      merge = right both.merge;
      interleaving_is = ap (λ interleaving. (actor.B, (t, class)) ∷ interleaving) (both.interleaving_is
          ∙ ap (λ before. staged actor.P before ++ both.merged) alone);
    }

p_follows : (c : Code) (places : Sections ℕ) (place : ℕ) (who : Actor) (t : Template) (class : Class) (to : ℕ) (more : List Stage)
    → MayFollow c actor.P places.p who → IsAnswered c who (section_of places who) t class to
    → LeadsFrom c (moved places who to) actor.P place more → LeadsFrom c places actor.P place ((who, (t, class)) ∷ more)
p_follows c places place actor.P t class to more follows answered (edges, path, is) =
    ((t, class) ∷ edges, answered_then c actor.P places.p to place t class edges answered path, ap (λ interleaving. (actor.P, (t, class)) ∷ interleaving) is)
p_follows c places place actor.A t class to more follows answered leads = let no = follows.0 in absurd (cc)
p_follows c places place actor.B t class to more follows answered leads = let no = follows.0 in absurd (cc)

pub interleaving_follows : (c : Code) (named : Actor) (places : Sections ℕ) (place : ℕ) (actor : Actor) (t : Template) (class : Class) (others : Sections ℕ)
    (more : List Stage) → GoesOn c named places actor t class others → LeadsFrom c others named place more
    → LeadsFrom c places named place ((actor, (t, class)) ∷ more)
interleaving_follows c actor.P places place who t class others more goes leads =
    p_follows c places place who t class goes.place more goes.follows goes.answered
    (subst (λ places. LeadsFrom c places actor.P place more) goes.others_are leads)
interleaving_follows c actor.A places place who t class others more goes (other, both) = (
  other,
  both_follow c actor.A places place other who t class goes.place more goes.follows goes.answered
      (subst (λ places. LeadsToBothFrom c places place other more) goes.others_are both),
)
interleaving_follows c actor.B places place who t class others more goes (other, both) = (
  other,
  both_follow c actor.B places other place who t class goes.place more goes.follows goes.answered
      (subst (λ places. LeadsToBothFrom c places other place more) goes.others_are both),
)
