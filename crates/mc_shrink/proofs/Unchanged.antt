-- A request whose reply says that it changed nothing may be left out of what acts.
use Rattle.std.proofs.Common.{◌≡◌, inl, inr, ℕ, Bool, true, false, cond, Option, Some, None, List, [], ◌∷◌, ◌++◌, map, filter}
use Rattle.std.proofs.Common.{refl, ap, subst, ◌∙◌}
use Rattle.std.proofs.lemmas.Bool.{both_ways}
use Rattle.std.specs.FinMap as finite_map
use Rattle.mc_protocol.specs.{declared.reply.Reply.Reply, Legal.class_of}
use Rattle.mc_protocol.specs.declared.reply.Reply.TheVariants as reply
use Rattle.mc_model.specs.Act.{Keeps, Effect, effect_of, with_change}
use Rattle.mc_model.specs.{Types.Request, declared.cache.Item.Item, Contents.Contents, ActLaws.reports_version}
use Rattle.mc_model.proofs.Effects.{Does, answering, removing, putting, does}
use Rattle.mc_claims.specs.{Explains.IsReceived, Replay.Step, Replay.reply_to, Replay.after, Replay.replay, Replay.version_by, Replay.versions}
use Rattle.mc_timeline.specs.{Members.IsIn, Explanations.Effected, Explanations.step_of, Explanations.received, Explanations.GivesEach}
use Rattle.mc_shrink.specs.Parts.{says_unchanged, is_unchanging}

-- ---- one step

-- no reply reports a version and says that nothing changed
not_both : (r : Reply) → reports_version (class_of r) ≡ true → says_unchanged r ≡ false
not_both reply.Stored e = refl
not_both reply.NotStored e = absurd (cc)
not_both reply.Exists e = absurd (cc)
not_both reply.NotFound e = absurd (cc)
not_both (reply.Hit flags body cas) e = absurd (cc)
not_both reply.Miss e = absurd (cc)
not_both reply.Deleted e = refl
not_both reply.Touched e = absurd (cc)
not_both (reply.Number n) e = refl
not_both reply.NotNumber e = absurd (cc)

keeps_by : (request : Request) (number : ℕ) (found : Option Item) (effect : Effect) → Does request number found effect
    → says_unchanged effect.reply ≡ true → effect.change ≡ Keeps
keeps_by request number found effect (answering r untold fit) says = refl
keeps_by request number found effect (removing fit) says = absurd (cc)
keeps_by request number found effect (putting item r numbered told fit number_is new) says =
    absurd (both_ways (says_unchanged r) (not_both r told) says)

-- the change of a step whose reply says that there was none
keeps : (c : Contents) (step : Step) → says_unchanged (reply_to c step) ≡ true
    → (effect_of c step.request step.choice step.number).change ≡ Keeps
keeps c step says =
    let found = finite_map.get c step.request.key in
    keeps_by step.request step.number found (effect_of c step.request step.choice step.number)
    (does step.request.verb step.request step.choice step.number found refl) says

-- the reply is the one that was received, which says so
says : (got : Option Reply) (r : Reply) → IsReceived got r → is_unchanging got ≡ true → says_unchanged r ≡ true
says None r is e = absurd (cc)
says (Some answer) r is e = ap says_unchanged is ∙ e

same_after : (c : Contents) (step : Step) → says_unchanged (reply_to c step) ≡ true → after c step ≡ c
same_after c step e = ap (with_change c step.request.key) (keeps c step e)

no_version : (c : Contents) (step : Step) → says_unchanged (reply_to c step) ≡ true
    → version_by step.request.key (effect_of c step.request step.choice step.number).change ≡ []
no_version c step e = ap (version_by step.request.key) (keeps c step e)

-- ---- one step after another

-- those that don't stay changed nothing
abbrev pub Unchanging : (Effected → Bool) → List Effected → Type 0
Unchanging stays effected =
    (a : Effected) → IsIn a effected → stays a ≡ false → is_unchanging (received a.operation.answer) ≡ true

pub replies_stay : (stays : Effected → Bool) (c : Contents) (effected : List Effected) → Unchanging stays effected
    → GivesEach effected (replay c (map step_of effected))
    → GivesEach (filter stays effected) (replay c (map step_of (filter stays effected)))
replies_stay stays c [] may g = tt
replies_stay stays c (a ∷ effected) may g =
    by (stays a) refl (replies_stay stays (after c (step_of a)) effected (λ b h. may b (inr h)) g.1)
  where
    by : (b : Bool) → stays a ≡ b
        → GivesEach (filter stays effected) (replay (after c (step_of a)) (map step_of (filter stays effected)))
        → GivesEach (cond b (a ∷ filter stays effected) (filter stays effected))
        (replay c (map step_of (cond b (a ∷ filter stays effected) (filter stays effected))))
    by true e rest = (g.0, rest)
    by false e rest =
        let unchanged = says (received a.operation.answer) (reply_to c (step_of a)) g.0 (may a (inl refl) e) in
        subst (λ d. GivesEach (filter stays effected) (replay d (map step_of (filter stays effected)))) (same_after c (step_of a) unchanged) rest

pub versions_stay : (stays : Effected → Bool) (c : Contents) (effected : List Effected) → Unchanging stays effected
    → GivesEach effected (replay c (map step_of effected))
    → versions c (map step_of effected) ≡ versions c (map step_of (filter stays effected))
versions_stay stays c [] may g = refl
versions_stay stays c (a ∷ effected) may g =
    by (stays a) refl (versions_stay stays (after c (step_of a)) effected (λ b h. may b (inr h)) g.1)
  where
    made : List (List ℕ × ℕ)
    made = version_by a.operation.request.key (effect_of c a.operation.request a.choice a.number).change

    by : (b : Bool) → stays a ≡ b
        → versions (after c (step_of a)) (map step_of effected) ≡ versions (after c (step_of a)) (map step_of (filter stays effected))
        → made ++ versions (after c (step_of a)) (map step_of effected)
        ≡ versions c (map step_of (cond b (a ∷ filter stays effected) (filter stays effected)))
    by true e rest = ap (λ l. made ++ l) rest
    by false e rest =
        let unchanged = says (received a.operation.answer) (reply_to c (step_of a)) g.0 (may a (inl refl) e) in
        ap (λ l. l ++ versions (after c (step_of a)) (map step_of effected)) (no_version c (step_of a) unchanged)
        ∙ rest
        ∙ ap (λ d. versions d (map step_of (filter stays effected))) (same_after c (step_of a) unchanged)
