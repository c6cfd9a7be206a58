-- Agreement, by what a world that its notes lead to holds.
use Rattle.std.specs.Prelude.{◌≡◌, ◌↔◌, true, Bool, Result, Ok, Err, IfOk, List}
use Rattle.std.proofs.Common.{refl, sym, ap, subst, ◌∙◌}
use Rattle.mc_protocol.specs.{Sections.section_of, declared.actor.Actor.Actor, declared.sections.Sections.Sections}
use Rattle.mc_protocol.specs.declared.actor.Actor.TheVariants as actor
use Rattle.mc_code.specs.Code.{Code}
use Rattle.mc_model.specs.declared.sent.Sent.{Sent}
use Rattle.mc_core.specs.Worlds.{World, log_of, IsEnding}
use Rattle.mc_core.specs.{Held.Held, Held.IsHeldBy, Histories.sections_of, Histories.sent_in, declared.ending.Ending.Ending}
use Rattle.mc_core.specs.declared.ending.Ending.TheVariants as ending
use Rattle.mc_run.specs.Agreement.{LaneRecords, Agree, AgreesIn}
use Rattle.mc_recorded.specs.Recorded.{IsRecordedBy}

-- ---- one section

-- a section that goes on stands in no other way
goes_on_alone : (c : Code) (w : World) (who : Actor) (e : Ending) → IsEnding c w who e → IsEnding c w who ending.Running → e ≡ ending.Running
goes_on_alone c w who ending.NotBegun x y = absurd (x y.0)
goes_on_alone c w who ending.Running x y = refl
goes_on_alone c w who ending.Done x y = absurd (y.2 x.1)
goes_on_alone c w who (ending.Failed fault) x y = let e = sym x.1 ∙ y.1 in absurd (cc)

requests_of : (c : Code) (w : World) (who : Actor) → section_of (sections_of c w) who ≡ sent_in c (log_of w who)
requests_of c w actor.P = refl
requests_of c w actor.A = refl
requests_of c w actor.B = refl

abbrev Recorded : Held → LaneRecords → Actor → List Sent → Type 0
Recorded h lanes who requests = IsRecordedBy requests (log_of h.world who).fault (section_of lanes who)

-- ---- all of them

held_agreed : (c : Code) (h : Held) (s : Sections (List Sent)) (lanes : LaneRecords) → IsHeldBy c h → s ≡ sections_of c h.world
    → ((who : Actor) → AgreesIn h s lanes who) → Agree c h.world lanes
held_agreed c h s lanes held is all = record {
  fold = held.fold;
  over = λ who running. (all who).0 (goes_on_alone c h.world who (section_of h.endings who) (held.endings who) running);
  recorded =
      λ who. subst (Recorded h lanes who) (ap (λ (x : Sections (List Sent)). section_of x who) is ∙ requests_of c h.world who) (all who).1;
}

pub agreed : (c : Code) (w : World) (h : Held) (s : Sections (List Sent)) (lanes : LaneRecords) → h.world ≡ w → IsHeldBy c h
    → s ≡ sections_of c h.world → ((who : Actor) → AgreesIn h s lanes who) → Agree c w lanes
agreed c w h s lanes same held is all = subst (λ (x : World). Agree c x lanes) same (held_agreed c h s lanes held is all)

pub in_sections : (c : Code) (w : World) (h : Held) (s : Sections (List Sent)) (lanes : LaneRecords) → h.world ≡ w → IsHeldBy c h
    → s ≡ sections_of c h.world → Agree c w lanes → (who : Actor) → AgreesIn h s lanes who
in_sections c w h s lanes same held is agree who =
    let there : Agree c h.world lanes = subst (λ (x : World). Agree c x lanes) (sym same) agree in (
      λ e. there.over who (subst (IsEnding c h.world who) e (held.endings who)),
      subst (Recorded h lanes who) (sym (ap (λ (x : Sections (List Sent)). section_of x who) is ∙ requests_of c h.world who))
          (there.recorded who),
    )

-- ---- answers

every : (F : Actor → Type 0) → F actor.P → F actor.A → F actor.B → (who : Actor) → F who
every F p a b actor.P = p
every F p a b actor.A = a
every F p a b actor.B = b

-- what the last section answers is the answer, where the others agree
pub last_answers : {E : Type 0} (F : Actor → Type 0) (r : Result Bool E) → F actor.P → F actor.A
    → IfOk r (λ answer. (answer ≡ true) ↔ F actor.B) → IfOk r (λ answer. (answer ≡ true) ↔ ((who : Actor) → F who))
last_answers F (Ok answer) p a h = (λ e. every F p a (h.0 e), λ all. h.1 (all actor.B))
last_answers F (Err e) p a h = tt
