-- What of a run that shows a fault of flags is left after each reply.
use Rattle.std.proofs.Common.{◌≡◌, ◌↔◌, ℕ, ◌<◌, Bool, true, false, not, Some, List, [], ◌∷◌, slice_get, refl, ap, sym, subst, ◌∙◌}
use Rattle.mc_protocol.specs.{declared.actor.Actor.Actor, declared.reply.Class.Class}
use Rattle.mc_script.specs.{declared.step.Template.Template, declared.limits.TheConstants.FLAGS_LIMIT}
use Rattle.mc_code.specs.{Calls.SendsAt, Code.Code, Code.IsCode, Code.instructions_in}
use Rattle.mc_code.specs.declared.instr.Instr.TheVariants as instr
use Rattle.mc_sound.specs.{Flags.flag_after, Flags.flag_along, Interleavings.calls_along}
use Rattle.mc_flow.specs.FlagTables.{may_be, MayBecome, MayLack}
use Rattle.mc_counterexample.specs.{Replays.RestsAt, Replays.first_places, Replays.GoesOn, Replays.LeadsFrom, FlagReplays.ShowsLack, FlagReplays.LacksFrom}
use Rattle.mc_counterexample.specs.{declared.flag_replay.FlagReplay.FlagReplay}
use Rattle.mc_verify.proofs.FlagFaults.{needed_below}
use Rattle.mc_counterexample.proofs.{Settling.sends_rest_at, Settling.sends_once_at, InterleavingSteps.goes_once, InterleavingSteps.interleaving_begins}
use Rattle.mc_counterexample.proofs.{InterleavingSteps.interleaving_follows, InterleavingEnds.no_interleaving, InterleavingEnds.leads_from_first}
use Rattle.mc_counterexample.proofs.{InterleavingEnds.first_from_leads}

-- ---- one more reply

-- the replay goes on to the next one by a reply of the class to the template
pub record FlagsGoOn (c : Code) (named : Actor) (replay : FlagReplay) (actor : Actor) (t : Template) (class : Class) (next : FlagReplay) : Type 0 where
  pub goes : GoesOn c named replay.places actor t class next.places
  pub flags : (flag : ℕ) (value : Bool) → (may_be flag value next.flags ≡ true) ↔ MayBecome flag t replay.flags value

lacks_next : (c : Code) (value : Bool) (named : Actor) (place : ℕ) (replay next : FlagReplay) (actor : Actor) (t : Template) (class : Class)
    (rest : List (Actor × Class)) → FlagsGoOn c named replay actor t class next → LacksFrom c value named place replay ((actor, class) ∷ rest)
    → LacksFrom c value named place next rest
lacks_next c value named place replay next who t class rest on lacks =
    let begins = interleaving_begins c named replay.places place who class lacks.interleaving rest lacks.leads lacks.shown_is in
    let same = goes_once c named replay.places who begins.t t class begins.others next.places begins.goes on.goes in
    record {
      flag = lacks.flag;
      before = flag_after lacks.flag t lacks.before;
      t = lacks.t;
      interleaving = begins.more;
      shown_is = begins.rest_is;
      leads = subst (λ places. LeadsFrom c places named place begins.more) same.1 begins.leads;
      sends = lacks.sends;
      begins = (on.flags lacks.flag (flag_after lacks.flag t lacks.before)).1 (lacks.before, lacks.begins, refl);
      needed = lacks.needed;
      lacking =
          ap (λ t. flag_along lacks.flag (calls_along begins.more) (flag_after lacks.flag t lacks.before)) (sym same.0)
          ∙ ap (λ interleaving. flag_along lacks.flag (calls_along interleaving) lacks.before) (sym begins.interleaving_is) ∙ lacks.lacking;
    }

lacks_before : (c : Code) (value : Bool) (named : Actor) (place : ℕ) (replay next : FlagReplay) (actor : Actor) (t : Template) (class : Class)
    (rest : List (Actor × Class)) → FlagsGoOn c named replay actor t class next → LacksFrom c value named place next rest
    → LacksFrom c value named place replay ((actor, class) ∷ rest)
lacks_before c value named place replay next who t class rest on lacks =
    let becomes = (on.flags lacks.flag lacks.before).0 lacks.begins in
    record {
      flag = lacks.flag;
      before = becomes.0;
      t = lacks.t;
      interleaving = (who, (t, class)) ∷ lacks.interleaving;
      shown_is = ap (λ shown. (who, class) ∷ shown) lacks.shown_is;
      leads = interleaving_follows c named replay.places place who t class next.places lacks.interleaving on.goes lacks.leads;
      sends = lacks.sends;
      begins = becomes.1;
      needed = lacks.needed;
      lacking = ap (flag_along lacks.flag (calls_along lacks.interleaving)) becomes.2 ∙ lacks.lacking;
    }

pub lacks_after : (c : Code) (named : Actor) (replay next : FlagReplay) (actor : Actor) (t : Template) (class : Class)
    → FlagsGoOn c named replay actor t class next → (value : Bool) (place : ℕ) (rest : List (Actor × Class))
    → LacksFrom c value named place replay ((actor, class) ∷ rest) ↔ LacksFrom c value named place next rest
lacks_after c named replay next who t class on value place rest =
    (lacks_next c value named place replay next who t class rest on, lacks_before c value named place replay next who t class rest on)

-- where no run goes on with the reply, none that lacks a flag does
pub lacks_none : (c : Code) (named : Actor) (replay : FlagReplay) (actor : Actor) (class : Class)
    → ((t : Template) → (others : _) → GoesOn c named replay.places actor t class others → ⊥)
    → (value : Bool) (place : ℕ) (rest : List (Actor × Class)) → LacksFrom c value named place replay ((actor, class) ∷ rest) → ⊥
lacks_none c named replay who class never value place rest lacks =
    let begins = interleaving_begins c named replay.places place who class lacks.interleaving rest lacks.leads lacks.shown_is in
    never begins.t begins.others begins.goes

-- ---- at the start

pub lack_from_first : (c : Code) (value : Bool) (actor : Actor) (place : ℕ) (first : FlagReplay) → IsCode c → first.places ≡ first_places
    → ((flag : ℕ) (value : Bool) → (may_be flag value first.flags ≡ true) ↔ ((value ≡ false) × (flag < FLAGS_LIMIT)))
    → (shown : List (Actor × Class)) → ShowsLack c value actor place shown ↔ LacksFrom c value actor place first shown
lack_from_first c value who place first is places clear shown = (forth, back)
  where
    forth : ShowsLack c value who place shown → LacksFrom c value who place first shown
    forth (interleaving, shown_is, lacks) =
        record {
          flag = lacks.flag;
          before = false;
          t = lacks.t;
          interleaving = interleaving;
          shown_is = shown_is;
          leads = subst (λ places. LeadsFrom c places who place interleaving) (sym places) (leads_from_first c who place interleaving lacks.leads);
          sends = lacks.sends;
          begins = (clear lacks.flag false).1 (refl, needed_below c is lacks.sends.0 lacks.t lacks.sends.3 lacks.flag value lacks.needed);
          needed = lacks.needed;
          lacking = lacks.lacking;
        }

    back : LacksFrom c value who place first shown → ShowsLack c value who place shown
    back lacks =
        let begun = (clear lacks.flag lacks.before).0 lacks.begins in (
          lacks.interleaving,
          lacks.shown_is,
          record {
            flag = lacks.flag;
            t = lacks.t;
            sends = lacks.sends;
            leads = first_from_leads c who place lacks.interleaving (subst (λ places. LeadsFrom c places who place lacks.interleaving) places lacks.leads);
            needed = lacks.needed;
            lacking = ap (flag_along lacks.flag (calls_along lacks.interleaving)) (sym begun.0) ∙ lacks.lacking;
          },
        )

-- ---- at the end

-- the section rests at a send that may lack a flag
pub record IsLacking (c : Code) (value : Bool) (named : Actor) (place : ℕ) (replay : FlagReplay) : Type 0 where
  pub t : Template
  pub rests : RestsAt c named place
  pub leads : LeadsFrom c replay.places named place []
  pub sends : SendsAt c named place t
  pub may : MayLack t value replay.flags

pub lacking_there : (c : Code) (value : Bool) (named : Actor) (place : ℕ) (replay : FlagReplay) → LacksFrom c value named place replay []
    → IsLacking c value named place replay
lacking_there c value named place replay lacks =
    let none = no_interleaving lacks.interleaving lacks.shown_is in
    let before : lacks.before ≡ not value = ap (λ interleaving. flag_along lacks.flag (calls_along interleaving) lacks.before) (sym none) ∙ lacks.lacking in
    record {
      t = lacks.t;
      rests = sends_rest_at c named place lacks.t lacks.sends;
      leads = subst (LeadsFrom c replay.places named place) none lacks.leads;
      sends = lacks.sends;
      may = (lacks.flag, lacks.needed, subst (λ before. may_be lacks.flag before replay.flags ≡ true) before lacks.begins);
    }

pub there_lacking : (c : Code) (value : Bool) (named : Actor) (place n : ℕ) (next : List ℕ) (t : Template) (replay : FlagReplay) (found : Bool)
    → LeadsFrom c replay.places named place [] → slice_get (instructions_in c named) place ≡ Some (instr.Send n next) → slice_get c.templates n ≡ Some t
    → (found ≡ true) ↔ MayLack t value replay.flags → (found ≡ true) ↔ LacksFrom c value named place replay []
there_lacking c value named place n next t replay found leads at at_t tells =
    (λ h. forth (tells.0 h), λ lacks. back (lacking_there c value named place replay lacks))
  where
    forth : MayLack t value replay.flags → LacksFrom c value named place replay []
    forth (flag, needed, may) = record {
      flag = flag;
      before = not value;
      t = t;
      interleaving = [];
      shown_is = refl;
      leads = leads;
      sends = (n, next, at, at_t);
      begins = may;
      needed = needed;
      lacking = refl;
    }

    back : IsLacking c value named place replay → found ≡ true
    back lacking = tells.1 (subst (λ t. MayLack t value replay.flags) (sends_once_at c named place n next lacking.t t lacking.sends at at_t) lacking.may)
