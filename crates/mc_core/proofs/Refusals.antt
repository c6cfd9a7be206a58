-- What is against an event, by how its section stands and what waits.
use Rattle.std.proofs.Common.{◌≡◌, inl, inr, ◌<◌, ◌≤◌, Bool, true, false, Option, Some, None, refl, ap, sym, subst, ◌∙◌, arith, if◌then◌else◌}
use Rattle.mc_protocol.specs.{Legal.is_fit_for, declared.actor.Actor.Actor, declared.event.Event.Event}
use Rattle.mc_protocol.specs.declared.event.Event.TheVariants as event
use Rattle.mc_code.specs.{Calls.template_of, Code.Code, declared.instr.Call.Call}
use Rattle.mc_code.proofs.LookUps.{some_is}
use Rattle.mc_core.specs.{declared.ending.Ending.Ending, declared.step_refusal.StepRefusal.StepRefusal, Fields.refusal_of, Fields.refusal_in, Fields.IsFree}
use Rattle.mc_core.specs.{Steps.refusal_number, Steps.IsAgainst, Steps.IsRefused, Worlds.World, Worlds.log_of, Worlds.IsBegun, Worlds.IsEnding}
use Rattle.mc_core.specs.declared.ending.Ending.TheVariants as ending
use Rattle.mc_core.specs.declared.step_refusal.StepRefusal.TheVariants as refusal

-- ---- what is found

-- what is found of a section that is there is against the event
found_against : (c : Code) (w : World) (who : Actor) (e : Event) (x : Ending) (o : Option Call) (r : StepRefusal) → IsEnding c w who x
    → (log_of w who).waiting ≡ o → refusal_in c x o e ≡ Some r → IsAgainst c w who e r
found_against c w who e ending.NotBegun o r stands waits is = subst (IsAgainst c w who e) (some_is refusal.NotYet r is) stands
found_against c w who e ending.Done o r stands waits is = subst (IsAgainst c w who e) (some_is refusal.Over r is) (inr stands.1)
found_against c w who e (ending.Failed fault) o r stands waits is =
    subst (IsAgainst c w who e) (some_is refusal.Over r is) (inl (fault, stands.1))
found_against c w who event.Begin ending.Running (Some made) r stands waits is =
    subst (IsAgainst c w who event.Begin) (some_is refusal.Waiting r is) (made, waits)
found_against c w who (event.Reply reply) ending.Running None r stands waits is =
    subst (IsAgainst c w who (event.Reply reply)) (some_is refusal.NotWaiting r is) waits
found_against c w who (event.Reply reply) ending.Running (Some made) r stands waits is =
    by_fit (is_fit_for (template_of c made).verb reply) refl is
  where
    by_fit : (b : Bool) → is_fit_for (template_of c made).verb reply ≡ b → (if b then None else Some refusal.WrongReply) ≡ Some r
        → IsAgainst c w who (event.Reply reply) r
    by_fit true fit is = absurd (cc)
    by_fit false wrong is = subst (IsAgainst c w who (event.Reply reply)) (some_is refusal.WrongReply r is) (made, waits, wrong)
found_against c w who _ ending.Running _ r stands waits is = absurd (cc)

-- while the section goes on, what is against the event is found
found_on : (c : Code) (w : World) (who : Actor) (e : Event) (o : Option Call) (r : StepRefusal) → IsEnding c w who ending.Running
    → (log_of w who).waiting ≡ o → IsAgainst c w who e r → refusal_of c o e ≡ Some r
found_on c w who e o refusal.NotYet running waits x = absurd (x running.0)
found_on c w who e o refusal.Over running waits (inl (fault, is)) = let clash = sym running.1 ∙ is in absurd (cc)
found_on c w who e o refusal.Over running waits (inr done) = absurd (running.2 done)
found_on c w who event.Begin None refusal.Waiting running waits (made, at) = let clash = sym waits ∙ at in absurd (cc)
found_on c w who event.Begin (Some made) refusal.Waiting running waits x = refl
found_on c w who (event.Reply reply) None refusal.NotWaiting running waits x = refl
found_on c w who (event.Reply reply) (Some made) refusal.NotWaiting running waits x = let clash = sym waits ∙ x in absurd (cc)
found_on c w who (event.Reply reply) None refusal.WrongReply running waits (made, at, wrong) = let clash = sym waits ∙ at in absurd (cc)
found_on c w who (event.Reply reply) (Some made) refusal.WrongReply running waits (other, at, wrong) =
    let same = some_is made other (sym waits ∙ at) in
    ap (λ b. if b then None else Some refusal.WrongReply) (ap (λ made. is_fit_for (template_of c made).verb reply) same ∙ wrong)
found_on c w who _ _ _ running waits x = absurd x

begun_least : (c : Code) (w : World) (who : Actor) (e : Event) (r : StepRefusal) → IsBegun c w who → IsAgainst c w who e r
    → 2 ≤ refusal_number r
begun_least c w who e refusal.NotYet begun x = absurd (x begun)
begun_least c w who e _ begun x = omega arith

-- what is against the event is found, or something that comes before it
found_first : (c : Code) (w : World) (who : Actor) (e : Event) (x : Ending) (o : Option Call) (r : StepRefusal) → IsEnding c w who x
    → (log_of w who).waiting ≡ o → IsAgainst c w who e r
    → (found : StepRefusal) × (refusal_in c x o e ≡ Some found) × (refusal_number found ≤ refusal_number r)
found_first c w who e ending.NotBegun o r stands waits against = (refusal.NotYet, refl, least r)
  where
    least : (r : StepRefusal) → 1 ≤ refusal_number r
    least refusal.NotYet = omega arith
    least _ = omega arith
found_first c w who e ending.Running o r stands waits against = (r, found_on c w who e o r stands waits against, omega arith)
found_first c w who e ending.Done o r stands waits against = (refusal.Over, refl, begun_least c w who e r stands.0 against)
found_first c w who e (ending.Failed fault) o r stands waits against = (refusal.Over, refl, begun_least c w who e r stands.0 against)

-- ---- refused or taken

pub refused_rightly : (c : Code) (w : World) (who : Actor) (e : Event) (x : Ending) (o : Option Call) (r : StepRefusal) → IsEnding c w who x
    → (log_of w who).waiting ≡ o → refusal_in c x o e ≡ Some r → IsRefused c w who e r
refused_rightly c w who e x o r stands waits is = record { against = found_against c w who e x o r stands waits is; first = first }
  where
    first : (other : StepRefusal) → refusal_number other < refusal_number r → IsAgainst c w who e other → ⊥
    first other less against =
        let found = found_first c w who e x o other stands waits against in
        let same = ap refusal_number (some_is found.0 r (sym found.1 ∙ is)) in
        let least = found.2 in
        omega (arith, less, same, least)

-- an event that isn't refused is one of a section that goes on
pub taken_rightly : (c : Code) (w : World) (who : Actor) (e : Event) (x : Ending) (o : Option Call) → IsEnding c w who x
    → (log_of w who).waiting ≡ o → refusal_in c x o e ≡ None → (x ≡ ending.Running) × IsFree c w who e
taken_rightly c w who e x o stands waits is = (
  by_ending x is,
  λ r against. let found = found_first c w who e x o r stands waits against in let clash = sym is ∙ found.1 in absurd (cc),
)
  where
    by_ending : (x : Ending) → refusal_in c x o e ≡ None → x ≡ ending.Running
    by_ending ending.Running is = refl
    by_ending _ is = absurd (cc)
