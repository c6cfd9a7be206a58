-- Lines of a step list: each spells at most one step, and the line `end` none.
use Rattle.std.proofs.Common.{◌≡◌, ℕ, ◌==◌, if◌then◌else◌, [], ◌∷◌, codes, refl, sym, ap, subst, ◌∙◌}
use Rattle.std.specs.Str.Parse.{digits_value}
use Rattle.mc_protocol.specs.{Faults.fault_number, Lines.Words, declared.actor.Actor.Actor, declared.event.Event.Event}
use Rattle.mc_protocol.specs.declared.fault.Fault.{Fault}
use Rattle.mc_protocol.specs.declared.fault.Fault.TheVariants as fault
use Rattle.mc_protocol.proofs.{ActorWords.actor_is_not_end, FirstItems.head_is, FirstItems.rest_is}
use Rattle.mc_protocol.specs.declared.event.Event.TheVariants as event
use Rattle.mc_words.specs.Words.{SpellsReply}
use Rattle.mc_words.proofs.ReplyWords.{one_reply}
use Rattle.mc_history.specs.{HistoryText.end_line, StepText.SpellsEvent, StepText.SpellsStep, StepReading.SpellsFault}
use Rattle.mc_history.proofs.LineLemmas.{begin_is_not_reply}

-- ---- first words

begin_is_not_fail : (xs ys : Words) → codes "begin" ∷ xs ≡ codes "fail" ∷ ys → ⊥
begin_is_not_fail xs ys e = cc

reply_is_not_fail : (xs ys : Words) → codes "reply" ∷ xs ≡ codes "fail" ∷ ys → ⊥
reply_is_not_fail xs ys e = cc

-- ---- faults

fault_in : ℕ → Fault
fault_in n =
    if n == 1 then fault.WriteFailed else (if n == 2 then fault.ReadFailed else (if n == 3 then fault.Ended
    else (if n == 4 then fault.BadReply else (if n == 5 then fault.ErrorLine else (if n == 6 then fault.TooMuch
    else (if n == 7 then fault.Closed else fault.Memory))))))

fault_in-fault_number : (f : Fault) → fault_in (fault_number f) ≡ f
unfolding fault_in
fault_in-fault_number fault.WriteFailed = refl
fault_in-fault_number fault.ReadFailed = refl
fault_in-fault_number fault.Ended = refl
fault_in-fault_number fault.BadReply = refl
fault_in-fault_number fault.ErrorLine = refl
fault_in-fault_number fault.TooMuch = refl
fault_in-fault_number fault.Closed = refl
fault_in-fault_number fault.Memory = refl

-- each fault has a number of its own
one_fault : (f g : Fault) → fault_number f ≡ fault_number g → f ≡ g
one_fault f g e = sym (fault_in-fault_number f) ∙ ap fault_in e ∙ fault_in-fault_number g

-- ---- steps

-- words spell at most one event
pub one_event : (words : Words) (x y : Event) → SpellsEvent words x → SpellsEvent words y → x ≡ y
one_event words event.Begin event.Begin f g = refl
one_event words event.Begin (event.Reply s) f (w, d, g) = absurd (begin_is_not_reply [] w (sym f ∙ d))
one_event words event.Begin (event.Fail y) f (w, d, g) = absurd (begin_is_not_fail [] (w ∷ []) (sym f ∙ d))
one_event words (event.Reply r) event.Begin (v, e, f) g = absurd (begin_is_not_reply [] v (sym g ∙ e))
one_event words (event.Reply r) (event.Reply s) (v, e, f) (w, d, g) =
    ap (λ z. event.Reply z) (one_reply v r s f (subst (λ z. SpellsReply z s) (sym (rest_is _ _ v w (sym e ∙ d))) g))
one_event words (event.Reply r) (event.Fail y) (v, e, f) (w, d, g) = absurd (reply_is_not_fail v (w ∷ []) (sym e ∙ d))
one_event words (event.Fail x) event.Begin (v, e, f) g = absurd (begin_is_not_fail [] (v ∷ []) (sym g ∙ e))
one_event words (event.Fail x) (event.Reply s) (v, e, f) (w, d, g) = absurd (reply_is_not_fail w (v ∷ []) (sym d ∙ e))
one_event words (event.Fail x) (event.Fail y) (v, e, f) (w, d, g) =
    let same = head_is v w [] [] (rest_is (codes "fail") (codes "fail") (v ∷ []) (w ∷ []) (sym e ∙ d)) in
    ap (λ z. event.Fail z) (one_fault x y (sym f.value ∙ ap (λ z. digits_value 10 z) same ∙ g.value))

-- the line of a step is not `end`
pub step_is_not_end : (line : Words) (x : Actor × Event) → SpellsStep line x → line ≡ end_line → ⊥
step_is_not_end line x (v, e, f) is = actor_is_not_end x.0 v [] (sym e ∙ is)

-- words after `fail` that are no number of a fault
pub no_fail : (words others : Words) → words ≡ codes "fail" ∷ others → ((f : Fault) → SpellsFault others f → ⊥)
    → (x : Event) → SpellsEvent words x → ⊥
no_fail words others e none event.Begin f = begin_is_not_fail [] others (sym f ∙ e)
no_fail words others e none (event.Reply r) (w, d, f) = reply_is_not_fail w others (sym d ∙ e)
no_fail words others e none (event.Fail x) (w, d, f) = none x (w, rest_is (codes "fail") (codes "fail") others (w ∷ []) (sym e ∙ d), f)
