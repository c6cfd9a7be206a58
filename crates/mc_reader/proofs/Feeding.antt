-- What a reader answers to a piece.
use Rattle.std.proofs.Common.{◌≡◌, ℕ, ◌-◌, Option, Some, None, Result, Ok, Err, List, ◌++◌, length, take}
use Rattle.std.proofs.Common.{refl, sym, ap, ◌∙◌, subst, arith, append_assoc, length-append}
use Rattle.std.proofs.lemmas.List.{take_at}
use Rattle.mc_protocol.specs.{Lines.Word, declared.reply.Reply.Reply, declared.request.Verb.Verb}
use Rattle.mc_reader.specs.declared.fault.ReadFault.TheVariants.{OutOfMemory, Failed}
use Rattle.mc_reader.specs.{Reading.IsAnswer, Reading.IsAnswerAfter, Replies.Ends, Replies.HasFailed, Stages.IsStageAt, Stages.IsStepFrom, Stages.stage_fed}
use Rattle.mc_reader.specs.{Steps.EndsAt, Steps.EndsWithin, Steps.IsStep, declared.fault.ReadFault.ReadFault, declared.stage.Stage.Stage}
use Rattle.mc_reader.specs.{declared.step.Step.Step, declared.step.Step.TheVariants.More, declared.step.Step.TheVariants.Done}
use Rattle.mc_reader.specs.declared.reader.Fed.TheVariants as fed
use Rattle.mc_reader.proofs.{Fits.spelled_fits, Unfinished.unfinished_fed}

pub answers_more : (verb : Verb) (key : Word) (before : Option (List ℕ)) (piece : List ℕ) (s : Stage)
    → IsStepFrom verb key before piece (Ok (More s)) → IsAnswerAfter verb key before piece (Ok fed.More) (stage_fed s)
answers_more verb key None piece s p = absurd (cc)
answers_more verb key (Some text) piece s p = (p.read, unfinished_fed verb key s (text ++ piece) p.valid p.read)

-- the front of the piece is what comes before the bytes that are left
pub used_is : (front back piece : List ℕ) (unread : ℕ) → front ++ back ≡ piece → length back ≡ unread
    → take (length piece - unread) piece ≡ front
used_is front back piece unread e n =
    let m = length-append front back in
    let k = ap length e in
    ap (take (length piece - unread)) (sym e) ∙ take_at front back (length piece - unread) (omega arith)

done : (verb : Verb) (key : Word) (text piece : List ℕ) (reply : Reply) (unread : ℕ) → EndsAt (Ends verb key) text piece (Ok reply) unread
    → IsAnswer verb key text piece (Ok (fed.Done reply (length piece - unread))) None
done verb key text piece reply unread p =
    let spells = subst (λ u. Ends verb key (text ++ u) (Ok reply)) (sym (used_is p.front p.back piece unread p.cut p.rest)) p.ends in
    (refl, omega arith, spells, spelled_fits verb key (text ++ take (length piece - unread) piece) reply spells)

pub answers_done : (verb : Verb) (key : Word) (before : Option (List ℕ)) (piece : List ℕ) (reply : Reply) (unread : ℕ)
    → IsStepFrom verb key before piece (Ok (Done reply unread))
    → IsAnswerAfter verb key before piece (Ok (fed.Done reply (length piece - unread))) None
answers_done verb key None piece reply unread p = absurd (cc)
answers_done verb key (Some text) piece reply unread p = done verb key text piece reply unread p

has_failed : (verb : Verb) (key : Word) (text piece : List ℕ) (fault : ReadFault) → EndsWithin (Ends verb key) text piece (Err fault)
    → HasFailed verb key (text ++ piece) fault
has_failed verb key text piece fault p = record {
  front = text ++ p.at.front;
  back = p.at.back;
  cut = append_assoc text p.at.front p.at.back ∙ ap (λ u. text ++ u) p.at.cut;
  fails = p.at.ends;
}

fault_answered : (verb : Verb) (key : Word) (text piece : List ℕ) (fault : ReadFault)
    → IsStep (Ends verb key) (IsStageAt verb key) text piece (Err fault) → IsAnswer verb key text piece (Err fault) None
fault_answered verb key text piece OutOfMemory p = refl
fault_answered verb key text piece Failed p = absurd p
fault_answered verb key text piece fault p = (refl, has_failed verb key text piece fault p)

same_fault : (x y : Result (Step Stage) ReadFault) (fault other : ReadFault) → x ≡ Err fault → y ≡ Err other → x ≡ y → fault ≡ other
same_fault x y fault other p q h = cc

pub answers_fault : (verb : Verb) (key : Word) (before : Option (List ℕ)) (piece : List ℕ) (fault : ReadFault)
    → IsStepFrom verb key before piece (Err fault) → IsAnswerAfter verb key before piece (Err fault) None
answers_fault verb key None piece fault p = (ap Err (same_fault (Err fault) (Err Failed) fault Failed refl refl p), refl)
answers_fault verb key (Some text) piece fault p = fault_answered verb key text piece fault p
