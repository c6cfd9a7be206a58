-- What a reader of requests answers to a piece.
use Rattle.std.proofs.Common.{◌≡◌, ℕ, ◌-◌, ◌≤◌, Result, Ok, Err, List, [], ◌∷◌, ◌++◌, length, refl, sym, ap, ◌∙◌, subst, arith, append-nil, length-append}
use Rattle.mc_reader.specs.AskReading.{Progress, InLine, InBlock, Skipping, Over, HasRead, goes_on, IsAskAnswer, FeedsAsk}
use Rattle.mc_reader.specs.declared.ask.AskFault.TheVariants.{OutOfMemory, Failed}
use Rattle.mc_reader.specs.declared.ask_stage.AskStep.TheVariants.{More, Done}
use Rattle.mc_reader.specs.{AskEnds.AskEnds, AskEnds.IsAskUnfinished, AskStages.progress_of, AskStages.StepsAsk, AskStages.StepsFrom, Asks.Asking, Asks.ask_of}
use Rattle.mc_reader.specs.{declared.ask.Ask.Ask, declared.ask.AskFault.AskFault, declared.ask_stage.AskStage.AskStage, declared.ask_stage.AskStep.AskStep}
use Rattle.mc_reader.specs.declared.ask.Asked.TheVariants as asked
use Rattle.mc_reader.proofs.{AskUnfinished.unfinished_read, Feeding.used_is}

-- ---- more

more_at : (text piece : List ℕ) (s : AskStage) → StepsAsk text piece (Ok (More s)) → IsAskAnswer text piece (Ok asked.More) (progress_of s)
more_at text piece s p = (p.read, unfinished_read (progress_of s) (text ++ piece) p.read)

pub answers_more : (old : Progress) (piece : List ℕ) (s : AskStage) → StepsFrom old piece (Ok (More s))
    → FeedsAsk old piece (Ok asked.More) (progress_of s)
answers_more (InLine start) piece s p = λ text h. more_at text piece s (p text h)
answers_more (InBlock store part) piece s p = λ text h. more_at text piece s (p text h)
answers_more (Skipping refuse left) piece s p = λ text h. more_at text piece s (p text h)
answers_more Over piece s p = absurd (cc)

-- ---- done

-- a text that ends goes on after one of which no prefix ends
front_some : (text front : List ℕ) (asking : Asking) → IsAskUnfinished text → AskEnds (text ++ front) asking → 1 ≤ length front
front_some text [] asking h p = absurd (h (text ++ []) [] asking (append-nil (text ++ []) ∙ append-nil text) p)
front_some text (byte ∷ front) asking h p = omega arith

done_at : (old new : Progress) (text piece : List ℕ) (ask : Ask) (unread : ℕ) → new ≡ goes_on (ask_of ask) → HasRead old text
    → StepsAsk text piece (Ok (Done ask unread)) → IsAskAnswer text piece (Ok (asked.Done ask (length piece - unread))) new
done_at old new text piece ask unread e h p =
    let some = front_some text p.front (ask_of ask) (unfinished_read old text h) p.ends in
    let m = length-append p.front p.back in
    let k = ap length p.cut in
    let r = p.rest in
    let ends = subst (λ u. AskEnds (text ++ u) (ask_of ask)) (sym (used_is p.front p.back piece unread p.cut p.rest)) p.ends in
    (e, omega arith, omega arith, ends)

pub answers_done : (old new : Progress) (piece : List ℕ) (ask : Ask) (unread : ℕ) → new ≡ goes_on (ask_of ask)
    → StepsFrom old piece (Ok (Done ask unread)) → FeedsAsk old piece (Ok (asked.Done ask (length piece - unread))) new
answers_done (InLine start) new piece ask unread e p = λ text h. done_at (InLine start) new text piece ask unread e h (p text h)
answers_done (InBlock store part) new piece ask unread e p =
    λ text h. done_at (InBlock store part) new text piece ask unread e h (p text h)
answers_done (Skipping refuse left) new piece ask unread e p =
    λ text h. done_at (Skipping refuse left) new text piece ask unread e h (p text h)
answers_done Over new piece ask unread e p = absurd (cc)

-- ---- faults

fault_at : (text piece : List ℕ) (fault : AskFault) → StepsAsk text piece (Err fault) → IsAskAnswer text piece (Err fault) Over
fault_at text piece OutOfMemory p = refl
fault_at text piece Failed p = absurd p

same_fault : (x y : Result AskStep AskFault) (fault other : AskFault) → x ≡ Err fault → y ≡ Err other → x ≡ y → fault ≡ other
same_fault x y fault other p q h = cc

pub answers_fault : (old : Progress) (piece : List ℕ) (fault : AskFault) → StepsFrom old piece (Err fault)
    → FeedsAsk old piece (Err fault) Over
answers_fault (InLine start) piece fault p = λ text h. fault_at text piece fault (p text h)
answers_fault (InBlock store part) piece fault p = λ text h. fault_at text piece fault (p text h)
answers_fault (Skipping refuse left) piece fault p = λ text h. fault_at text piece fault (p text h)
answers_fault Over piece fault p = (ap Err (same_fault (Err fault) (Err Failed) fault Failed refl refl p), refl)
