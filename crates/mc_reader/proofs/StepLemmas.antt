-- A step of a part of a piece is one of the whole.
use Rattle.std.proofs.Common.{◌≡◌, ℕ, ◌+◌, Some, Result, Ok, Err, List, [], ◌∷◌, ◌++◌, length, take, drop, refl, sym, ap, ◌∙◌, subst, append_assoc, Vec}
use Rattle.std.specs.declared.alloc.Global.{Global}
use Rattle.mc_protocol.specs.{Lines.Word, declared.reply.Reply.Reply, declared.request.Verb.Verb}
use Rattle.mc_reader.specs.Lines.{CR, LF, IsLine, line_says, end_says, end_fault_of_text, text_of}
use Rattle.mc_reader.specs.Stages.{IsStageAt, IsStage, IsStepFrom, stage_fed, after_block}
use Rattle.mc_reader.specs.declared.fault.ReadFault.TheVariants.{LineTooLong, OutOfMemory, Failed}
use Rattle.mc_reader.specs.{Block.IsBlockOf, Block.block_read, Gathered.IsGathered, Gathered.Gathers, Replies.Outcome, Replies.hit_of, Replies.BlockEnds}
use Rattle.mc_reader.specs.{Replies.Ends, Replies.with_block, Steps.EndsAt, Steps.EndsWithin, Steps.IsStep, declared.block.Block.Block}
use Rattle.mc_reader.specs.{declared.fault.ReadFault.ReadFault, declared.said.HitLine.HitLine, declared.said.Said.Said, declared.said.Said.TheVariants.Hit}
use Rattle.mc_reader.specs.{declared.stage.Stage.Stage, declared.step.Step.Step, declared.step.Step.TheVariants.More, declared.step.Step.TheVariants.Done}
use Rattle.mc_reader.specs.declared.stage.Stage.TheVariants as stage
use Rattle.mc_reader.proofs.Blocks.{line_in, end_fails, last_ends, last_too_long}
use Rattle.mc_reader.proofs.{FirstLines.first_ends, FirstLines.first_too_long, Fits.IsOfLine, Fits.line_fault, Fits.end_line_fault}

-- a piece of which a front was read before
pub ends_after : {O : Type 0} (E : List ℕ → O → Type 0) (text front piece : List ℕ) (outcome : O) (unread : ℕ)
    → EndsAt E (text ++ front) piece outcome unread → EndsAt E text (front ++ piece) outcome unread
ends_after E text front piece outcome unread p = record {
  front = front ++ p.front;
  back = p.back;
  cut = append_assoc front p.front p.back ∙ ap (λ u. front ++ u) p.cut;
  rest = p.rest;
  ends = subst (λ u. E u outcome) (append_assoc text front p.front) p.ends;
}

within_after : (E : List ℕ → Outcome → Type 0) (text front piece : List ℕ) (outcome : Outcome)
    → EndsWithin E (text ++ front) piece outcome → EndsWithin E text (front ++ piece) outcome
within_after E text front piece outcome p = record { unread = p.unread; at = ends_after E text front piece outcome p.unread p.at }

step_parts : {S : Type 0} (E : List ℕ → Outcome → Type 0) (After : S → List ℕ → Type 0) (text front piece : List ℕ)
    (result : Result (Step S) ReadFault)
    → IsStep E After (text ++ front) piece result → IsStep E After text (front ++ piece) result
step_parts E After text front piece (Ok (More s)) p = subst (After s) (append_assoc text front piece) p
step_parts E After text front piece (Ok (Done reply unread)) p = ends_after E text front piece (Ok reply) unread p
step_parts E After text front piece (Err OutOfMemory) p = tt
step_parts E After text front piece (Err Failed) p = absurd p
step_parts E After text front piece (Err fault) p = within_after E text front piece (Err fault) p

-- the same, where the texts are given by equations
pub step_after : {S : Type 0} (E : List ℕ → Outcome → Type 0) (After : S → List ℕ → Type 0) (text front piece longer whole : List ℕ)
    (result : Result (Step S) ReadFault)
    → longer ≡ text ++ front → whole ≡ front ++ piece → IsStep E After longer piece result → IsStep E After text whole result
step_after E After text front piece longer whole result e d p =
    subst (λ u. IsStep E After text u result) (sym d)
    (step_parts E After text front piece result (subst (λ u. IsStep E After u piece result) e p))

-- ---- the block after a first line

module _ (verb : Verb) (key line : Word) (hit : HitLine) (l : IsLine line) (says : line_says verb key line ≡ Ok (Hit hit)) where
  regroup : (text front : List ℕ) → (line ++ LF ∷ text) ++ front ≡ line ++ LF ∷ (text ++ front)
  regroup text front = append_assoc line (LF ∷ text) front

  pub ends_with_line : (text piece : List ℕ) (outcome : Outcome) (unread : ℕ)
      → EndsAt (BlockEnds hit) text piece outcome unread → EndsAt (Ends verb key) (line ++ LF ∷ text) piece outcome unread
  ends_with_line text piece outcome unread p = record {
    front = p.front;
    back = p.back;
    cut = p.cut;
    rest = p.rest;
    ends = with_block line (text ++ p.front) hit l says p.ends (regroup text p.front);
  }

  pub within_with_line : (text piece : List ℕ) (outcome : Outcome)
      → EndsWithin (BlockEnds hit) text piece outcome → EndsWithin (Ends verb key) (line ++ LF ∷ text) piece outcome
  within_with_line text piece outcome p = record { unread = p.unread; at = ends_with_line text piece outcome p.unread p.at }

  at_block : (kept : Vec ℕ Global) (block : Block) (text piece : List ℕ) → kept.items ≡ line → IsBlockOf hit block (text ++ piece)
      → IsStageAt verb key (stage.Block kept block) ((line ++ LF ∷ text) ++ piece)
  at_block kept block text piece e b = record {
    valid = (subst IsLine (sym e) l, ap (line_says verb key) e ∙ says ∙ ap (λ h. Ok (Hit h)) (sym b.same), b.valid);
    read = ap (λ u. Some (kept.items ++ LF ∷ u)) b.read ∙ ap (λ u. Some (u ++ LF ∷ (text ++ piece))) e ∙ ap Some (sym (regroup text piece));
  }

  -- a step in the block is one of the reply, where the line was kept
  pub step_with_line : (kept : Vec ℕ Global) (text piece : List ℕ) (step : Step Block) → kept.items ≡ line
      → IsStep (BlockEnds hit) (IsBlockOf hit) text piece (Ok step)
      → IsStep (Ends verb key) (IsStageAt verb key) (line ++ LF ∷ text) piece (Ok (after_block kept step))
  step_with_line kept text piece (More block) e p = at_block kept block text piece e p
  step_with_line kept text piece (Done reply unread) e p = ends_with_line text piece (Ok reply) unread p

  -- and a fault in it is one of the reply
  pub fault_with_line : {S T : Type 0} (After : S → List ℕ → Type 0) (Other : T → List ℕ → Type 0) (text piece : List ℕ) (fault : ReadFault)
      → IsStep {S = S} (BlockEnds hit) After text piece (Err fault)
      → IsStep {S = T} (Ends verb key) Other (line ++ LF ∷ text) piece (Err fault)
  fault_with_line After Other text piece OutOfMemory p = tt
  fault_with_line After Other text piece Failed p = absurd p
  fault_with_line After Other text piece fault p = within_with_line text piece (Err fault) p

-- ---- the first line and the block after it, in one piece

-- a fault of a line
pub fault_step : {S : Type 0} (E : List ℕ → Outcome → Type 0) (After : S → List ℕ → Type 0) (text piece : List ℕ) (fault : ReadFault)
    → IsOfLine fault → EndsWithin E text piece (Err fault) → IsStep {S = S} E After text piece (Err fault)
fault_step E After text piece OutOfMemory p w = tt
fault_step E After text piece Failed p w = absurd p
fault_step E After text piece fault p w = w

module _ (verb : Verb) (key start after piece : List ℕ) (at : ℕ) (hit : HitLine) (g : IsGathered start after piece at)
    (says : line_says verb key (start ++ take at piece) ≡ Ok (Hit hit)) where
  -- from the block after the line to the piece with the line
  with_first_line : (result : Result (Step Stage) ReadFault)
      → IsStep (Ends verb key) (IsStageAt verb key) ((start ++ take at piece) ++ LF ∷ []) (drop (at + 1) piece) result
      → IsStep (Ends verb key) (IsStageAt verb key) start piece result
  with_first_line result p =
      step_after (Ends verb key) (IsStageAt verb key) start (take at piece ++ LF ∷ []) (drop (at + 1) piece)
      ((start ++ take at piece) ++ LF ∷ []) piece result
      (append_assoc start (take at piece) (LF ∷ [])) (sym (line_in piece at g.end_at)) p

  -- more of the block is to come, and the line was kept
  pub hit_more : (kept : Vec ℕ Global) (block : Block) → kept.items ≡ start ++ take at piece
      → IsStep (BlockEnds hit) (IsBlockOf hit) [] (drop (at + 1) piece) (Ok (More block))
      → IsStep (Ends verb key) (IsStageAt verb key) start piece (Ok (More (stage.Block kept block)))
  hit_more kept block e p =
      with_first_line (Ok (More (stage.Block kept block)))
      (step_with_line verb key (start ++ take at piece) hit g.line says kept [] (drop (at + 1) piece) (More block) e p)

  -- the hit is whole
  pub hit_done : (reply : Reply) (unread : ℕ)
      → IsStep (BlockEnds hit) (IsBlockOf hit) [] (drop (at + 1) piece) (Ok (Done reply unread))
      → IsStep (Ends verb key) (IsStageAt verb key) start piece (Ok (Done reply unread))
  hit_done reply unread p =
      with_first_line (Ok (Done reply unread))
      (ends_with_line verb key (start ++ take at piece) hit g.line says [] (drop (at + 1) piece) (Ok reply) unread p)

  pub hit_fault : (fault : ReadFault) → IsStep (BlockEnds hit) (IsBlockOf hit) [] (drop (at + 1) piece) (Err fault)
      → IsStep (Ends verb key) (IsStageAt verb key) start piece (Err fault)
  hit_fault fault p =
      with_first_line (Err fault)
      (fault_with_line verb key (start ++ take at piece) hit g.line says (IsBlockOf hit) (IsStageAt verb key) [] (drop (at + 1) piece)
      fault p)

-- ---- faults of lines

-- the first line fails
pub first_line_fault : (verb : Verb) (key start after piece line : List ℕ) (at : ℕ) (fault : ReadFault) → IsGathered start after piece at
    → line ≡ start ++ take at piece → line_says verb key line ≡ Err fault
    → IsStep (Ends verb key) (IsStageAt verb key) start piece (Err fault)
first_line_fault verb key start after piece line at fault g e says =
    let here : line_says verb key (start ++ take at piece) ≡ Err fault = ap (line_says verb key) (sym e) ∙ says in
    fault_step (Ends verb key) (IsStageAt verb key) start piece fault (line_fault verb key line fault says)
    (record { unread = length (drop (at + 1) piece); at = first_ends verb key start after piece at (Err fault) g here })

-- it can't be gathered
pub first_gather_fault : (verb : Verb) (key start after piece : List ℕ) (fault : ReadFault) → Gathers start after piece (Err fault)
    → IsStep (Ends verb key) (IsStageAt verb key) start piece (Err fault)
first_gather_fault verb key start after piece LineTooLong g = first_too_long verb key start piece g
first_gather_fault verb key start after piece OutOfMemory g = tt
first_gather_fault verb key start after piece fault g = absurd g

-- the last line fails
pub last_line_fault : (hit : HitLine) (body start after piece line : List ℕ) (at : ℕ) (fault : ReadFault) → length body ≡ hit.body_len
    → IsGathered start after piece at → line ≡ start ++ take at piece → end_fault_of_text (text_of line) ≡ Some fault
    → IsStep (BlockEnds hit) (IsBlockOf hit) (body ++ CR ∷ LF ∷ start) piece (Err fault)
last_line_fault hit body start after piece line at fault whole g e says =
    let here : Err fault ≡ end_says (hit_of hit body) (start ++ take at piece) =
    end_fails (hit_of hit body) line fault says ∙ ap (end_says (hit_of hit body)) e in
    fault_step (BlockEnds hit) (IsBlockOf hit) (body ++ CR ∷ LF ∷ start) piece fault (end_line_fault line fault says)
    (record { unread = length (drop (at + 1) piece); at = last_ends hit body start after piece at (Err fault) whole g here })

-- it can't be gathered
pub last_gather_fault : (hit : HitLine) (body start after piece : List ℕ) (fault : ReadFault) → length body ≡ hit.body_len
    → Gathers start after piece (Err fault) → IsStep (BlockEnds hit) (IsBlockOf hit) (body ++ CR ∷ LF ∷ start) piece (Err fault)
last_gather_fault hit body start after piece LineTooLong whole g = last_too_long hit body start piece whole g
last_gather_fault hit body start after piece OutOfMemory whole g = tt
last_gather_fault hit body start after piece fault whole g = absurd g

-- ---- as the functions have it

-- a step in the block that a line announced
pub block_step : (hit : HitLine) (block : Block) (text piece : List ℕ) (result : Result (Step Block) ReadFault) → IsBlockOf hit block text
    → IsStep (BlockEnds block.hit) (IsBlockOf block.hit) (block_read block) piece result
    → IsStep (BlockEnds hit) (IsBlockOf hit) text piece result
block_step hit block text piece result b p =
    subst (λ u. IsStep (BlockEnds hit) (IsBlockOf hit) u piece result) b.read
    (subst (λ h. IsStep (BlockEnds h) (IsBlockOf h) (block_read block) piece result) b.same p)

-- what a line says, where it is the one that was gathered
pub says_at : (verb : Verb) (key line whole : Word) (said other : Said) → line ≡ whole → Ok said ≡ line_says verb key line → said ≡ other
    → line_says verb key whole ≡ Ok other
says_at verb key line whole said other e h d = ap (line_says verb key) (sym e) ∙ sym h ∙ ap Ok d

-- from a stage in a block
pub on_block : (verb : Verb) (key : Word) (line : Vec ℕ Global) (block : Block) (piece : List ℕ) (step : Step Block)
    → IsStage verb key (stage.Block line block)
    → IsStep (BlockEnds block.hit) (IsBlockOf block.hit) (block_read block) piece (Ok step)
    → IsStepFrom verb key (stage_fed (stage.Block line block)) piece (Ok (after_block line step))
on_block verb key line block piece step v p = step_with_line verb key line.items block.hit v.0 v.1 line (block_read block) piece step refl p

pub on_block_fault : (verb : Verb) (key : Word) (line : Vec ℕ Global) (block : Block) (piece : List ℕ) (fault : ReadFault)
    → IsStage verb key (stage.Block line block)
    → IsStep (BlockEnds block.hit) (IsBlockOf block.hit) (block_read block) piece (Err fault)
    → IsStepFrom verb key (stage_fed (stage.Block line block)) piece (Err fault)
on_block_fault verb key line block piece fault v p =
    fault_with_line verb key line.items block.hit v.0 v.1 (IsBlockOf block.hit) (IsStageAt verb key) (block_read block) piece fault p
