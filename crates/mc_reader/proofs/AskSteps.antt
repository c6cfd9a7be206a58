-- A step of a request, by what a part of it does to a piece.
use Rattle.std.proofs.Common.{◌≡◌, ℕ, ◌+◌, ◌<◌, ◌≤◌, ◌==◌, false, Result, Ok, Err, List, [], ◌∷◌, ◌++◌, length, take, drop, refl}
use Rattle.std.proofs.Common.{sym, ap, ◌∙◌, subst, arith, length-take, length-drop, length-append, append_assoc, append-nil}
use Rattle.std.proofs.lemmas.List.{take-append-drop}
use Rattle.std.specs.Prelude.{IfOk}
use Rattle.mc_reader.specs.AskEnds.{request_of, not_cr, not_lf, crlf, ChunkEnds, AskEnds, one_line, with_block, with_skipped}
use Rattle.mc_reader.specs.AskReading.{InBlock, Skipping, HasRead, HasReadBlock}
use Rattle.mc_reader.specs.AskStages.{IsAskStageAt, StepsTo, StepsAsk, StepsChunk, StepsSkip, StepsFrom, StepsValid}
use Rattle.mc_reader.specs.declared.ask.AskFault.TheVariants.{OutOfMemory, Failed}
use Rattle.mc_reader.specs.{AskLines.Whole, AskLines.Block, AskLines.Skips, AskLines.line_says, Asks.Asking, Asks.One, Asks.Refused, Asks.ask_of, Lines.CR}
use Rattle.mc_reader.specs.{Lines.LF, Lines.IsLine, Steps.EndsAt, declared.ask.AskFault.AskFault, declared.ask.Refuse.Refuse}
use Rattle.mc_reader.specs.{declared.ask.Refuse.TheVariants.BadChunk, declared.ask_said.StoreLine.StoreLine, declared.ask_stage.AskStage.AskStage}
use Rattle.mc_reader.specs.{declared.ask_stage.AskStep.AskStep, declared.ask_stage.AskStep.TheVariants.More, declared.ask_stage.AskStep.TheVariants.Done}
use Rattle.mc_reader.specs.declared.ask.Ask.TheVariants as ask
use Rattle.mc_reader.specs.declared.ask_stage.AskStage.TheVariants as stage
use Rattle.mc_reader.proofs.StepLemmas.{ends_after}

step_parts : (E : List ℕ → Asking → Type 0) (After : AskStage → List ℕ → Type 0) (text front piece : List ℕ)
    (result : Result AskStep AskFault)
    → StepsTo E After (text ++ front) piece result → StepsTo E After text (front ++ piece) result
step_parts E After text front piece (Ok (More s)) p = subst (After s) (append_assoc text front piece) p
step_parts E After text front piece (Ok (Done asked unread)) p = ends_after E text front piece (ask_of asked) unread p
step_parts E After text front piece (Err OutOfMemory) p = tt
step_parts E After text front piece (Err Failed) p = absurd p

-- a step of a piece is one of a longer piece of which a front was read before
pub ask_step_after : (E : List ℕ → Asking → Type 0) (After : AskStage → List ℕ → Type 0) (text front piece longer whole : List ℕ)
    (result : Result AskStep AskFault)
    → longer ≡ text ++ front → whole ≡ front ++ piece → StepsTo E After longer piece result → StepsTo E After text whole result
ask_step_after E After text front piece longer whole result e d p =
    subst (λ u. StepsTo E After text u result) (sym d)
    (step_parts E After text front piece result (subst (λ u. StepsTo E After u piece result) e p))

-- ---- after a body

-- a byte after the body that isn't CR
pub stray_cr : (line : StoreLine) (body piece rest : List ℕ) (byte : ℕ) → length body ≡ line.body_len → (byte == CR) ≡ false
    → piece ≡ byte ∷ rest → EndsAt (ChunkEnds line) body piece (Refused BadChunk) (length rest)
stray_cr line body piece rest byte whole h e = record {
  front = byte ∷ [];
  back = rest;
  cut = sym e;
  rest = refl;
  ends = record { body = body; rest = byte ∷ []; whole = whole; cut = refl; ends = not_cr byte h refl refl };
}

-- a byte after the CR that isn't LF
pub stray_lf : (line : StoreLine) (body piece rest : List ℕ) (byte : ℕ) → length body ≡ line.body_len → (byte == LF) ≡ false
    → piece ≡ byte ∷ rest → EndsAt (ChunkEnds line) (body ++ CR ∷ []) piece (Refused BadChunk) (length rest)
stray_lf line body piece rest byte whole h e = record {
  front = byte ∷ [];
  back = rest;
  cut = sym e;
  rest = refl;
  ends = record {
    body = body;
    rest = CR ∷ byte ∷ [];
    whole = whole;
    cut = append_assoc body (CR ∷ []) (byte ∷ []);
    ends = not_lf byte h refl refl;
  };
}

-- the LF after the CR
pub chunk_whole : (line : StoreLine) (body piece rest : List ℕ) → length body ≡ line.body_len → piece ≡ LF ∷ rest
    → EndsAt (ChunkEnds line) (body ++ CR ∷ []) piece (One (request_of line body) line.noreply) (length rest)
chunk_whole line body piece rest whole e = record {
  front = LF ∷ [];
  back = rest;
  cut = sym e;
  rest = refl;
  ends = record {
    body = body;
    rest = CR ∷ LF ∷ [];
    whole = whole;
    cut = append_assoc body (CR ∷ []) (LF ∷ []);
    ends = crlf refl refl;
  };
}

-- ---- after a line

-- a line that is all that is asked
pub said_whole : (line piece : List ℕ) (asked : Asking) → IsLine line → line_says line ≡ Whole asked
    → EndsAt AskEnds (line ++ LF ∷ []) piece asked (length piece)
said_whole line piece asked l says = record {
  front = [];
  back = piece;
  cut = refl;
  rest = refl;
  ends = one_line line l says (append-nil (line ++ LF ∷ []));
}

-- a step after the line of a request that brings a body is one of the request
pub chunk_step : (line : List ℕ) (store : StoreLine) (text piece : List ℕ) (result : Result AskStep AskFault) → IsLine line
    → line_says line ≡ Block store → StepsChunk store text piece result → StepsAsk (line ++ LF ∷ text) piece result
chunk_step line store text piece (Ok (More s)) l says p = record {
  valid = p.valid;
  read = subst (λ u. HasRead u ((line ++ LF ∷ text) ++ piece)) (sym p.read)
      (let read : HasReadBlock store (text ++ piece) ((line ++ LF ∷ text) ++ piece) = record {
        line = line;
        whole = l;
        says = says;
        front = p.front;
        cut = append_assoc line (LF ∷ text) piece;
      } in read);
}
chunk_step line store text piece (Ok (Done asked unread)) l says p = record {
  front = p.front;
  back = p.back;
  cut = p.cut;
  rest = p.rest;
  ends = with_block line (text ++ p.front) store l says p.ends (append_assoc line (LF ∷ text) p.front);
}
chunk_step line store text piece (Err OutOfMemory) l says p = tt
chunk_step line store text piece (Err Failed) l says p = absurd p

more_skipped : (line part : List ℕ) (refuse other : Refuse) (left total more : ℕ) (piece : List ℕ) → IsLine line
    → line_says line ≡ Skips refuse total → total ≡ length part + left → other ≡ refuse → 0 < more → length piece + more ≡ left
    → IsAskStageAt (stage.Skip other more) ((line ++ LF ∷ part) ++ piece)
more_skipped line part refuse other left total more piece l says e same some count =
    let n = length-append part piece in
    let all : total ≡ length (part ++ piece) + more = omega arith in
    record {
      valid = some;
      read = record {
        line = line;
        part = part ++ piece;
        whole = l;
        some = some;
        says = says ∙ ap (λ n. Skips refuse n) all ∙ ap (λ r. Skips r (length (part ++ piece) + more)) (sym same);
        cut = append_assoc line (LF ∷ part) piece;
      };
    }

all_skipped : (line part : List ℕ) (refuse other : Refuse) (left total unread : ℕ) (piece : List ℕ) → IsLine line
    → line_says line ≡ Skips refuse total → total ≡ length part + left → other ≡ refuse → left + unread ≡ length piece
    → EndsAt AskEnds (line ++ LF ∷ part) piece (Refused other) unread
all_skipped line part refuse other left total unread piece l says e same count =
    let n = length-append part (take left piece) in
    let m = length-take left piece in
    let k = length-drop left piece in
    let all : total ≡ length (part ++ take left piece) = omega arith in
    record {
      front = take left piece;
      back = drop left piece;
      cut = take-append-drop left piece;
      rest = omega arith;
      ends = with_skipped line (part ++ take left piece) refuse l (says ∙ ap (λ n. Skips refuse n) all) (ap Refused same)
          (append_assoc line (LF ∷ part) (take left piece));
    }

-- a step after the line of a refused request, of which `part` was skipped
pub skip_step : (line part : List ℕ) (refuse : Refuse) (left total : ℕ) (piece : List ℕ) (step : AskStep) → IsLine line
    → line_says line ≡ Skips refuse total → total ≡ length part + left → StepsSkip refuse left piece step
    → StepsAsk (line ++ LF ∷ part) piece (Ok step)
skip_step line part refuse left total piece (More (stage.Skip other more)) l says e p =
    more_skipped line part refuse other left total more piece l says e p.0 p.1 p.2
skip_step line part refuse left total piece (More (stage.Line start)) l says e p = absurd p
skip_step line part refuse left total piece (More (stage.Body store body)) l says e p = absurd p
skip_step line part refuse left total piece (More (stage.Cr store body)) l says e p = absurd p
skip_step line part refuse left total piece (More stage.Over) l says e p = absurd p
skip_step line part refuse left total piece (Done (ask.Refused other) unread) l says e p =
    all_skipped line part refuse other left total unread piece l says e p.0 p.1
skip_step line part refuse left total piece (Done (ask.One request noreply) unread) l says e p = absurd p
skip_step line part refuse left total piece (Done (ask.Many with_cas keys) unread) l says e p = absurd p
skip_step line part refuse left total piece (Done ask.Quit unread) l says e p = absurd p

-- ---- from a stage

pub on_chunk : (store : StoreLine) (part piece : List ℕ) (result : Result AskStep AskFault) → StepsChunk store part piece result
    → StepsFrom (InBlock store part) piece result
on_chunk store part piece result p text h =
    subst (λ u. StepsAsk u piece result) (sym h.cut) (chunk_step h.line store part piece result h.whole h.says p)

pub on_skip : (refuse : Refuse) (left : ℕ) (piece : List ℕ) (step : AskStep) → StepsSkip refuse left piece step
    → StepsFrom (Skipping refuse left) piece (Ok step)
on_skip refuse left piece step p text h =
    subst (λ u. StepsAsk u piece (Ok step)) (sym h.cut)
    (skip_step h.line h.part refuse left (length h.part + left) piece step h.whole h.says refl p)

-- ---- stages and counts that steps lead to

within : (E : List ℕ → Asking → Type 0) (text piece : List ℕ) (asked : Asking) (unread : ℕ) → EndsAt E text piece asked unread
    → unread ≤ length piece
within E text piece asked unread p =
    let n = length-append p.front p.back in
    let m = ap length p.cut in
    let k = p.rest in
    omega arith

pub valid_ask : (text piece : List ℕ) (result : Result AskStep AskFault) → StepsAsk text piece result → IfOk result (StepsValid piece)
valid_ask text piece (Ok (More s)) p = p.valid
valid_ask text piece (Ok (Done asked unread)) p = within AskEnds text piece (ask_of asked) unread p
valid_ask text piece (Err fault) p = tt

pub valid_chunk : (store : StoreLine) (text piece : List ℕ) (result : Result AskStep AskFault) → StepsChunk store text piece result
    → IfOk result (StepsValid piece)
valid_chunk store text piece (Ok (More s)) p = p.valid
valid_chunk store text piece (Ok (Done asked unread)) p = within (ChunkEnds store) text piece (ask_of asked) unread p
valid_chunk store text piece (Err fault) p = tt

pub valid_skip : (refuse : Refuse) (left : ℕ) (piece : List ℕ) (step : AskStep) → StepsSkip refuse left piece step
    → StepsValid piece step
valid_skip refuse left piece (More (stage.Skip other more)) p = p.1
valid_skip refuse left piece (More (stage.Line start)) p = absurd p
valid_skip refuse left piece (More (stage.Body store body)) p = absurd p
valid_skip refuse left piece (More (stage.Cr store body)) p = absurd p
valid_skip refuse left piece (More stage.Over) p = absurd p
valid_skip refuse left piece (Done (ask.Refused other) unread) p = let count = p.1 in omega arith
valid_skip refuse left piece (Done (ask.One request noreply) unread) p = absurd p
valid_skip refuse left piece (Done (ask.Many with_cas keys) unread) p = absurd p
valid_skip refuse left piece (Done ask.Quit unread) p = absurd p
