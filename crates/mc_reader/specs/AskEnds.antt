-- The requests that a server reads, as they come over the wire (protocol.txt): the texts that spell what is asked, and the shortest
-- texts at which a request is refused. A line is judged at its LF, and a byte after a body where it stands. What is skipped of a
-- refused request belongs to it, whatever its bytes are.
use Rattle.std.specs.Prelude.{◌≡◌, ℕ, ◌==◌, false, List, [], ◌∷◌, ◌++◌, length}
use Rattle.mc_protocol.specs.declared.request.Request.{Request}
use Rattle.mc_reader.specs.AskLines.{Whole, Block, Skips, line_says}
use Rattle.mc_reader.specs.declared.ask.Refuse.TheVariants.{BadChunk, LongLine}
use Rattle.mc_reader.specs.{Asks.Asking, Asks.One, Asks.Refused, Lines.CR, Lines.LF, Lines.IsLine, Lines.IsTooLong}
use Rattle.mc_reader.specs.{declared.ask.Refuse.Refuse, declared.ask_said.StoreLine.StoreLine}

-- the request of a line with this body
abbrev pub request_of : StoreLine → List ℕ → Request
request_of line body = record { verb = line.verb; key = line.key; flags = line.flags; body = body; number = line.number }

-- What comes after a body ends here, and this is asked: it is CR LF, or the first byte that differs.
pub data StoreEnds (line : StoreLine) (body text : List ℕ) (asked : Asking) : Type 0 where
  not_cr : (byte : ℕ) → (byte == CR) ≡ false → text ≡ byte ∷ [] → asked ≡ Refused BadChunk → StoreEnds line body text asked
  not_lf : (byte : ℕ) → (byte == LF) ≡ false → text ≡ CR ∷ byte ∷ [] → asked ≡ Refused BadChunk → StoreEnds line body text asked
  crlf : text ≡ CR ∷ LF ∷ [] → asked ≡ One (request_of line body) line.noreply → StoreEnds line body text asked

-- What comes after the line of a request ends here, and this is asked: the body has as many bytes as the line says, any bytes,
-- and what comes after it ends.
pub record ChunkEnds (line : StoreLine) (text : List ℕ) (asked : Asking) : Type 0 where
  pub body : List ℕ
  pub rest : List ℕ
  pub whole : length body ≡ line.body_len
  pub cut : text ≡ body ++ rest
  pub ends : StoreEnds line body rest asked

-- A request ends here, and this is asked: where its line is too long, at the LF of its one line, in the block after its line, or
-- where all that is skipped after its line has come.
pub data AskEnds (text : List ℕ) (asked : Asking) : Type 0 where
  too_long : IsTooLong text → asked ≡ Refused LongLine → AskEnds text asked
  one_line : (line : List ℕ) → IsLine line → line_says line ≡ Whole asked → text ≡ line ++ LF ∷ [] → AskEnds text asked
  with_block : (line chunk : List ℕ) (store : StoreLine) → IsLine line → line_says line ≡ Block store → ChunkEnds store chunk asked
      → text ≡ line ++ LF ∷ chunk → AskEnds text asked
  with_skipped : (line skipped : List ℕ) (refuse : Refuse) → IsLine line → line_says line ≡ Skips refuse (length skipped)
      → asked ≡ Refused refuse → text ≡ line ++ LF ∷ skipped → AskEnds text asked

-- no prefix of the text is a whole request, or refused
abbrev pub IsAskUnfinished : List ℕ → Type 0
IsAskUnfinished text = (front back : List ℕ) (asked : Asking) → front ++ back ≡ text → AskEnds front asked → ⊥
