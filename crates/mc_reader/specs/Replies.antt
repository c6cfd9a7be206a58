-- The reply to a request, as it comes over the wire (protocol.txt): the texts that spell a reply, and the shortest texts at
-- which it fails. A line is judged at its LF, and a byte of data where it stands.
use Rattle.std.specs.Prelude.{◌≡◌, ℕ, ◌==◌, false, Result, Ok, Err, List, [], ◌∷◌, ◌++◌, length}
use Rattle.mc_protocol.specs.{Lines.Word, declared.reply.Reply.Reply, declared.request.Verb.Verb}
use Rattle.mc_protocol.specs.declared.reply.Reply.TheVariants as reply
use Rattle.mc_reader.specs.Lines.{CR, LF, IsLine, IsTooLong, line_says, end_says}
use Rattle.mc_reader.specs.declared.fault.ReadFault.TheVariants.{LineTooLong, DataNotEnded}
use Rattle.mc_reader.specs.declared.said.Said.TheVariants.{Whole, Hit}
use Rattle.mc_reader.specs.{declared.fault.ReadFault.ReadFault, declared.said.HitLine.HitLine, declared.said.Said.Said}

-- a reply or a fault
abbrev pub Outcome : Type 0
Outcome = Result Reply ReadFault

-- a line that is the whole reply, or at which it fails
abbrev pub said_whole : Outcome → Result Said ReadFault
said_whole (Ok r) = Ok (Whole r)
said_whole (Err fault) = Err fault

-- the hit that a first line announces, with its body
abbrev pub hit_of : HitLine → List ℕ → Reply
hit_of hit body = reply.Hit hit.flags body hit.cas

-- The last line of a hit ends here with this outcome: it is END, and the reply is whole, or it fails.
pub data LastLineEnds (hit : Reply) (text : List ℕ) (outcome : Outcome) : Type 0 where
  long_last : IsTooLong text → outcome ≡ Err LineTooLong → LastLineEnds hit text outcome
  last_line : (line : List ℕ) → IsLine line → outcome ≡ end_says hit line → text ≡ line ++ LF ∷ [] → LastLineEnds hit text outcome

-- What comes after the body of a hit ends here with this outcome: CR, LF, and the last line.
pub data BodyEnds (hit : Reply) (text : List ℕ) (outcome : Outcome) : Type 0 where
  not_cr : (byte : ℕ) → (byte == CR) ≡ false → text ≡ byte ∷ [] → outcome ≡ Err DataNotEnded → BodyEnds hit text outcome
  not_lf : (byte : ℕ) → (byte == LF) ≡ false → text ≡ CR ∷ byte ∷ [] → outcome ≡ Err DataNotEnded → BodyEnds hit text outcome
  after_crlf : (last : List ℕ) → LastLineEnds hit last outcome → text ≡ CR ∷ LF ∷ last → BodyEnds hit text outcome

-- What comes after the first line of a hit ends here with this outcome: the body has as many bytes as the line says, any
-- bytes, and what comes after it ends.
pub record BlockEnds (line : HitLine) (text : List ℕ) (outcome : Outcome) : Type 0 where
  pub body : List ℕ
  pub rest : List ℕ
  pub whole : length body ≡ line.body_len
  pub cut : text ≡ body ++ rest
  pub ends : BodyEnds (hit_of line body) rest outcome

-- The reply to a request of this verb and key ends here with this outcome: where its first line is too long, at the LF of its
-- one line, or in the block after its first line.
pub data Ends (verb : Verb) (key : Word) (text : List ℕ) (outcome : Outcome) : Type 0 where
  too_long : IsTooLong text → outcome ≡ Err LineTooLong → Ends verb key text outcome
  one_line : (line : List ℕ) → IsLine line → line_says verb key line ≡ said_whole outcome → text ≡ line ++ LF ∷ []
      → Ends verb key text outcome
  with_block : (line block : List ℕ) (hit : HitLine) → IsLine line → line_says verb key line ≡ Ok (Hit hit)
      → BlockEnds hit block outcome → text ≡ line ++ LF ∷ block → Ends verb key text outcome

-- the text spells the reply
abbrev pub Spells : Verb → Word → List ℕ → Reply → Type 0
Spells verb key text r = Ends verb key text (Ok r)

-- the text is the shortest prefix at which the reply fails so
abbrev pub Fails : Verb → Word → List ℕ → ReadFault → Type 0
Fails verb key text fault = Ends verb key text (Err fault)

-- no prefix of the text spells a reply or fails
abbrev pub IsUnfinished : Verb → Word → List ℕ → Type 0
IsUnfinished verb key text = (front back : List ℕ) (outcome : Outcome) → front ++ back ≡ text → Ends verb key front outcome → ⊥

-- some prefix of the text fails so
pub record HasFailed (verb : Verb) (key : Word) (text : List ℕ) (fault : ReadFault) : Type 0 where
  pub front : List ℕ
  pub back : List ℕ
  pub cut : front ++ back ≡ text
  pub fails : Fails verb key front fault
