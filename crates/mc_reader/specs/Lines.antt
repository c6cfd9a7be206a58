-- The lines of a reply, and what they say. What a line is holds for requests too.
use Rattle.std.specs.Prelude.{◌≡◌, ℕ, ◌==◌, ◌<◌, Bool, false, Option, Some, None, Result, Ok, Err, List, [], ◌∷◌, length, if◌then◌else◌}
use Rattle.std.specs.{List.list_any, Borrow.Bor, Option.option_map}
use Rattle.mc_protocol.specs.{Lines.Word, declared.reply.Reply.Reply, declared.request.Verb.Verb}
use Rattle.mc_reader.specs.declared.fault.ReadFault.TheVariants.{NotAReply}
use Rattle.mc_reader.specs.declared.limits.TheConstants.{LINE_LIMIT}
use Rattle.mc_reader.specs.{Words.text_says, Words.end_fault, declared.fault.ReadFault.ReadFault, declared.said.Said.Said}

-- a line ends with CR LF
abbrev pub CR : ℕ
CR = 13

abbrev pub LF : ℕ
LF = 10

-- an LF stands among the bytes
abbrev pub has_end : List ℕ → Bool
has_end bytes = list_any (λ byte. byte == LF) bytes

-- a line without its LF, or the front of one: it has no LF, and room for one within the limit
pub record IsLine (line : List ℕ) : Type 0 where
  pub one : has_end line ≡ false
  pub short : length line < LINE_LIMIT

-- as many bytes as a line may have, and no LF among them
pub record IsTooLong (bytes : List ℕ) : Type 0 where
  pub one : has_end bytes ≡ false
  pub full : length bytes ≡ LINE_LIMIT

-- the bytes before the CR that ends the line, or none where another byte ends it
abbrev pub text_of : List ℕ → Option (List ℕ)
text_of [] = None
text_of (byte ∷ []) = if byte == CR then Some [] else None
text_of (byte ∷ next ∷ bytes) = option_map (λ text. byte ∷ text) (text_of (next ∷ bytes))

abbrev pub says_of_text : Verb → Word → Option (List ℕ) → Result Said ReadFault
says_of_text verb key None = Err NotAReply
says_of_text verb key (Some text) = text_says verb key text

-- what a line says to a request of this verb and key
abbrev pub line_says : Verb → Word → List ℕ → Result Said ReadFault
line_says verb key line = says_of_text verb key (text_of line)

abbrev pub end_fault_of_text : Option (List ℕ) → Option ReadFault
end_fault_of_text None = Some NotAReply
end_fault_of_text (Some text) = end_fault text

abbrev pub outcome_after : Reply → Option ReadFault → Result Reply ReadFault
outcome_after reply None = Ok reply
outcome_after reply (Some fault) = Err fault

-- what a line says after the block of a hit: END, and the reply is whole
abbrev pub end_says : Reply → List ℕ → Result Reply ReadFault
end_says reply line = outcome_after reply (end_fault_of_text (text_of line))

-- the text of a line: all but a CR at its end
abbrev pub IsTextOf : List ℕ → Option (Bor (List ℕ)) → Type 0
IsTextOf line found = text_of line ≡ option_map (λ text. text.now) found
