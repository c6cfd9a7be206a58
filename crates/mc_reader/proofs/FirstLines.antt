-- Steps in the first line of a reply.
use Rattle.std.proofs.Common.{◌≡◌, ℕ, ◌+◌, Err, List, [], ◌∷◌, ◌++◌, length, take, drop, refl, sym, append_assoc}
use Rattle.mc_protocol.specs.{Lines.Word, declared.request.Verb.Verb}
use Rattle.mc_reader.specs.{Gathered.IsGathered, Gathered.GrowsTooLong, Lines.LF, Lines.line_says, Replies.Outcome, Replies.said_whole, Replies.Ends}
use Rattle.mc_reader.specs.{Replies.too_long, Replies.one_line, Steps.EndsAt, Steps.EndsWithin, declared.fault.ReadFault.TheVariants.LineTooLong}
use Rattle.mc_reader.proofs.Blocks.{line_in}

pub first_too_long : (verb : Verb) (key : Word) (start piece : List ℕ) → GrowsTooLong start piece
    → EndsWithin (Ends verb key) start piece (Err LineTooLong)
first_too_long verb key start piece g = record {
  unread = length g.back;
  at = record { front = g.front; back = g.back; cut = g.cut; rest = refl; ends = too_long g.long refl };
}

pub first_ends : (verb : Verb) (key : Word) (start after piece : List ℕ) (at : ℕ) (outcome : Outcome) → IsGathered start after piece at
    → line_says verb key (start ++ take at piece) ≡ said_whole outcome
    → EndsAt (Ends verb key) start piece outcome (length (drop (at + 1) piece))
first_ends verb key start after piece at outcome g says = record {
  front = take at piece ++ LF ∷ [];
  back = drop (at + 1) piece;
  cut = line_in piece at g.end_at;
  rest = refl;
  ends = one_line (start ++ take at piece) g.line says (sym (append_assoc start (take at piece) (LF ∷ [])));
}
