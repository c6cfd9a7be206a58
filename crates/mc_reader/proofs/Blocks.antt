-- Steps in what comes after the first line of a hit.
use Rattle.std.proofs.Common.{◌≡◌, ℕ, ◌+◌, ◌==◌, Bool, true, false, Some, None, Ok, Err, List, []}
use Rattle.std.proofs.Common.{◌∷◌, ◌++◌, length, take, drop, refl, sym, ap, ◌∙◌, append_assoc}
use Rattle.std.proofs.lemmas.Bool.{eqb-true}
use Rattle.mc_protocol.specs.declared.reply.Reply.{Reply}
use Rattle.mc_reader.specs.Lines.{CR, LF, text_of, end_says, end_fault_of_text, outcome_after}
use Rattle.mc_reader.specs.Replies.{Outcome, hit_of, LastLineEnds, long_last, last_line, not_cr, not_lf, after_crlf, BlockEnds}
use Rattle.mc_reader.specs.{Gathered.IsFirstEnd, Gathered.IsGathered, Gathered.GrowsTooLong, Steps.EndsAt, Steps.EndsWithin, declared.fault.ReadFault.ReadFault}
use Rattle.mc_reader.specs.{declared.fault.ReadFault.TheVariants.LineTooLong, declared.fault.ReadFault.TheVariants.DataNotEnded, declared.said.HitLine.HitLine}

-- a byte after the body that isn't CR
pub stray_cr : (hit : HitLine) (body piece rest : List ℕ) (byte : ℕ) → length body ≡ hit.body_len → (byte == CR) ≡ false
    → piece ≡ byte ∷ rest → EndsWithin (BlockEnds hit) body piece (Err DataNotEnded)
stray_cr hit body piece rest byte whole h e = record {
  unread = length rest;
  at = record {
    front = byte ∷ [];
    back = rest;
    cut = sym e;
    rest = refl;
    ends = record { body = body; rest = byte ∷ []; whole = whole; cut = refl; ends = not_cr byte h refl refl };
  };
}

-- a byte after the CR that isn't LF
pub stray_lf : (hit : HitLine) (body piece rest : List ℕ) (byte : ℕ) → length body ≡ hit.body_len → (byte == LF) ≡ false
    → piece ≡ byte ∷ rest → EndsWithin (BlockEnds hit) (body ++ CR ∷ []) piece (Err DataNotEnded)
stray_lf hit body piece rest byte whole h e = record {
  unread = length rest;
  at = record {
    front = byte ∷ [];
    back = rest;
    cut = sym e;
    rest = refl;
    ends = record {
      body = body;
      rest = CR ∷ byte ∷ [];
      whole = whole;
      cut = append_assoc body (CR ∷ []) (byte ∷ []);
      ends = not_lf byte h refl refl;
    };
  };
}

-- the last line ends
after_body : (hit : HitLine) (body start front : List ℕ) (outcome : Outcome) → length body ≡ hit.body_len
    → LastLineEnds (hit_of hit body) (start ++ front) outcome → BlockEnds hit ((body ++ CR ∷ LF ∷ start) ++ front) outcome
after_body hit body start front outcome whole p = record {
  body = body;
  rest = CR ∷ LF ∷ (start ++ front);
  whole = whole;
  cut = append_assoc body (CR ∷ LF ∷ start) front;
  ends = after_crlf (start ++ front) p refl;
}

pub last_too_long : (hit : HitLine) (body start piece : List ℕ) → length body ≡ hit.body_len → GrowsTooLong start piece
    → EndsWithin (BlockEnds hit) (body ++ CR ∷ LF ∷ start) piece (Err LineTooLong)
last_too_long hit body start piece whole g = record {
  unread = length g.back;
  at = record {
    front = g.front;
    back = g.back;
    cut = g.cut;
    rest = refl;
    ends = after_body hit body start g.front (Err LineTooLong) whole (long_last g.long refl);
  };
}

-- a line with its LF, which stands in the piece
pub line_in : (piece : List ℕ) (at : ℕ) → IsFirstEnd piece at → (take at piece ++ LF ∷ []) ++ drop (at + 1) piece ≡ piece
line_in piece at e = append_assoc (take at piece) (LF ∷ []) (drop (at + 1) piece) ∙ e.cut

pub last_ends : (hit : HitLine) (body start after piece : List ℕ) (at : ℕ) (outcome : Outcome) → length body ≡ hit.body_len
    → IsGathered start after piece at → outcome ≡ end_says (hit_of hit body) (start ++ take at piece)
    → EndsAt (BlockEnds hit) (body ++ CR ∷ LF ∷ start) piece outcome (length (drop (at + 1) piece))
last_ends hit body start after piece at outcome whole g says = record {
  front = take at piece ++ LF ∷ [];
  back = drop (at + 1) piece;
  cut = line_in piece at g.end_at;
  rest = refl;
  ends = after_body hit body start (take at piece ++ LF ∷ []) outcome whole
      (last_line (start ++ take at piece) g.line says (sym (append_assoc start (take at piece) (LF ∷ []))));
}

-- what it says, by what is wrong with it
pub end_is : (hit : Reply) (line : List ℕ) → end_fault_of_text (text_of line) ≡ None → Ok hit ≡ end_says hit line
end_is hit line e = sym (ap (outcome_after hit) e)

pub end_fails : (hit : Reply) (line : List ℕ) (fault : ReadFault) → end_fault_of_text (text_of line) ≡ Some fault
    → Err fault ≡ end_says hit line
end_fails hit line fault e = sym (ap (outcome_after hit) e)

pub not_true : (b : Bool) → (b ≡ true → ⊥) → b ≡ false
not_true true h = absurd (h refl)
not_true false h = refl

-- a byte that isn't this one
pub not_byte : (byte other : ℕ) → (byte ≡ other → ⊥) → (byte == other) ≡ false
not_byte byte other h = not_true (byte == other) (λ e. h (eqb-true byte other e))
