-- The printed text of a timeline, and that it spells the timeline.
use Rattle.std.proofs.Common.{◌≡◌, ◌<◌, ◌≤◌, ◌^◌, ◌==◌, ℕ, Bool, true, false, not, ◌&&◌, Option, Some, None, List, [], ◌∷◌, ◌++◌}
use Rattle.std.proofs.Common.{map, codes, decimal, length, refl, sym, ap, ◌∙◌, arith, append_assoc, append-nil, eqb, eqb-true, nat_le}
use Rattle.std.proofs.lemmas.List.Elements.{All-cons, All-push, All-from_recursion}
use Rattle.std.proofs.{lemmas.Bool.and_parts, lemmas.Bool.and_from, lemmas.Bool.leb-true, lemmas.Grind.flat_map-append, lemmas.List.Folds.flat_map-map}
use Rattle.std.specs.Prelude.{if◌then◌else◌}
use Rattle.std.specs.List.{All, AllByRecursion, flat_map}
use Rattle.mc_protocol.specs.declared.{request.Request.Request, reply.Reply.Reply, lines.Separator.TheVariants.Space}
use Rattle.mc_protocol.specs.Decimals.{MAX_64, is_digit, are_digits}
use Rattle.mc_protocol.specs.declared.reply.Reply.TheVariants as replies
use Rattle.mc_protocol.specs.{Lines.Word, Lines.is_skipped, Legal.is_fit}
use Rattle.mc_protocol.proofs.Decimals.{decimal-spells}
use Rattle.mc_words.specs.Words.{request_words, reply_words, join_words}
use Rattle.mc_model.specs.{declared.rules.HistoryKind.HistoryKind, History.has_words}
use Rattle.mc_words.specs.{WordLaws.is_whole, WordLaws.are_whole}
use Rattle.mc_model.specs.declared.rules.HistoryKind.TheVariants as kind
use Rattle.mc_model.specs.declared.note.Note.TheVariants as note
use Rattle.mc_words.proofs.WholeWords.{request-whole, reply-whole}
use Rattle.mc_history.specs.{HistoryText.end_line, PrintedHistory.line_text, PrintedParts.MayBeNoted, PrintedParts.NoteSpellsItself}
use Rattle.mc_history.proofs.PrintedLines.{IsLine, counts_from, lines_fall_apart, lines_of_items}
use Rattle.mc_history.proofs.PrintedHistory.{last_line}
use Rattle.mc_timeline.specs.TimelineText.{SpellsClientNote, SpellsTimeline, timeline_header, client_note_words, timeline_text}
use Rattle.mc_timeline.specs.{Operations.Operation, Timelines.ClientNote, Timelines.operations_of, PrintedNotes.MaySpellItself, PrintedNotes.notes_text}
use Rattle.mc_timeline.specs.Rules as rule

-- ---- the text

pub text_parts : (notes : List ClientNote) → (line_text timeline_header ++ notes_text notes) ++ line_text end_line ≡ timeline_text notes
text_parts notes =
    append_assoc (line_text timeline_header) (notes_text notes) (line_text end_line)
    ∙ ap (λ t. line_text timeline_header ++ t)
    (ap (λ t. t ++ line_text end_line) (sym (flat_map-map line_text client_note_words notes))
    ∙ ap (λ t. flat_map line_text (map client_note_words notes) ++ t) (sym (append-nil (line_text end_line)))
    ∙ sym (flat_map-append line_text (map client_note_words notes) (end_line ∷ [])))

-- ---- a line

apart : (byte k : ℕ) → k < byte → (byte == k) ≡ false
apart byte k less = by (eqb byte k) refl
  where
    by : (b : Bool) → eqb byte k ≡ b → b ≡ false
    by false e = refl
    by true e = let same = eqb-true byte k e in absurd (omega arith)

number_counts : (n : ℕ) (words : List Word) → n < 2 ^ 64 → is_skipped Space (join_words (decimal n ∷ words)) ≡ false
number_counts n words small =
    let s = decimal-spells MAX_64 n (omega arith) (omega (arith, small)) in
    by (decimal n) s.some s.digits
  where
    by : (w : Word) → not (length w == 0) ≡ true → are_digits w ≡ true → is_skipped Space (join_words (w ∷ words)) ≡ false
    by [] some digits = absurd (cc)
    by (byte ∷ bytes) some digits =
        let first = (and_parts (is_digit byte) (are_digits bytes) digits).0 in
        let low : 48 ≤ byte = leb-true 48 byte (and_parts (nat_le 48 byte) (nat_le byte 57) first).0 in
        counts_from byte bytes words (apart byte 35 (omega arith)) (apart byte 32 (omega arith))

-- a number stands in a reply, whose words are whole
number-whole : (n : ℕ) → n < 2 ^ 64 → is_whole (decimal n) ≡ true
number-whole n small =
    let all = reply-whole (codes "NUMBER" ∷ decimal n ∷ []) (replies.Number n)
    (decimal n, refl, decimal-spells MAX_64 n (omega arith) (omega (arith, small))) in
    (and_parts (is_whole (decimal n)) true (and_parts true (is_whole (decimal n) && true) all).1).0

abbrev SpellsItself : ClientNote → Type 0
SpellsItself noted = (noted.0 < 2 ^ 64) × NoteSpellsItself noted.1

note_line : (noted : ClientNote) → SpellsItself noted → SpellsClientNote (client_note_words noted) noted × IsLine (client_note_words noted)
note_line (client, note.Begin request) h = (
  (_, refl, (request_words request, refl, h.1)),
  record {
    whole = and_from (is_whole (decimal client)) (are_whole (codes "begin" ∷ request_words request)) (number-whole client h.0)
        (request-whole (request_words request) request h.1);
    counts = number_counts client (codes "begin" ∷ request_words request) h.0;
  },
)
note_line (client, note.Reply reply) h = (
  (_, refl, (reply_words reply, refl, h.1)),
  record {
    whole = and_from (is_whole (decimal client)) (are_whole (codes "reply" ∷ reply_words reply)) (number-whole client h.0)
        (reply-whole (reply_words reply) reply h.1);
    counts = number_counts client (codes "reply" ∷ reply_words reply) h.0;
  },
)

-- ---- a note of a timeline may stand in a history

has_its_words : (w : Bool) (rest : Option HistoryKind) → (if not w then Some kind.Line else rest) ≡ None → w ≡ true
has_its_words true rest e = refl
has_its_words false rest e = absurd (cc)

fits_one : (xs : List Operation) (reply : Reply) → rule.reply_fault xs reply ≡ None → (request : Request) × (is_fit request reply ≡ true)
fits_one [] reply e = absurd (cc)
fits_one (x ∷ xs) reply e = (x.request, by (is_fit x.request reply) e)
  where
    by : (b : Bool) → (if b then None else Some kind.WrongReply) ≡ None → b ≡ true
    by true e = refl
    by false e = absurd (cc)

noted_along : (earlier notes : List ClientNote) → rule.KeepRules earlier notes → AllByRecursion (λ (noted : ClientNote). MayBeNoted noted.1) notes
noted_along earlier [] k = tt
noted_along earlier ((who, note.Begin request) ∷ notes) k =
    (has_its_words (has_words request) _ k.0, noted_along (earlier ++ (who, note.Begin request) ∷ []) notes k.1)
noted_along earlier ((who, note.Reply reply) ∷ notes) k = (
  fits_one (rule.waiting_of who (operations_of earlier)) reply k.0,
  noted_along (earlier ++ (who, note.Reply reply) ∷ []) notes k.1,
)

-- ---- the text spells the timeline

pub printed_timeline : (notes : List ClientNote) → rule.IsTimeline notes → All MaySpellItself notes → SpellsTimeline (timeline_text notes) notes
printed_timeline notes timeline may =
    let noted = All-from_recursion (λ (n : ClientNote). MayBeNoted n.1) notes (noted_along [] notes timeline) in
    let fine : All SpellsItself notes = λ k d l. ((may k d l).0, (may k d l).1 (noted k d l)) in
    let all = lines_of_items SpellsClientNote client_note_words SpellsItself note_line notes fine in
    let lines = map client_note_words notes in
    let front = All-cons IsLine timeline_header lines (record { whole = refl; counts = refl }) all.1 in
    record {
      noted = lines;
      lines = lines_fall_apart (timeline_header ∷ lines ++ end_line ∷ []) (All-push IsLine (timeline_header ∷ lines) end_line front last_line);
      spelled = all.0;
      timeline = timeline;
    }
