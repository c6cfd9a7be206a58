-- The lines of a history's requests and of its notes: what a text spells is what is read of it, line by line.
use Rattle.std.proofs.Common.{◌≡◌, ◌↔◌, true, Option, Some, None, ℕ, List, [], ◌∷◌, ◌++◌, get_or, refl, sym, ap, subst, ◌∙◌, append_assoc, arith}
use Rattle.mc_protocol.specs.{declared.lines.Separator.TheVariants.Space, Lines.words_of_text, Lines.Words}
use Rattle.mc_protocol.proofs.FirstItems.{head_is, rest_is}
use Rattle.mc_model.specs.Notes.{Noted, History, IsHistory, with_notes, without_notes, is_record}
use Rattle.mc_model.specs.{Sections.Sections, Sections.with_sent, Sections.no_sections, History.is_history, History.comes_late}
use Rattle.mc_model.proofs.{Faults.no_fault, Faults.no_fault_of, NoteFaults.record_shorter, NoteFaults.no_fault_within}
use Rattle.mc_history.specs.HistoryText.{SpellsSent, SpellsNoted, SpellsTail, SpellsHistory, SpellsOneHistory, with_turns, requests_header, notes_header}
use Rattle.mc_history.specs.Parts.{turns, notes, AfterBody, SpellsOn, header_of}
use Rattle.mc_history.specs.{declared.lines.Version.Version, Claim.Claim, Turns.Turn}
use Rattle.mc_history.specs.declared.lines.Version.TheVariants as version
use Rattle.mc_history.proofs.Reading.{IsReadable, Along, after, after_listed, series_of, parts_of, one_series}
use Rattle.mc_history.proofs.LineLemmas.{one_line, one_sent, one_noted, no_tail_at_actor, no_tail_of_nothing}
use Rattle.mc_history.proofs.ClaimLines.{one_tail}
use Rattle.mc_history.proofs.HistoryLemmas.{split_and, begun_is_history, keeps_order, keeps_order-no_sections}

-- ---- line by line

pub turns_are_readable : IsReadable turns (AfterBody without_notes)
turns_are_readable = record {
  one = one_line SpellsSent one_sent;
  apart = λ r s line lines turn spelled h. no_tail_at_actor turn.0 spelled.0 line lines r.1 spelled.1 h.2;
  goes_on = λ r s h. no_tail_of_nothing r.1 h.2;
}

pub notes_are_readable : IsReadable notes (AfterBody with_notes)
notes_are_readable = record {
  one = one_line SpellsNoted one_noted;
  apart = λ r s line lines noted spelled h. no_tail_at_actor noted.0 spelled.0 line lines r.1 spelled.1 h.2;
  goes_on = λ r s h. no_tail_of_nothing r.1 h.2;
}

-- sections make a history without notes
pub alone_is_history : (s : Sections) → is_history s ≡ true → IsHistory (without_notes s)
alone_is_history s h = record { sections = h; notes = tt }

-- the history of the lines that were read is the one that is spelled
pub body_read : {S : Type 0} {P : History × Option Claim → Type 0} (history_of : S → History) (s : S) (lines : List Words) (h : History)
    → h ≡ history_of s → IsHistory h → ((r : History × Option Claim) → P r ↔ AfterBody history_of r s lines)
    → (r : History × Option Claim) → P r ↔ ((r.0 ≡ h) × SpellsTail lines r.1)
body_read history_of s lines h is history read r = (
  (λ p. let x = (read r).0 p in (x.0 ∙ sym is, x.2)),
  (λ x. (read r).1 (x.0 ∙ is, subst IsHistory (sym x.0) history, x.1)),
)

-- ---- the turns of a history have no faults

along_turns : (s : Sections) (ts : List Turn) → keeps_order s ts ≡ true → is_history (with_turns s ts) ≡ true → Along turns s ts
along_turns s [] order h = tt
along_turns s (turn ∷ ts) order h =
    let both = split_and (comes_late s turn.0) (keeps_order (with_sent s turn.0 turn.1) ts) order in
    (no_fault_of s turn.0 turn.1 both.0 (begun_is_history ts (with_sent s turn.0 turn.1) both.1 h), along_turns (with_sent s turn.0 turn.1) ts both.1 h)

order_along : (s : Sections) (ts : List Turn) → Along turns s ts → keeps_order s ts ≡ true
order_along s [] may = refl
order_along s (turn ∷ ts) may = rw (no_fault s turn.0 turn.1 may.0).0 (order_along (with_sent s turn.0 turn.1) ts may.1)

after_turns : (s : Sections) (ts : List Turn) → after turns s ts ≡ with_turns s ts
unfolding after
after_turns s [] = refl
after_turns s (turn ∷ ts) = after_turns (with_sent s turn.0 turn.1) ts

-- nor have its notes
along_notes : (begun others : List Noted) → is_record (begun ++ others) ≡ true → Along notes begun others
along_notes begun [] r = tt
along_notes begun (next ∷ others) r =
    let moved : is_record ((begun ++ next ∷ []) ++ others) ≡ true = rw append_assoc r in
    (no_fault_within begun next (record_shorter (begun ++ next ∷ []) others moved), along_notes (begun ++ next ∷ []) others moved)

-- ---- the whole text

-- a text is its header, and what is spelled after it
pub history_from_lines : (v : Version) (text : List ℕ) (lines : List Words) (h : History) (claim : Option Claim)
    → words_of_text Space text ≡ header_of v ∷ lines → SpellsOn v lines (h, claim) → SpellsHistory text h claim
history_from_lines version.Requests text lines h claim e o =
    let p = parts_of turns (AfterBody without_notes (h, claim)) no_sections lines o in
    subst (λ i. SpellsHistory text i claim) (sym p.followed.0) (record {
      body = requests_header ∷ p.their;
      tail = p.tail;
      lines = e ∙ ap (λ ls. requests_header ∷ ls) p.lines_are;
      spelled = record {
        requests = p.their;
        turns = p.items;
        lines_are = refl;
        spelled = p.each;
        prefix_first = sym (keeps_order-no_sections p.items) ∙ order_along no_sections p.items p.may;
        sections = after_turns no_sections p.items;
      };
      history = subst IsHistory p.followed.0 p.followed.1;
      followed = p.followed.2;
    })
history_from_lines version.Notes text lines h claim e o =
    let p = parts_of notes (AfterBody with_notes (h, claim)) [] lines o in
    let is = p.followed.0 ∙ ap with_notes (after_listed _ _ [] p.items) in
    subst (λ i. SpellsHistory text i claim) (sym is) (record {
      body = notes_header ∷ p.their;
      tail = p.tail;
      lines = e ∙ ap (λ ls. notes_header ∷ ls) p.lines_are;
      spelled = (p.their, refl, p.each);
      history = subst IsHistory is p.followed.1;
      followed = p.followed.2;
    })

headers_differ : (xs ys : List Words) → requests_header ∷ xs ≡ notes_header ∷ ys → ⊥
headers_differ xs ys e =
    let same : 49 ≡ 50 = ap (λ ws. get_or (get_or ws 1 []) 0 0) (head_is requests_header notes_header xs ys e) in absurd (omega (arith, same))

from_history : (v : Version) (text : List ℕ) (lines : List Words) (s : Sections) (kept : Option (List Noted)) (claim : Option Claim)
    → words_of_text Space text ≡ header_of v ∷ lines → SpellsHistory text (record { sections = s; notes = kept }) claim
    → SpellsOn v lines (record { sections = s; notes = kept }, claim)
from_history version.Requests text lines s None claim e h =
    let whole : is_history (with_turns no_sections h.spelled.turns) ≡ true = rw (← h.spelled.sections) h.history.sections in
    let may = along_turns no_sections h.spelled.turns (keeps_order-no_sections h.spelled.turns ∙ h.spelled.prefix_first) whole in
    rw (rest_is _ _ _ _ (sym e ∙ h.lines ∙ ap (λ b. b ++ h.tail) h.spelled.lines_are))
    (series_of turns (AfterBody without_notes (record { sections = s; notes = None }, claim)) no_sections h.spelled.requests h.tail h.spelled.turns
    h.spelled.spelled may (ap without_notes (h.spelled.sections ∙ sym (after_turns no_sections h.spelled.turns)), h.history, h.followed))
from_history version.Requests text lines s (Some noted) claim e h =
    absurd (headers_differ lines (h.spelled.0 ++ h.tail) (sym e ∙ h.lines ∙ ap (λ b. b ++ h.tail) h.spelled.1))
from_history version.Notes text lines s None claim e h =
    absurd (headers_differ (h.spelled.requests ++ h.tail) lines (sym (sym e ∙ h.lines ∙ ap (λ b. b ++ h.tail) h.spelled.lines_are)))
from_history version.Notes text lines s (Some noted) claim e h =
    let whole : Sections → History = λ t. record { sections = t; notes = Some noted } in
    rw (rest_is _ _ _ _ (sym e ∙ h.lines ∙ ap (λ b. b ++ h.tail) h.spelled.1))
    (series_of notes (AfterBody with_notes (record { sections = s; notes = Some noted }, claim)) [] h.spelled.0 h.tail noted
    h.spelled.2 (along_notes [] noted h.history.notes.0)
    (ap whole h.history.notes.1 ∙ ap with_notes (sym (after_listed _ _ [] noted)), h.history, h.followed))

-- what a text spells is what is spelled after its header
pub lines_from_history : (v : Version) (text : List ℕ) (lines : List Words) (r : History × Option Claim)
    → words_of_text Space text ≡ header_of v ∷ lines → SpellsHistory text r.0 r.1 → SpellsOn v lines r
lines_from_history v text lines r e f = from_history v text lines r.0.sections r.0.notes r.1 e f

-- a text without a header spells nothing
pub header_from_history : (text : List ℕ) (s : Sections) (kept : Option (List Noted)) (claim : Option Claim)
    → SpellsHistory text (record { sections = s; notes = kept }) claim
    → (v : Version) × (others : List Words) × (words_of_text Space text ≡ header_of v ∷ others)
header_from_history text s None claim h = (version.Requests, h.spelled.requests ++ h.tail, h.lines ∙ ap (λ b. b ++ h.tail) h.spelled.lines_are)
header_from_history text s (Some noted) claim h = (version.Notes, h.spelled.0 ++ h.tail, h.lines ∙ ap (λ b. b ++ h.tail) h.spelled.1)

-- the lines after a header spell one history, and one claim at most
one_body : (v : Version) (lines : List Words) (r q : History × Option Claim) → SpellsOn v lines r → SpellsOn v lines q → (r.0 ≡ q.0) × (r.1 ≡ q.1)
one_body version.Requests lines r q f g =
    let (s, rest, x, y) = one_series turns_are_readable r q no_sections lines f g in (x.0 ∙ sym y.0, one_tail rest r.1 q.1 x.2 y.2)
one_body version.Notes lines r q f g =
    let (s, rest, x, y) = one_series notes_are_readable r q [] lines f g in (x.0 ∙ sym y.0, one_tail rest r.1 q.1 x.2 y.2)

-- a text spells at most one history
pub text_spells_one_history : SpellsOneHistory
text_spells_one_history text h i c d f g =
    let (v, lines, e) = header_from_history text h.sections h.notes c f in
    one_body v lines (h, c) (i, d) (lines_from_history v text lines (h, c) e f) (lines_from_history v text lines (i, d) e g)
