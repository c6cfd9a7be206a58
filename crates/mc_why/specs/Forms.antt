-- The replies that would be explained at a place.
use Rattle.std.specs.Prelude.{◌≡◌, ◌≤◌, ℕ, Bool, true, not, Option, Some, None, List, [], ◌∷◌, ◌++◌, length, take, slice_get}
use Rattle.std.specs.{List.All, Option.option_map_or}
use Rattle.mc_protocol.specs.{declared.actor.Actor.Actor, declared.reply.Reply.Reply}
use Rattle.mc_protocol.specs.declared.reply.Reply.TheVariants as replies
use Rattle.mc_model.specs.declared.note.Note.TheVariants as note
use Rattle.mc_model.specs.{declared.sent.Sent.Sent, History.every, History.shows_number, Notes.History, Notes.IsHistory, Notes.Noted}
use Rattle.mc_model.specs.{Notes.with_notes, Notes.without_notes, Sections.Sections, Sections.section_of, Sections.with_sent}
use Rattle.mc_history.specs.Claim.{Claim}
use Rattle.mc_claims.specs.Explains.{Explains}
use Rattle.mc_why.specs.{Cuts.cut, Cuts.first_requests, WhyText.request_place, declared.form.Form.Form}
use Rattle.mc_why.specs.declared.form.Form.TheVariants as form

-- the note, with this reply
abbrev pub note_with : Reply → Option Noted → List Noted
note_with reply noted = option_map_or (λ n. (n.0, note.Reply reply) ∷ []) noted []

-- with a request of the section that is answered by this reply
abbrev pub answered_by : Reply → Sections → Actor → Option Sent → Sections
answered_by reply s section None = s
answered_by reply s section (Some sent) = with_sent s section (record { request = sent.request; reply = Some reply })

abbrev pub request_at : Sections → Actor × ℕ → Option Sent
request_at s (section, place) = slice_get (section_of s section) place

abbrev pub replied_of : Reply → ℕ → Option (List Noted) → Sections → History
replied_of reply n None s =
    without_notes (answered_by reply (first_requests n s) (request_place s n).0 (request_at s (request_place s n)))
replied_of reply n (Some notes) s = with_notes (take n notes ++ note_with reply (slice_get notes n))

-- what stands before a place, and there this reply in place of the one that came
abbrev pub replied : Reply → ℕ → History → History
replied reply n h = replied_of reply n h.notes h.sections

-- the history with this reply at the place is one, and has an explanation
pub record WouldBeExplained (h : History) (place : ℕ) (reply : Reply) : Type 0 where
  pub history : IsHistory (replied reply place h)
  pub claim : Claim
  pub explains : Explains (replied reply place h) claim

-- no reply of the history shows the number
abbrev pub shows_nowhere : ℕ → History → Bool
shows_nowhere number h = every (λ sent. not (shows_number number sent.reply)) h.sections

-- the form is one of replies that would be explained; a number that is called new was not shown before the place
abbrev pub IsForm : History → ℕ → Form → Type 0
IsForm h place (form.Reply reply) = WouldBeExplained h place reply
IsForm h place (form.NewNumber flags body number) =
    WouldBeExplained h place (replies.Hit flags body (Some number)) × (shows_nowhere number (cut place h) ≡ true)

-- at most four forms
abbrev pub AreFormsAt : History → ℕ → List Form → Type 0
AreFormsAt h place forms = All (IsForm h place) forms × (length forms ≤ 4)
