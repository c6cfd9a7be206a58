-- Histories that keep their recorded order: what was noted of the sections, in the order in which it happened.
use Rattle.std.specs.Prelude.{◌≡◌, ℕ, Bool, true, false, not, ◌&&◌, ◌||◌, Option, Some, None, List}
use Rattle.std.specs.Prelude.{[], ◌∷◌, ◌++◌, length, map, take, slice_get, get_or, if◌then◌else◌}
use Rattle.std.specs.List.{flat_map}
use Rattle.mc_model.specs.{Types.Actor, Types.Request, Types.Reply, Types.Sent, Types.Note, Types.HistoryKind, Sections.Sections}
use Rattle.mc_model.specs.{Sections.section_of, History.is_history, History.are_answered, History.comes_late, History.first_broken}
use Rattle.mc_protocol.specs.declared.actor.Actor.TheVariants as actor
use Rattle.mc_model.specs.declared.note.Note.TheVariants as note

-- a note with its section
abbrev pub Noted : Type 0
Noted = Actor × Note

-- ---- the sections that notes spell

abbrev pub is_same_section : Actor → Actor → Bool
is_same_section actor.P actor.P = true
is_same_section actor.A actor.A = true
is_same_section actor.B actor.B = true
is_same_section _ _ = false

-- the request that a note begins, if it is one of the section
abbrev pub begun_by : Actor → Noted → List Request
begun_by section (who, note.Begin request) = if is_same_section section who then request ∷ [] else []
begun_by section (who, note.Reply reply) = []

-- the reply that a note tells, if it is one to the section
abbrev pub replied_by : Actor → Noted → List Reply
replied_by section (who, note.Begin request) = []
replied_by section (who, note.Reply reply) = if is_same_section section who then reply ∷ [] else []

-- the requests of a section, in order
abbrev pub requests_in : Actor → List Noted → List Request
requests_in section notes = flat_map (begun_by section) notes

-- the replies to a section, in order
abbrev pub replies_in : Actor → List Noted → List Reply
replies_in section notes = flat_map (replied_by section) notes

-- the first reply answers the first request, and so on: the requests after the last reply have none
abbrev pub with_replies : List Request → List Reply → List Sent
with_replies [] replies = []
with_replies (request ∷ requests) [] = record { request = request; reply = None } ∷ with_replies requests []
with_replies (request ∷ requests) (reply ∷ replies) = record { request = request; reply = Some reply } ∷ with_replies requests replies

abbrev pub sent_in : Actor → List Noted → List Sent
sent_in section notes = with_replies (requests_in section notes) (replies_in section notes)

-- what each section sent and received by these notes
abbrev pub sections_in : List Noted → Sections
sections_in notes = record { p = sent_in actor.P notes; a = sent_in actor.A notes; b = sent_in actor.B notes }

-- ---- Order

-- a request of the section has no reply yet
abbrev pub is_waiting : Sections → Actor → Bool
is_waiting s section = not (are_answered (section_of s section))

-- what is noted next is out of order: a request while its section or P waits for a reply, a reply for which its section
-- does not wait, and anything of P after something of A or B
abbrev pub is_out_of_order : Sections → Noted → Bool
is_out_of_order s (section, note.Begin request) = is_waiting s section || is_waiting s actor.P || comes_late s section
is_out_of_order s (section, note.Reply reply) = not (is_waiting s section) || comes_late s section

-- none of these notes is out of order, after the earlier ones
abbrev pub are_in_order : List Noted → List Noted → Bool
are_in_order earlier [] = true
are_in_order earlier (noted ∷ notes) =
    not (is_out_of_order (sections_in earlier) noted) && are_in_order (earlier ++ noted ∷ []) notes

-- ---- Histories

-- notes that make a history: they are in order, and the sections that they spell are a history
unfoldable pub is_record : List Noted → Bool
is_record notes = are_in_order [] notes && is_history (sections_in notes)

-- what three sections sent and received, and the order of all that where it is known
pub record History : Type 0 where
  pub sections : Sections
  pub notes : Option (List Noted)

abbrev pub without_notes : Sections → History
without_notes s = record { sections = s; notes = None }

abbrev pub with_notes : List Noted → History
with_notes notes = record { sections = sections_in notes; notes = Some notes }

-- notes that are kept make a history, and spell its sections
abbrev pub Keeps : Sections → Option (List Noted) → Type 0
Keeps s None = Unit {0}
Keeps s (Some notes) = (is_record notes ≡ true) × (s ≡ sections_in notes)

pub record IsHistory (h : History) : Type 0 where
  pub sections : is_history h.sections ≡ true
  pub notes : Keeps h.sections h.notes

-- ---- Faults

-- what is wrong with what is noted next: the first rule that is broken with it
unfoldable pub fault_of : List Noted → Noted → Option HistoryKind
fault_of notes noted = first_broken (is_out_of_order (sections_in notes) noted) (sections_in (notes ++ noted ∷ []))

-- the notes before this place make a history, and the note there has this fault
pub record IsFirstFaultOfNotes (notes : List Noted) (kind : HistoryKind) (section : Actor) (place : ℕ) : Type 0 where
  pub history : is_record (take place notes) ≡ true
  pub note : Note
  pub noted : slice_get notes place ≡ Some (section, note)
  pub fault : fault_of (take place notes) (section, note) ≡ Some kind

-- ---- The recorded order

-- a request of the section begins
abbrev pub begins : Actor → Noted → Bool
begins section (who, note.Begin request) = is_same_section section who
begins section (who, note.Reply reply) = false

-- for each request of the section, what was noted before it began
abbrev pub notes_before_each : Actor → List Noted → List (List Noted)
notes_before_each section [] = []
notes_before_each section (noted ∷ notes) =
    (if begins section noted then [] ∷ [] else []) ++ map (λ earlier. noted ∷ earlier) (notes_before_each section notes)

-- for each request of the section, how many of the other section's were answered before it began
abbrev pub answered_before_each : Actor → Actor → List Noted → List ℕ
answered_before_each section other notes = map (λ earlier. length (replies_in other earlier)) (notes_before_each section notes)

-- how many requests of the other branch were answered before the branch's request at this place began; 0 for P, whose
-- requests come before those of both branches, and where no notes are kept
abbrev pub answered_before : Option (List Noted) → Actor → ℕ → ℕ
answered_before None section place = 0
answered_before (Some notes) actor.P place = 0
answered_before (Some notes) actor.A place = get_or (answered_before_each actor.A actor.B notes) place 0
answered_before (Some notes) actor.B place = get_or (answered_before_each actor.B actor.A notes) place 0
