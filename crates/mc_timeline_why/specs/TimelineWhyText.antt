-- What is printed of why nothing explains the requests of a timeline on one key.
use Rattle.std.specs.Prelude.{ℕ, ◌+◌, Bool, ◌||◌, eqb, cond, if◌then◌else◌, Option, Some, None}
use Rattle.std.specs.Prelude.{List, [], ◌∷◌, ◌++◌, codes, decimal, drop, slice_get, bytes_eq}
use Rattle.std.specs.List.{flat_map}
use Rattle.mc_protocol.specs.{Lines.Words, declared.request.Request.Request, declared.reply.Reply.Reply}
use Rattle.mc_model.specs.declared.note.Note.TheVariants as note
use Rattle.mc_words.specs.Words.{join_words, request_words}
use Rattle.mc_history.specs.{HistoryText.marks_of, PrintedHistory.answer_words, PrintedHistory.line_text, PrintedHistory.start_words}
use Rattle.mc_timeline.specs.{Timelines.ClientNote, TimelineText.client_note_words}
use Rattle.mc_linearize.specs.{declared.explanation.TimelineMove.TimelineMove, Claims.TimelineClaim}
use Rattle.mc_timeline_why.specs.{Fronts.front, declared.cause.TimelineFinding.TimelineFinding}
use Rattle.mc_timeline_why.specs.declared.cause.TimelineFinding.TheVariants as finding

-- ---- the moves, each with its request and reply

-- where the client's next request begins, from these notes on, of which the first has this place
abbrev pub next_place : ℕ → ℕ → List ClientNote → Option ℕ
next_place client place [] = None
next_place client place ((who, note.Begin request) ∷ notes) = cond (eqb who client) (Some place) (next_place client (place + 1) notes)
next_place client place ((who, note.Reply reply) ∷ notes) = next_place client (place + 1) notes

-- the first reply to the client
abbrev pub first_reply : ℕ → List ClientNote → Option Reply
first_reply client [] = None
first_reply client ((who, note.Begin request) ∷ notes) = first_reply client notes
first_reply client ((who, note.Reply reply) ∷ notes) = cond (eqb who client) (Some reply) (first_reply client notes)

-- a key that reads as a mark of a move
abbrev pub is_mark : List ℕ → Bool
is_mark key = bytes_eq key (codes "pad") || bytes_eq key (codes "refuse")

-- the request with its reply, if the key reads as no mark
abbrev pub asked_text : Request → Option Reply → List ℕ
asked_text request reply =
    if is_mark request.key then []
    else codes "  " ++ (join_words (request_words request) ++ (codes " -> " ++ join_words (answer_words reply)))

-- the request that the first of these notes begins, with the reply that comes in the others
abbrev pub begun_text : List ClientNote → List ℕ
begun_text [] = []
begun_text ((who, note.Begin request) ∷ notes) = asked_text request (first_reply who notes)
begun_text ((who, note.Reply reply) ∷ notes) = []

abbrev pub beside_text : List ClientNote → Option ℕ → List ℕ
beside_text notes None = []
beside_text notes (Some place) = begun_text (drop place notes)

abbrev pub client_move_words : TimelineMove → Words
client_move_words move = decimal move.client ∷ decimal move.number ∷ marks_of move.choice

-- for each client the place from which on its next request is looked for
abbrev pub Places : Type 0
Places = ℕ → ℕ

abbrev pub with_place : Places → ℕ → ℕ → Places
with_place places client place other = cond (eqb other client) place (places other)

-- after the client's next request, if there is one
abbrev pub places_after : Places → ℕ → Option ℕ → Places
places_after places client None = places
places_after places client (Some place) = with_place places client (place + 1)

-- where the next request of the client begins
abbrev pub next_from : List ClientNote → Places → ℕ → Option ℕ
next_from notes places client = next_place client (places client) (drop (places client) notes)

-- a move, with the request that it means: the next one of its client
abbrev pub move_text : List ClientNote → Places → TimelineMove → List ℕ
move_text notes places move =
    join_words (client_move_words move) ++ (beside_text notes (next_from notes places move.client) ++ codes "\n")

abbrev pub order_text : List ClientNote → Places → List TimelineMove → List ℕ
order_text notes places [] = []
order_text notes places (move ∷ moves) =
    move_text notes places move ++ order_text notes (places_after places move.client (next_from notes places move.client)) moves

-- ---- the whole

-- an item at the start, in words too
abbrev pub start_text : List ℕ × ℕ → List ℕ
start_text start = join_words (start_words start) ++ (codes "  " ++ (start.0 ++ codes " held an item\n"))

-- what explains the requests of what stands before the place
abbrev pub explained_text : List ClientNote → TimelineClaim → List ℕ
explained_text notes claim =
    codes "explained before\n" ++ (flat_map start_text claim.start ++ order_text notes (λ client. 0) claim.moves)

abbrev pub words_at : Option ClientNote → Words
words_at None = []
words_at (Some noted) = client_note_words noted

-- the number of the line, and what was noted there
abbrev pub place_text : ℕ → Option ClientNote → List ℕ
place_text line noted = codes "line " ++ (decimal line ++ (codes " " ++ line_text (words_at noted)))

abbrev pub number_text : ℕ → List ℕ
number_text line = codes " " ++ decimal line

-- the numbers of the lines at which the requests began that overlap the place
abbrev pub overlap_text : List ℕ → List ℕ
overlap_text lines = codes "overlap" ++ (flat_map number_text lines ++ codes "\n")

-- what is found where a search was left open
abbrev pub undecided_text : ℕ → List ℕ
undecided_text line = codes "why\nundecided at line " ++ (decimal line ++ codes "\nend\n")

-- what is found of the requests on a key, whose place is the one at this line: what was noted there, what explains what stands before
-- it, and the lines of the requests that overlap it
abbrev pub why_text : ℕ → List ℕ → List ClientNote → List ℕ → TimelineFinding → List ℕ
why_text line overlap notes key (finding.Cause cause) =
    codes "why\n" ++ (place_text line (slice_get notes cause.place) ++ (explained_text (front key cause.place notes) cause.explanation
    ++ (overlap_text overlap ++ codes "end\n")))
why_text line overlap notes key (finding.Undecided place) = undecided_text line
