-- What is printed of why nothing explains a history.
use Rattle.std.specs.Prelude.{ℕ, ◌-◌, nat_lt, Bool, ◌||◌, if◌then◌else◌, Option, Some, None}
use Rattle.std.specs.Prelude.{List, [], ◌∷◌, ◌++◌, length, codes, decimal, slice_get}
use Rattle.std.specs.{List.flat_map, Option.option_map_or, Str.bytes_eq}
use Rattle.mc_protocol.specs.{Lines.Words, Words.actor_word, Words.verb_word, declared.actor.Actor.Actor, declared.reply.Reply.Reply}
use Rattle.mc_protocol.specs.{declared.request.Request.Request, declared.request.Verb.Verb, declared.sections.Sections.Sections}
use Rattle.mc_protocol.specs.declared.actor.Actor.TheVariants as actor
use Rattle.mc_protocol.specs.declared.reply.Reply.TheVariants as replies
use Rattle.mc_words.specs.Words.{join_words, reply_words, request_words}
use Rattle.mc_model.specs.{declared.sent.Sent.Sent, Notes.History, Notes.Noted, Sections.section_of}
use Rattle.mc_model.specs.Sections as sent
use Rattle.mc_history.specs.PrintedHistory.{answer_words, line_text, move_words, note_words, start_words, turn_words}
use Rattle.mc_history.specs.{declared.explanation.Move.Move, Claim.Claim}
use Rattle.mc_why.specs.declared.cause.Finding.{Finding}
use Rattle.mc_why.specs.{Answers.next_after, Cuts.cut, declared.answer.Answer.Answer, declared.form.Form.Form}
use Rattle.mc_why.specs.declared.answer.Answer.TheVariants as answer
use Rattle.mc_why.specs.declared.cause.Finding.TheVariants as finding
use Rattle.mc_why.specs.declared.form.Form.TheVariants as form

-- where no notes are kept, the section of the request at a place, and its place there: P's come first, then A's, then B's
abbrev pub request_place : sent.Sections → ℕ → Actor × ℕ
request_place s place =
    let of_branches = place - length s.p in
    let of_b = of_branches - length s.a in
    if nat_lt place (length s.p) then (actor.P, place)
    else (if nat_lt of_branches (length s.a) then (actor.A, of_branches) else (actor.B, of_b))

-- the words of a request with its reply, if there is one at this place of a section
abbrev pub turn_at : sent.Sections → Actor × ℕ → Words
turn_at s (section, place) = option_map_or (λ sent. turn_words (section, sent)) (slice_get (section_of s section) place) []

abbrev pub words_of : sent.Sections → Option (List Noted) → ℕ → Words
words_of s None place = turn_at s (request_place s place)
words_of s (Some notes) place = option_map_or note_words (slice_get notes place) []

-- the words of what stands at a place of a history: of what was noted, or, where no notes are kept, of the request with its reply
abbrev pub words_at : History → ℕ → Words
words_at h place = words_of h.sections h.notes place

-- the number of the line, and what stands there
abbrev pub place_text : ℕ → Words → List ℕ
place_text line words = codes "line " ++ (decimal line ++ (codes " " ++ line_text words))

-- the request, and what a cache answers
abbrev pub answered_text : List ℕ → Actor → Request → Reply → List ℕ
answered_text word section request reply =
    word ++ (actor_word section ++ (codes " " ++ (join_words (request_words request)
    ++ (codes " answers " ++ line_text (reply_words reply)))))

abbrev pub reply_text : List ℕ → Actor → Option Sent → Reply → List ℕ
reply_text word section None reply = []
reply_text word section (Some sent) reply = answered_text word section sent.request reply

-- that the section's request of this verb has acted, and what a cache answers
abbrev pub sentence : Actor → Verb → Reply → List ℕ
sentence section verb reply =
    codes "  " ++ (actor_word section ++ (codes "'s " ++ (verb_word verb
    ++ (codes " has acted already, where it stands in this order, and a cache answers " ++ line_text (reply_words reply)))))

abbrev pub acted_text : Actor → Option Sent → Reply → List ℕ
acted_text section None reply = []
acted_text section (Some sent) reply = sentence section sent.request.verb reply

-- what is answered to a section: after `next` to the request that comes next, after `acted` to one that was not answered, and then in
-- words too
abbrev pub answer_text : sent.Sections → Actor → Option Answer → List ℕ
answer_text s section None = []
answer_text s section (Some (answer.Next place reply)) = reply_text (codes "next ") section (slice_get (section_of s section) place) reply
answer_text s section (Some (answer.Acted place reply)) =
    reply_text (codes "acted ") section (slice_get (section_of s section) place) reply
    ++ acted_text section (slice_get (section_of s section) place) reply

-- that of P, then of A, then of B
abbrev pub answers_text : sent.Sections → Sections (Option Answer) → List ℕ
answers_text s answers = answer_text s actor.P answers.p ++ (answer_text s actor.A answers.a ++ answer_text s actor.B answers.b)

-- a hit that says in place of its number that this is a new one
abbrev pub new_words : ℕ → List ℕ → List ℕ
new_words flags body = join_words (reply_words (replies.Hit flags body None)) ++ codes " (a new number)"

-- the words of a form
abbrev pub form_words : Form → List ℕ
form_words (form.Reply reply) = join_words (reply_words reply)
form_words (form.NewNumber flags body number) = new_words flags body

-- its line
abbrev pub form_text : Form → List ℕ
form_text form = codes "explained would be " ++ (form_words form ++ codes "\n")

-- what a cache answers, and what would be explained
abbrev pub told_text : sent.Sections → Sections (Option Answer) → List Form → List ℕ
told_text s answers forms = answers_text s answers ++ flat_map form_text forms

-- a key that reads as a mark of a move
abbrev pub is_mark : List ℕ → Bool
is_mark key = bytes_eq key (codes "pad") || bytes_eq key (codes "refuse")

-- an item at the start, in words too
abbrev pub start_text : List ℕ × ℕ → List ℕ
start_text start = join_words (start_words start) ++ (codes "  " ++ (start.0 ++ codes " held an item\n"))

-- what stands beside a move: the request that it lets act, with its reply, if the key reads as no mark
abbrev pub beside_text : Option Sent → List ℕ
beside_text None = []
beside_text (Some sent) =
    if is_mark sent.request.key then []
    else codes "  " ++ (join_words (request_words sent.request) ++ (codes " -> " ++ join_words (answer_words sent.reply)))

-- a move after earlier ones, with its request
abbrev pub move_text : sent.Sections → List Move → Move → List ℕ
move_text s earlier move = join_words (move_words move) ++ (beside_text (next_after s earlier move.actor) ++ codes "\n")

-- the moves, which come after earlier ones
abbrev pub order_text : sent.Sections → List Move → List Move → List ℕ
order_text s earlier [] = []
order_text s earlier (move ∷ moves) = move_text s earlier move ++ order_text s (earlier ++ move ∷ []) moves

-- what explains the requests of what stands before the place
abbrev pub explained_text : sent.Sections → Claim → List ℕ
explained_text s claim = codes "explained before\n" ++ (flat_map start_text claim.start ++ order_text s [] claim.order)

-- what is found where a search was left open
abbrev pub undecided_text : ℕ → List ℕ
undecided_text line = codes "why\nundecided at line " ++ (decimal line ++ codes "\nend\n")

-- what is found of a history, whose place is the one at this line: what stands there, what explains what stands before it, what a
-- cache answers there, and the replies that would be explained
abbrev pub why_text : ℕ → History → Finding → List ℕ
why_text line h (finding.Cause cause) =
    codes "why\n" ++ (place_text line (words_at h cause.place) ++ (explained_text (cut cause.place h).sections cause.explanation
    ++ (told_text h.sections cause.answers cause.forms.items ++ codes "end\n")))
why_text line h (finding.Undecided place) = undecided_text line
