-- How requests were answered, counted.
use Rattle.std.specs.Prelude.{◌≡◌, ℕ, ◌-◌, ◌^◌, ◌==◌, min, Bool, true, false, ◌&&◌, Option, Some, None, option_map}
use Rattle.std.specs.{Prelude.List, Prelude.replicate, Prelude.slice_index_or, List.count_by}
use Rattle.mc_protocol.specs.{Legal.class_of, Words.class_index, declared.reply.Class.Class, declared.request.Verb.Verb}
use Rattle.mc_image.specs.Image.{verb_index}
use Rattle.mc_model.specs.declared.sent.Sent.{Sent}
use Rattle.mc_command.specs.{declared.replies.Answers.Answers, declared.replies.Replies.Replies}

-- no count is greater
abbrev pub capped : ℕ → ℕ
capped count = min count (2 ^ 64 - 1)

-- the class of the reply to a request, if there is one
abbrev pub answer_of : Sent → Option Class
answer_of sent = option_map class_of sent.reply

abbrev pub is_same_answer : Option Class → Option Class → Bool
is_same_answer None None = true
is_same_answer (Some one) (Some other) = class_index one == class_index other
is_same_answer _ _ = false

-- the request has this verb, and a reply of this class or none
abbrev pub is_answered : Verb → Option Class → Sent → Bool
is_answered verb answer sent = verb_index verb == verb_index sent.request.verb && is_same_answer answer (answer_of sent)

-- ---- the counts that are kept

abbrev pub no_answers : Answers
no_answers = record { by_class = replicate 10 0; unanswered = 0 }

-- the count of replies of this class, or of requests without a reply
abbrev pub answers_in : Answers → Option Class → ℕ
answers_in answers None = answers.unanswered
answers_in answers (Some class) = slice_index_or answers.by_class (class_index class) 0

abbrev pub answers_of : Replies → Verb → Answers
answers_of replies verb = slice_index_or replies.by_verb (verb_index verb) no_answers

-- for each verb and each answer, the count is that of the requests with this verb that were answered so
abbrev pub CountsRequests : List Sent → Replies → Type 0
CountsRequests requests replies = (verb : Verb) (answer : Option Class)
    → answers_in (answers_of replies verb) answer ≡ capped (count_by (is_answered verb answer) requests)
