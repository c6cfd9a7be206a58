-- One request more, and one run more, that is counted.
use Rattle.std.proofs.Common.{◌≡◌, ◌∙◌, ℕ, ◌+◌, ◌==◌, Bool, true, false, ◌&&◌, cond, Option, List, [], ◌∷◌, ◌++◌}
use Rattle.std.proofs.Common.{length, ap, append_assoc, append-nil, arith, refl, sym}
use Rattle.std.proofs.{lemmas.Bool.eqb-true, lemmas.List.length-append, lemmas.List.Concat.flat_map-append, lemmas.List.Sums.sum_by_push}
use Rattle.std.specs.List.{count_by, flat_map}
use Rattle.mc_image.specs.Image.{verb_index}
use Rattle.mc_model.specs.declared.sent.Sent.{Sent}
use Rattle.mc_protocol.specs.{declared.reply.Class.Class, declared.request.Verb.Verb}
use Rattle.mc_command.specs.Replies.{answer_of, answers_in, capped, is_answered, is_same_answer}
use Rattle.mc_command.specs.{Statistics.Recorded, Statistics.requests_of, declared.replies.Answers.Answers}

capped_more : (n k : ℕ) → capped (capped n + k) ≡ capped (n + k)
capped_more n k = omega arith

-- one more of a list, by what it counts as
pub one_more_counted : {X : Type 0} (p : X → Bool) (xs : List X) (x : X) (before : ℕ) → before ≡ capped (count_by p xs)
    → capped (before + cond (p x) 1 0) ≡ capped (count_by p (xs ++ x ∷ []))
one_more_counted p xs x before is =
    ap (λ n. capped (n + cond (p x) 1 0)) is ∙ (capped_more (count_by p xs) (cond (p x) 1 0)
    ∙ ap capped (sym (sum_by_push (λ y. cond (p y) 1 0) xs x)))

-- the next count, in two forms
next_count : (before n : ℕ) → before ≡ capped n → (is_so : Bool) → cond is_so (capped (before + 1)) before ≡ capped (before + cond is_so 1 0)
next_count before n is true = refl
next_count before n is false = omega (arith, is)

after_row : (here there row : Answers) (w v : ℕ) (same : Bool) (answer : Option Class) → (w ≡ v → there ≡ here)
    → answers_in row answer ≡ cond same (capped (answers_in there answer + 1)) (answers_in there answer) → (b : Bool) → (w == v) ≡ b
    → answers_in (cond b row here) answer ≡ cond (b && same) (capped (answers_in here answer + 1)) (answers_in here answer)
after_row here there row w v same answer one row_is true is =
    row_is ∙ ap (λ r. cond same (capped (answers_in r answer + 1)) (answers_in r answer)) (one (eqb-true w v is))
after_row here there row w v same answer one row_is false is = refl

-- of one verb and one answer, after one request more: `here` counts those of the verb, and `there` those of the request's, which becomes `row`
pub one_more_request : (verb : Verb) (answer : Option Class) (earlier : List Sent) (sent : Sent) (here there row after : Answers)
    → answers_in here answer ≡ capped (count_by (is_answered verb answer) earlier)
    → (verb_index verb ≡ verb_index sent.request.verb → there ≡ here)
    → answers_in row answer
    ≡ cond (is_same_answer answer (answer_of sent)) (capped (answers_in there answer + 1)) (answers_in there answer)
    → after ≡ cond (verb_index verb == verb_index sent.request.verb) row here
    → answers_in after answer ≡ capped (count_by (is_answered verb answer) (earlier ++ sent ∷ []))
one_more_request verb answer earlier sent here there row after before one row_is after_is =
    let same = is_same_answer answer (answer_of sent) in
    let by = after_row here there row (verb_index verb) (verb_index sent.request.verb) same answer one row_is
    (verb_index verb == verb_index sent.request.verb) refl in
    ap (λ r. answers_in r answer) after_is
    ∙ (by ∙ (next_count (answers_in here answer) (count_by (is_answered verb answer) earlier) before (is_answered verb answer sent)
    ∙ one_more_counted (is_answered verb answer) earlier sent (answers_in here answer) before))

-- ---- runs

pub one_more_run : (runs : List Recorded) (run : Recorded) (before : ℕ) → before ≡ capped (length runs)
    → capped (before + 1) ≡ capped (length (runs ++ run ∷ []))
one_more_run runs run before is =
    ap (λ n. capped (n + 1)) is ∙ (capped_more (length runs) 1 ∙ ap capped (sym (length-append runs (run ∷ []))))

-- the requests of one run more, section by section
pub more_requests : (runs : List Recorded) (run : Recorded) (p a b : List Sent) → p ≡ run.history.sections.p → a ≡ run.history.sections.a
    → b ≡ run.history.sections.b
    → flat_map requests_of (runs ++ run ∷ []) ≡ ((flat_map requests_of runs ++ p) ++ a) ++ b
more_requests runs run p a b p_is a_is b_is =
    let all = flat_map requests_of runs in
    let own = run.history.sections in
    rw (p_is, a_is, b_is) (flat_map-append requests_of runs (run ∷ [])
    ∙ (ap (λ xs. all ++ xs) (append-nil (requests_of run)) ∙ (sym (append_assoc all (own.p ++ own.a) own.b)
    ∙ ap (λ xs. xs ++ own.b) (sym (append_assoc all own.p own.a)))))
