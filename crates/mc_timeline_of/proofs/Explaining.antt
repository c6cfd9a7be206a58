-- What explains a history explains the timeline of the same notes, and the other way round.
use Rattle.std.proofs.Common.{◌≡◌, ◌<◌, ◌^◌, inl, inr, ℕ, zero, suc, true, Some}
use Rattle.std.proofs.Common.{List, [], ◌∷◌, ◌++◌, map, refl, ap, ap₂, subst, sym, ◌∙◌, arith}
use Rattle.std.proofs.lemmas.List.Elements.{All-nil, All-cons, All-head, All-tail}
use Rattle.std.specs.List.{All}
use Rattle.mc_protocol.specs.declared.{actor.Actor.Actor, reply.Reply.Reply}
use Rattle.mc_protocol.proofs.FirstItems.{head_is, rest_is}
use Rattle.mc_model.specs.Notes.{History, IsHistory, Keeps, Noted, is_record, with_notes}
use Rattle.mc_history.specs.{declared.explanation.Move.Move, Claim.Claim, Distinct.AreDistinct, Turns.Turn}
use Rattle.mc_claims.specs.Explains as history
use Rattle.mc_claims.specs.Replay.{Step, replay, versions}
use Rattle.mc_timeline.specs.Explanations.{Effected, step_of, order_of}
use Rattle.mc_timeline.specs.{Members.IsIn, Operations.Operation, Operations.IsLinearization, Timelines.ClientNote, Timelines.operations_of}
use Rattle.mc_timeline.specs.Explanations as timeline
use Rattle.mc_linearize.specs.{declared.explanation.TimelineMove.TimelineMove, Claims.ExplainsTimeline, Claims.move_of}
use Rattle.mc_timeline_of.specs.SameNotes.{client_of, of_clients}
use Rattle.mc_timeline_of.specs.SameExplanations.{AreExplainedAlike, by_client, by_clients, ExplanationsAreTheSame, ExplainedAlike}
use Rattle.mc_timeline_of.proofs.ClientQueues.{section_by, section_is, low_clients}
use Rattle.mc_timeline_of.proofs.{Acting.turn_of, Orders.linearized, Orders.is_allowed}

-- ---- numbers

each_of : {X : Type 0} (P : X → Type 0) (xs : List X) → All P xs → (x : X) → IsIn x xs → P x
each_of P [] all x h = absurd h
each_of P (y ∷ xs) all x (inl same) = subst P (sym same) (All-head P y xs all)
each_of P (y ∷ xs) all x (inr more) = each_of P xs (All-tail P y xs all) x more

all_of : {X : Type 0} (P : X → Type 0) (xs : List X) → ((x : X) → IsIn x xs → P x) → All P xs
all_of P [] each = All-nil P
all_of P (x ∷ xs) each = All-cons P x xs (each x (inl refl)) (all_of P xs (λ y h. each y (inr h)))

-- ---- from a history to the timeline

abbrev actors_of : List Move → List Actor
actors_of moves = map (λ m. m.actor) moves

abbrev turns_of : List Operation → List Turn
turns_of order = map turn_of order

abbrev sections_of : List Turn → List Actor
sections_of turns = map (λ t. t.0) turns

abbrev effected_of : List Operation → List Move → List Effected
effected_of [] moves = []
effected_of (x ∷ order) [] = []
effected_of (x ∷ order) (move ∷ moves) = record { operation = x; choice = move.choice; number = move.number } ∷ effected_of order moves

steps_are : (order : List Operation) (moves : List Move) → history.steps_of (turns_of order) moves ≡ map step_of (effected_of order moves)
steps_are [] moves = refl
steps_are (x ∷ order) [] = refl
steps_are (x ∷ order) (move ∷ moves) =
    ap (λ l. record { request = x.request; choice = move.choice; number = move.number } ∷ l) (steps_are order moves)

order_is : (order : List Operation) (moves : List Move) → actors_of moves ≡ sections_of (turns_of order) → order_of (effected_of order moves) ≡ order
order_is [] moves e = refl
order_is (x ∷ order) [] e = absurd (cc)
order_is (x ∷ order) (move ∷ moves) e = ap (λ l. x ∷ l) (order_is order moves (rest_is _ _ _ _ e))

client_is : (client : ℕ) → client < 3 → client ≡ client_of (section_by client)
client_is zero low = refl
client_is (suc zero) low = refl
client_is (suc (suc zero)) low = refl
client_is (suc (suc (suc client))) low = absurd (omega arith)

moves_are : (order : List Operation) (moves : List Move) → ((x : Operation) → IsIn x order → x.client < 3)
    → actors_of moves ≡ sections_of (turns_of order) → map move_of (effected_of order moves) ≡ map by_client moves
moves_are [] [] low e = refl
moves_are [] (move ∷ moves) low e = absurd (cc)
moves_are (x ∷ order) [] low e = absurd (cc)
moves_are (x ∷ order) (move ∷ moves) low e =
    let client = client_is x.client (low x (inl refl)) ∙ ap client_of (sym (head_is _ _ _ _ e)) in
    ap₂ (λ (c : ℕ) (l : List TimelineMove). record { client = c; choice = move.choice; number = move.number } ∷ l) client
    (moves_are order moves (λ y h. low y (inr h)) (rest_is _ _ _ _ e))

gives : (order : List Operation) (moves : List Move) (replies : List Reply) → history.GivesEach (turns_of order) replies
    → timeline.GivesEach (effected_of order moves) replies
gives [] moves replies h = tt
gives (x ∷ order) [] replies h = tt
gives (x ∷ order) (move ∷ moves) [] h = h
gives (x ∷ order) (move ∷ moves) (reply ∷ replies) h = (h.0, gives order moves replies h.1)

number_fits : (order : List Operation) (moves : List Move) → ((m : Move) → IsIn m moves → m.number < 2 ^ 64) → (e : Effected)
    → IsIn e (effected_of order moves) → e.number < 2 ^ 64
number_fits [] moves each e h = absurd h
number_fits (x ∷ order) [] each e h = absurd h
number_fits (x ∷ order) (move ∷ moves) each e (inl same) =
    subst (λ (f : Effected). f.number < 2 ^ 64) (sym same) (each move (inl refl))
number_fits (x ∷ order) (move ∷ moves) each e (inr more) = number_fits order moves (λ m h. each m (inr h)) e more

to_timeline : (notes : List Noted) (claim : Claim) → is_record notes ≡ true → history.Explains (with_notes notes) claim
    → ExplainsTimeline (of_clients notes) (by_clients claim)
to_timeline notes claim is_history e =
    let l = linearized notes is_history e.order e.allowed in
    let actors : actors_of claim.order ≡ sections_of (turns_of l.order) = e.actors ∙ ap sections_of (sym l.told) in
    let effected = effected_of l.order claim.order in
    let order : order_of effected ≡ l.order = order_is l.order claim.order actors in
    let steps : history.steps_of e.order claim.order ≡ map step_of effected =
    ap (λ t. history.steps_of t claim.order) (sym l.told) ∙ steps_are l.order claim.order in
    let start = history.start_contents claim.start in
    record {
      effected = effected;
      moves = moves_are l.order claim.order (λ x h. low_clients 0 notes x (l.linear.only x h)) actors;
      explains = record {
        linear = subst (IsLinearization (operations_of (of_clients notes))) (sym order) l.linear;
        start_fits = each_of (λ (s : List ℕ × ℕ). s.1 < 2 ^ 64) claim.start e.fit.start;
        effected_fit = number_fits l.order claim.order (each_of (λ (m : Move). m.number < 2 ^ 64) claim.order e.fit.order);
        keys = e.keys;
        numbers = subst (λ s. AreDistinct (claim.start ++ versions start s)) steps e.numbers;
        replies =
            gives l.order claim.order (replay start (map step_of effected))
            (subst (λ t. history.GivesEach t (replay start (map step_of effected))) (sym l.told)
            (subst (λ s. history.GivesEach e.order (replay start s)) steps e.replies));
      };
    }

-- ---- from a timeline to the history

actors_are : (effected : List Effected) (moves : List Move) → map move_of effected ≡ map by_client moves
    → actors_of moves ≡ sections_of (turns_of (order_of effected))
actors_are [] [] e = refl
actors_are [] (move ∷ moves) e = absurd (cc)
actors_are (x ∷ effected) [] e = absurd (cc)
actors_are (x ∷ effected) (move ∷ moves) e =
    let same : x.operation.client ≡ client_of move.actor = ap (λ (m : TimelineMove). m.client) (head_is _ _ _ _ e) in
    ap₂ (λ (a : Actor) (l : List Actor). a ∷ l) (sym (section_is move.actor) ∙ ap section_by (sym same)) (actors_are effected moves (rest_is _ _ _ _ e))

same_steps : (effected : List Effected) (moves : List Move) → map move_of effected ≡ map by_client moves
    → map step_of effected ≡ history.steps_of (turns_of (order_of effected)) moves
same_steps [] moves e = refl
same_steps (x ∷ effected) [] e = absurd (cc)
same_steps (x ∷ effected) (move ∷ moves) e =
    let same = head_is _ _ _ _ e in
    let one : ◌≡◌ {A = Step} (step_of x) (record { request = x.operation.request; choice = move.choice; number = move.number }) =
    ap (λ (m : TimelineMove). record { request = x.operation.request; choice = m.choice; number = m.number }) same in
    ap₂ (λ (s : Step) (l : List Step). s ∷ l) one (same_steps effected moves (rest_is _ _ _ _ e))

gives_back : (effected : List Effected) (replies : List Reply) → timeline.GivesEach effected replies
    → history.GivesEach (turns_of (order_of effected)) replies
gives_back [] replies h = tt
gives_back (x ∷ effected) [] h = h
gives_back (x ∷ effected) (reply ∷ replies) h = (h.0, gives_back effected replies h.1)

move_fits : (effected : List Effected) (moves : List Move) → map move_of effected ≡ map by_client moves
    → ((e : Effected) → IsIn e effected → e.number < 2 ^ 64) → (m : Move) → IsIn m moves → m.number < 2 ^ 64
move_fits effected [] e each m h = absurd h
move_fits [] (move ∷ moves) e each m h = absurd (cc)
move_fits (x ∷ effected) (move ∷ moves) e each m (inl same) =
    let number : x.number ≡ move.number = ap (λ (n : TimelineMove). n.number) (head_is _ _ _ _ e) in
    subst (λ (n : Move). n.number < 2 ^ 64) (sym same) (subst (λ n. n < 2 ^ 64) number (each x (inl refl)))
move_fits (x ∷ effected) (move ∷ moves) e each m (inr more) =
    move_fits effected moves (rest_is _ _ _ _ e) (λ y h. each y (inr h)) m more

to_history : (notes : List Noted) (claim : Claim) → is_record notes ≡ true → ExplainsTimeline (of_clients notes) (by_clients claim)
    → history.Explains (with_notes notes) claim
to_history notes claim is_history t =
    let e = t.explains in
    let order = turns_of (order_of t.effected) in
    let steps : map step_of t.effected ≡ history.steps_of order claim.order = same_steps t.effected claim.order t.moves in
    let start = history.start_contents claim.start in
    record {
      order = order;
      allowed = is_allowed notes is_history (order_of t.effected) e.linear;
      actors = actors_are t.effected claim.order t.moves;
      fit = record {
        start = all_of (λ (s : List ℕ × ℕ). s.1 < 2 ^ 64) claim.start e.start_fits;
        order = all_of (λ (m : Move). m.number < 2 ^ 64) claim.order (move_fits t.effected claim.order t.moves e.effected_fit);
      };
      keys = e.keys;
      numbers = subst (λ s. AreDistinct (claim.start ++ versions start s)) steps e.numbers;
      replies = subst (λ s. history.GivesEach order (replay start s)) steps (gives_back t.effected (replay start (map step_of t.effected)) e.replies);
    }

pub are_the_same : ExplanationsAreTheSame
are_the_same notes claim is_history = (to_timeline notes claim is_history, to_history notes claim is_history)

-- ---- whether there is one

abbrev section_move : Effected → Move
section_move e = record { actor = section_by e.operation.client; choice = e.choice; number = e.number }

same_moves : (effected : List Effected) → ((e : Effected) → IsIn e effected → e.operation.client < 3)
    → map move_of effected ≡ map by_client (map section_move effected)
same_moves [] low = refl
same_moves (e ∷ effected) low =
    ap₂ (λ (c : ℕ) (l : List TimelineMove). record { client = c; choice = e.choice; number = e.number } ∷ l) (client_is e.operation.client (low e (inl refl)))
    (same_moves effected (λ f h. low f (inr h)))

in_order : (effected : List Effected) (e : Effected) → IsIn e effected → IsIn e.operation (order_of effected)
in_order [] e h = absurd h
in_order (f ∷ effected) e (inl same) = inl (ap (λ (g : Effected). g.operation) same)
in_order (f ∷ effected) e (inr more) = inr (in_order effected e more)

pub are_explained_alike : ExplainedAlike
are_explained_alike notes is_history = (to, from)
  where
    to : (claim : Claim) × history.Explains (with_notes notes) claim → timeline.IsExplained (operations_of (of_clients notes))
    to (claim, e) =
        let t = to_timeline notes claim is_history e in
        record { start = claim.start; effected = t.effected; explains = t.explains }

    from : timeline.IsExplained (operations_of (of_clients notes)) → (claim : Claim) × history.Explains (with_notes notes) claim
    from t =
        let low = λ (e : Effected) (h : IsIn e t.effected). low_clients 0 notes e.operation (t.explains.linear.only e.operation (in_order t.effected e h)) in
        let claim : Claim = record { start = t.start; order = map section_move t.effected } in
        (claim, to_history notes claim is_history (record { effected = t.effected; moves = same_moves t.effected low; explains = t.explains }))

-- ---- a history and its timeline

kept_notes : (h : History) (notes : List Noted) → IsHistory h → Some notes ≡ h.notes → (is_record notes ≡ true) × (with_notes notes ≡ h)
kept_notes h notes is kept =
    let keeps : Keeps h.sections (Some notes) = subst (Keeps h.sections) (sym kept) is.notes in
    (keeps.0, λ i. record { sections = sym keeps.1 i; notes = kept i })

pub explained_with : (h : History) (notes : List Noted) (told : List ClientNote) → IsHistory h → Some notes ≡ h.notes → told ≡ of_clients notes
    → AreExplainedAlike h (Some told)
explained_with h notes told is kept same =
    let k = kept_notes h notes is kept in
    subst (λ (g : History). AreExplainedAlike g (Some told)) k.1
    (subst (λ (t : List ClientNote). AreExplainedAlike (with_notes notes) (Some t)) (sym same) (are_explained_alike notes k.0))
