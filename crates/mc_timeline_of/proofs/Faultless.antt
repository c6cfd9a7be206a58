-- The timeline of the first notes of a history, and of one more.
use Rattle.std.proofs.Common.{◌≡◌, ◌<◌, ◌+◌, ℕ, true, None, List, [], ◌∷◌, ◌++◌, append-nil, append_assoc, take, drop, get_or, length}
use Rattle.std.proofs.Common.{take-append-drop, ap, subst, sym, ◌∙◌}
use Rattle.std.proofs.lemmas.List.{map-append, take_more, drop_more}
use Rattle.mc_model.specs.Notes.{Noted, is_record}
use Rattle.mc_timeline.specs.Rules as rule
use Rattle.mc_timeline.specs.Timelines.{ClientNote}
use Rattle.mc_timeline_of.specs.SameNotes.{client_of, of_clients}
use Rattle.mc_timeline_of.proofs.Keeping.{are_timelines}

abbrev pub client_note : Noted → ClientNote
client_note noted = (client_of noted.0, noted.1)

-- the notes before this place, and the one there
pub one_more : (notes : List Noted) (place : ℕ) (noted : Noted) → place < length notes → noted ≡ get_or notes place noted
    → of_clients (take (place + 1) notes) ≡ of_clients (take place notes) ++ client_note noted ∷ []
one_more notes place noted within is =
    ap of_clients (take_more notes place noted within ∙ ap (λ n. take place notes ++ n ∷ []) (sym is))
    ∙ map-append client_note (take place notes) (noted ∷ [])

keeps_there : (earlier front : List ClientNote) (next : ClientNote) (back : List ClientNote) → rule.KeepRules earlier (front ++ next ∷ back)
    → rule.fault_of (earlier ++ front) next ≡ None
keeps_there earlier [] next back k = subst (λ l. rule.fault_of l next ≡ None) (sym (append-nil earlier)) k.0
keeps_there earlier (n ∷ front) next back k =
    subst (λ l. rule.fault_of l next ≡ None) (append_assoc earlier (n ∷ []) front) (keeps_there (earlier ++ n ∷ []) front next back k.1)

-- no note of a history breaks a rule of a timeline
pub is_faultless : (notes : List Noted) (place : ℕ) (noted : Noted) → is_record notes ≡ true → place < length notes → noted ≡ get_or notes place noted
    → rule.fault_of (of_clients (take place notes)) (client_note noted) ≡ None
is_faultless notes place noted is_history within is =
    let rest : drop place notes ≡ noted ∷ drop (place + 1) notes =
    drop_more notes place noted within ∙ ap (λ n. n ∷ drop (place + 1) notes) (sym is) in
    let whole : notes ≡ take place notes ++ noted ∷ drop (place + 1) notes =
    sym (take-append-drop place notes) ∙ ap (λ l. take place notes ++ l) rest in
    let clients : of_clients notes ≡ of_clients (take place notes) ++ client_note noted ∷ of_clients (drop (place + 1) notes) =
    ap of_clients whole ∙ map-append client_note (take place notes) (noted ∷ drop (place + 1) notes) in
    keeps_there [] (of_clients (take place notes)) (client_note noted) (of_clients (drop (place + 1) notes))
    (subst rule.IsTimeline clients (are_timelines notes is_history))
