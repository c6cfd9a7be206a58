-- One note more: what is outstanding after it, and whether requests of both branches were.
use Rattle.std.proofs.Common.{◌≡◌, ◌∙◌, ◌<◌, ℕ, ◌+◌, Bool, true, false, ◌||◌, ◌&&◌, cond, Option, Some, None, List, [], ◌∷◌, ◌++◌}
use Rattle.std.proofs.Common.{length, take, map, ap, refl, sym, append-nil, get_or}
use Rattle.std.proofs.{lemmas.List.map-append, lemmas.List.take_more, lemmas.List.Concat.flat_map-append, lemmas.List.Folds.list_any-append}
use Rattle.std.specs.List.{last_or, list_any}
use Rattle.mc_protocol.specs.{declared.actor.Actor.Actor, declared.event.Event.Event}
use Rattle.mc_protocol.specs.declared.actor.Actor.TheVariants as actor
use Rattle.mc_model.specs.Notes.{is_same_section}
use Rattle.mc_command.specs.Overlaps.{are_both_outstanding, fronts, is_begin, is_outstanding, is_some_begin, overlaps}
use Rattle.mc_core.specs.Worlds.{Noted, event_of, events_of}

last-push : {X : Type 0} (o : Option X) (xs : List X) (x : X) → last_or o (xs ++ x ∷ []) ≡ Some x
last-push o [] x = refl
last-push o (y ∷ ys) x = last-push (Some y) ys x

events_after : (section : Actor) (earlier : List Noted) (noted : Noted)
    → events_of section (earlier ++ noted ∷ []) ≡ events_of section earlier ++ event_of section noted
events_after section earlier noted =
    flat_map-append (event_of section) earlier (noted ∷ []) ∙ ap (λ xs. events_of section earlier ++ xs) (append-nil (event_of section noted))

-- after one of its own a request is outstanding if that is its begin
pub after_own : (section : Actor) (earlier : List Noted) (who : Actor) (e : Event) → is_same_section section who ≡ true
    → is_outstanding section (earlier ++ (who, e) ∷ []) ≡ is_begin e
after_own section earlier who e own =
    ap (λ es. is_some_begin (last_or None es)) (events_after section earlier (who, e)
    ∙ ap (λ b. events_of section earlier ++ cond b (e ∷ []) []) own)
    ∙ ap is_some_begin (last-push None (events_of section earlier) e)

fronts-push : {X : Type 0} (xs : List X) (x : X) → fronts (xs ++ x ∷ []) ≡ fronts xs ++ (xs ++ x ∷ []) ∷ []
fronts-push [] x = refl
fronts-push (y ∷ ys) x =
    ap (λ fs. [] ∷ fs) (ap (map (λ front. y ∷ front)) (fronts-push ys x)
    ∙ map-append (λ front. y ∷ front) (fronts ys) ((ys ++ x ∷ []) ∷ []))

or_false : (b : Bool) → (b || false) ≡ b
or_false true = refl
or_false false = refl

-- both were outstanding before it, or are after it
overlaps_push : (notes : List Noted) (noted : Noted)
    → overlaps (notes ++ noted ∷ []) ≡ (overlaps notes || are_both_outstanding (notes ++ noted ∷ []))
overlaps_push notes noted =
    ap (list_any are_both_outstanding) (fronts-push notes noted)
    ∙ (list_any-append are_both_outstanding (fronts notes) ((notes ++ noted ∷ []) ∷ [])
    ∙ ap (λ b. overlaps notes || b) (or_false (are_both_outstanding (notes ++ noted ∷ []))))

pub one_more_note : (notes : List Noted) (noted : Noted) (found a b : Bool) → found ≡ overlaps notes
    → a ≡ is_outstanding actor.A (notes ++ noted ∷ []) → b ≡ is_outstanding actor.B (notes ++ noted ∷ [])
    → (found || (a && b)) ≡ overlaps (notes ++ noted ∷ [])
one_more_note notes noted found a b before of_a of_b =
    ap (λ x. x || (a && b)) before
    ∙ (ap (λ x. overlaps notes || (x && b)) of_a
    ∙ (ap (λ x. overlaps notes || (is_outstanding actor.A (notes ++ noted ∷ []) && x)) of_b ∙ sym (overlaps_push notes noted)))

pub taken_more : {X : Type 0} (xs : List X) (i : ℕ) (x : X) → i < length xs → x ≡ get_or xs i x
    → take (i + 1) xs ≡ take i xs ++ x ∷ []
taken_more xs i x within here = take_more xs i x within ∙ ap (λ y. take i xs ++ y ∷ []) (sym here)
