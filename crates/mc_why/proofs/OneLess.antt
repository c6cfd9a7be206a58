-- Notes that are explained are explained without the last one.
use Rattle.std.proofs.Common.{◌≡◌, inl, inr, ℕ, zero, suc, ◌+◌, ◌-◌, ◌^◌, ◌≤◌, ◌<◌, Bool, true, false, not, ◌&&◌, ◌||◌, Option, Some, None, if◌then◌else◌}
use Rattle.std.proofs.Common.{List, [], ◌∷◌, ◌++◌, drop, take, length, get_or, map, refl, sym, ap, ap₂, subst, ◌∙◌, arith}
use Rattle.std.proofs.Common.{append-nil, append_assoc, take-append-drop, length-append}
use Rattle.std.proofs.{lemmas.Bool.and_parts, lemmas.List.get_or-append_right, lemmas.List.length-map, lemmas.List.Elements.All-take}
use Rattle.mc_protocol.specs.declared.actor.Actor.{Actor}
use Rattle.mc_protocol.specs.declared.actor.Actor.TheVariants as actor
use Rattle.mc_model.specs.Notes.{History, IsHistory, Keeps, Noted, answered_before_each, are_in_order, begins, begun_by}
use Rattle.mc_model.specs.Notes.{is_out_of_order, is_record, is_same_section, is_waiting, notes_before_each, replied_by, replies_in, requests_in}
use Rattle.mc_model.specs.Notes.{sections_in, sent_in, with_notes, with_replies}
use Rattle.mc_model.specs.{declared.sent.Sent.Sent, Sections.Sections, History.comes_late, History.is_none_sent}
use Rattle.mc_model.specs.declared.note.Note.TheVariants as note
use Rattle.mc_model.proofs.Noting.{IsBalanced, answered_before-push, replies-push, requests-push}
use Rattle.mc_model.proofs.NoteFaults.{balanced, order-push, record_front, record_parts, record_shorter}
use Rattle.mc_history.specs.{declared.explanation.Move.Move, Claim.Claim, Claim.NumbersFit}
use Rattle.mc_claims.specs.{Explains.Explains, Explains.start_contents, Walk.may_end}
use Rattle.mc_claims.proofs.Explaining.{explains_from_walk, walk_from_explains}
use Rattle.mc_why.specs.Cuts.{cut, cut_of}
use Rattle.mc_why.proofs.Beginnings.{Begins, answered_may_end, begins_with, drop_none, drop_some, length-with_replies}
use Rattle.mc_why.proofs.Shortened.{HavePrefix, Shortens, walks_shorter}

-- ---- with one more note

sent_begins : (section : Actor) (notes : List Noted) (next : Noted) → Begins (sent_in section notes) (sent_in section (notes ++ next ∷ []))
sent_begins section notes next =
    subst (λ (l : List Sent). Begins (sent_in section notes) l)
    (sym (ap₂ with_replies (requests-push section notes next) (replies-push section notes next)))
    (begins_with (requests_in section notes) (begun_by section next) (replies_in section notes) (replied_by section next))

pub length-sent : (section : Actor) (notes : List Noted) → length (sent_in section notes) ≡ length (requests_in section notes)
length-sent section notes = length-with_replies (requests_in section notes) (replies_in section notes)

length-sent-push : (section : Actor) (notes : List Noted) (next : Noted)
    → length (sent_in section (notes ++ next ∷ [])) ≡ length (requests_in section notes) + length (begun_by section next)
length-sent-push section notes next =
    length-sent section (notes ++ next ∷ []) ∙ ap length (requests-push section notes next)
    ∙ length-append (requests_in section notes) (begun_by section next)

-- ---- what was answered before

abbrev none : List Noted
none = []

-- there is a list of notes for each request
before_each : (section : Actor) (notes : List Noted) → length (notes_before_each section notes) ≡ length (requests_in section notes)
before_each section [] = refl
before_each section (noted ∷ notes) =
    length-append (if begins section noted then none ∷ [] else []) (map (λ earlier. noted ∷ earlier) (notes_before_each section notes))
    ∙ ap₂ (λ m n. m + n) (own noted) (length-map (notes_before_each section notes) (λ earlier. noted ∷ earlier) ∙ before_each section notes)
    ∙ sym (length-append (begun_by section noted) (requests_in section notes))
  where
    in_if : {X Y : Type 0} (b : Bool) (x : X) (y : Y) → length (if b then x ∷ [] else []) ≡ length (if b then y ∷ [] else [])
    in_if true x y = refl
    in_if false x y = refl

    own : (noted : Noted) → length (if begins section noted then none ∷ [] else []) ≡ length (begun_by section noted)
    own (who, note.Begin request) = in_if (is_same_section section who) none request
    own (who, note.Reply reply) = refl

-- and a count
pub count_each : (section other : Actor) (notes : List Noted) → length (answered_before_each section other notes) ≡ length (requests_in section notes)
count_each section other notes =
    length-map (notes_before_each section notes) (λ earlier. length (replies_in other earlier)) ∙ before_each section notes

prefix_at_most : (xs ys : List ℕ) (i : ℕ) → get_or xs i 0 ≤ get_or (xs ++ ys) i 0
prefix_at_most [] ys i = omega arith
prefix_at_most (x ∷ xs) ys zero = omega arith
prefix_at_most (x ∷ xs) ys (suc i) = prefix_at_most xs ys i

fewer_before : (section other : Actor) (notes : List Noted) (next : Noted) (i : ℕ)
    → get_or (answered_before_each section other notes) i 0 ≤ get_or (answered_before_each section other (notes ++ next ∷ [])) i 0
fewer_before section other notes next i =
    subst (λ (l : List ℕ). get_or (answered_before_each section other notes) i 0 ≤ get_or l i 0)
    (sym (answered_before-push section other notes next))
    (prefix_at_most (answered_before_each section other notes) (if begins section next then length (replies_in other notes) ∷ [] else []) i)

-- all that was answered was answered before the last note's request, at its place
last_count : (section other : Actor) (notes : List Noted) (next : Noted) (i : ℕ) → length (requests_in section notes) ≤ i
    → i < length (requests_in section notes) + length (begun_by section next)
    → get_or (answered_before_each section other (notes ++ next ∷ [])) i 0 ≡ length (replies_in other notes)
last_count section other notes (who, note.Reply reply) i past early = absurd (omega (arith, past, early))
last_count section other notes (who, note.Begin request) i past early =
    ap (λ (l : List ℕ). get_or l i 0) (answered_before-push section other notes (who, note.Begin request)) ∙ by (is_same_section section who) early
  where
    by : (own : Bool) → i < length (requests_in section notes) + length (if own then request ∷ [] else [])
        → get_or (answered_before_each section other notes ++ (if own then length (replies_in other notes) ∷ [] else [])) i 0
        ≡ length (replies_in other notes)
    by false early = absurd (omega (arith, past, early))
    by true early =
        let count = count_each section other notes in
        let at : length (answered_before_each section other notes) ≡ i = omega (arith, count, past, early) in
        let none : i - i ≡ 0 = omega arith in
        get_or-append_right (answered_before_each section other notes) (length (replies_in other notes) ∷ []) i i 0 at (omega arith)
        ∙ ap (λ (n : ℕ). get_or (length (replies_in other notes) ∷ []) n 0) none

-- before a request that only the last note begins, all of the other branch's stand that were answered
stop_at : (section other : Actor) (notes : List Noted) (next : Noted) → IsBalanced notes other → (i j : ℕ) (x : Sent) (others : List Sent)
    → drop i (sent_in section notes) ≡ [] → drop i (sent_in section (notes ++ next ∷ [])) ≡ x ∷ others
    → get_or (answered_before_each section other (notes ++ next ∷ [])) i 0 ≤ j → may_end (drop j (sent_in other notes)) ≡ true
stop_at section other notes next both i j x others none some within =
    let mine = length-sent section notes in
    let more = length-sent-push section notes next in
    let empty = drop_none i (sent_in section notes) none in
    let full = drop_some i (sent_in section (notes ++ next ∷ [])) x others some in
    let past : length (requests_in section notes) ≤ i = omega (arith, mine, empty) in
    let early : i < length (requests_in section notes) + length (begun_by section next) = omega (arith, more, full) in
    let count = last_count section other notes next i past early in
    answered_may_end (requests_in other notes) (replies_in other notes) j both.1 (omega (arith, count, within))

-- ---- the prefix

last_of_three : (x y late : Bool) → (x || y || late) ≡ false → late ≡ false
last_of_three true y late e = absurd (cc)
last_of_three false true late e = absurd (cc)
last_of_three false false late e = e

not_late : (a b : List Sent) → not (is_none_sent a && is_none_sent b) ≡ false → (a ≡ []) × (b ≡ [])
not_late [] [] e = (refl, refl)
not_late [] (y ∷ b) e = absurd (cc)
not_late (x ∷ a) b e = absurd (cc)

same_count : (notes : List Noted) (next : Noted) → length (begun_by actor.P next) ≡ 0
    → length (sent_in actor.P notes) ≡ length (sent_in actor.P (notes ++ next ∷ []))
same_count notes next none =
    let mine = length-sent actor.P notes in
    let more = length-sent-push actor.P notes next in
    omega (arith, mine, more, none)

have_prefix : (notes : List Noted) (next : Noted) → is_out_of_order (sections_in notes) next ≡ false
    → HavePrefix (sections_in notes) (sent_in actor.P notes) (sent_in actor.P (notes ++ next ∷ []))
have_prefix notes (actor.P, note.Begin request) e =
    inr (not_late (sent_in actor.A notes) (sent_in actor.B notes)
    (last_of_three (is_waiting (sections_in notes) actor.P) (is_waiting (sections_in notes) actor.P) (comes_late (sections_in notes) actor.P) e))
have_prefix notes (actor.A, note.Begin request) e = inl (same_count notes (actor.A, note.Begin request) refl)
have_prefix notes (actor.B, note.Begin request) e = inl (same_count notes (actor.B, note.Begin request) refl)
have_prefix notes (who, note.Reply reply) e = inl (same_count notes (who, note.Reply reply) refl)

pub in_order : (notes : List Noted) (next : Noted) → is_record (notes ++ next ∷ []) ≡ true → is_out_of_order (sections_in notes) next ≡ false
in_order notes next r =
    not_true (is_out_of_order (sections_in notes) next)
    (and_parts (are_in_order [] notes) (not (is_out_of_order (sections_in notes) next))
    (sym (order-push [] notes next) ∙ (record_parts (notes ++ next ∷ []) r).0)).1
  where
    not_true : (b : Bool) → not b ≡ true → b ≡ false
    not_true true e = absurd (cc)
    not_true false e = refl

-- ---- without the last note

shortens : (notes : List Noted) (next : Noted) → is_record notes ≡ true
    → Shortens notes (notes ++ next ∷ []) (sections_in notes) (sections_in (notes ++ next ∷ []))
shortens notes next r = record {
  a = sent_begins actor.A notes next;
  b = sent_begins actor.B notes next;
  fewer_a = fewer_before actor.A actor.B notes next;
  fewer_b = fewer_before actor.B actor.A notes next;
  stop_a = stop_at actor.A actor.B notes next (balanced notes actor.B r);
  stop_b = λ i j x others none some within. stop_at actor.B actor.A notes next (balanced notes actor.A r) j i x others none some within;
}

one_less : (notes : List Noted) (next : Noted) (claim : Claim) → is_record (notes ++ next ∷ []) ≡ true
    → Explains (with_notes (notes ++ next ∷ [])) claim → (other : Claim) × Explains (with_notes notes) other
one_less notes next claim r x =
    let long = notes ++ next ∷ [] in
    let shorter = shortens notes next (record_front notes next r) in
    let (n, walks) = walks_shorter notes long (sections_in notes) (sections_in long) shorter claim.order (sent_in actor.P long) (sent_in actor.P notes) 0 0
    claim.start (start_contents claim.start) (sent_begins actor.P notes next) (have_prefix notes next (in_order notes next r))
    (walk_from_explains (with_notes long) claim x) in
    let other : Claim = record { start = claim.start; order = take n claim.order } in
    let fit : NumbersFit other = record {
      start = x.fit.start;
      order = All-take (λ (move : Move). move.number < 2 ^ 64) n claim.order x.fit.order;
    } in
    (other, explains_from_walk (with_notes notes) other fit x.keys walks)

-- ---- the first of some notes

first_explained : (first rest : List Noted) (claim : Claim) → is_record (first ++ rest) ≡ true → Explains (with_notes (first ++ rest)) claim
    → (other : Claim) × Explains (with_notes first) other
first_explained first [] claim r x = (claim, subst (λ (l : List Noted). Explains (with_notes l) claim) (append-nil first) x)
first_explained first (next ∷ rest) claim r x =
    let whole : (first ++ next ∷ []) ++ rest ≡ first ++ next ∷ rest = append_assoc first (next ∷ []) rest in
    let kept : is_record ((first ++ next ∷ []) ++ rest) ≡ true = subst (λ (l : List Noted). is_record l ≡ true) (sym whole) r in
    let (other, explains) = first_explained (first ++ next ∷ []) rest claim kept
    (subst (λ (l : List Noted). Explains (with_notes l) claim) (sym whole) x) in
    one_less first next other (record_shorter (first ++ next ∷ []) rest kept) explains

cut_explained : (n : ℕ) (kept : Option (List Noted)) (s : Sections) (notes : List Noted) (claim : Claim) → Keeps s kept → kept ≡ Some notes
    → Explains (record { sections = s; notes = kept }) claim → (other : Claim) × Explains (cut_of n kept s) other
cut_explained n None s notes claim keeps e x = absurd (cc)
cut_explained n (Some l) s notes claim keeps e x =
    let all : take n l ++ drop n l ≡ l = take-append-drop n l in
    let same : ◌≡◌ {A = History} (record { sections = s; notes = Some l }) (with_notes (take n l ++ drop n l)) =
    ap (λ (t : Sections). record { sections = t; notes = Some l }) keeps.1 ∙ ap (λ (m : List Noted). with_notes m) (sym all) in
    first_explained (take n l) (drop n l) claim (subst (λ (m : List Noted). is_record m ≡ true) (sym all) keeps.0)
    (subst (λ (h : History). Explains h claim) same x)

pub cuts_explained : (h : History) (notes : List Noted) (claim : Claim) (n : ℕ) → IsHistory h → h.notes ≡ Some notes → Explains h claim
    → (other : Claim) × Explains (cut n h) other
cuts_explained h notes claim n is e x = cut_explained n h.notes h.sections notes claim is.notes e x
