-- The notes of the requests on a key are in order where all notes are.
use Rattle.std.proofs.Common.{◌≡◌, ℕ, Bool, true, false, cond, not, ◌&&◌, eqb, eqb-true, List, [], ◌∷◌, refl, ap, ◌∙◌}
use Rattle.std.proofs.lemmas.Bool.{and_parts}
use Rattle.std.specs.Str.{bytes_eq}
use Rattle.mc_model.specs.declared.note.Note.TheVariants as note
use Rattle.mc_timeline.specs.Timelines.{ClientNote, Waiting, with_waiting, are_in_order, restricted_after}
use Rattle.mc_timeline.specs.Laws.{RestrictionsKeepOrder}

-- who waits on the key is who waits, and whose last request is on the key
abbrev WaitsOnKey : Waiting → Waiting → Waiting → Type 0
WaitsOnKey asks on waits = (client : ℕ) → waits client ≡ (asks client && on client)

off_true : (b : Bool) → not b ≡ true → b ≡ false
off_true true e = absurd (cc)
off_true false e = refl

restricted_in_order : (asks on waits : Waiting) (key : List ℕ) (notes : List ClientNote) → WaitsOnKey asks on waits → are_in_order asks notes ≡ true
    → are_in_order waits (restricted_after on key notes) ≡ true
restricted_in_order asks on waits key [] same ordered = refl
restricted_in_order asks on waits key ((who, note.Begin request) ∷ notes) same ordered =
    let parts = and_parts (not (asks who)) (are_in_order (with_waiting asks who true) notes) ordered in
    let free = off_true (asks who) parts.0 in
    let none : waits who ≡ false = same who ∙ ap (λ b. b && on who) free in
    by (bytes_eq request.key key) none (λ on' waits' s. restricted_in_order (with_waiting asks who true) on' waits' key notes s parts.1)
  where
    by : (b : Bool) → waits who ≡ false
        → ((on' waits' : Waiting) → WaitsOnKey (with_waiting asks who true) on' waits' → are_in_order waits' (restricted_after on' key notes) ≡ true)
        → are_in_order waits
        (cond b ((who, note.Begin request) ∷ restricted_after (with_waiting on who b) key notes) (restricted_after (with_waiting on who b) key notes))
        ≡ true
    by true none rest =
        let more = rest (with_waiting on who true) (with_waiting waits who true) (λ c. at c (eqb c who)) in
        rw (none, more) refl
      where
        at : (c : ℕ) (b : Bool) → cond b true (waits c) ≡ (cond b true (asks c) && cond b true (on c))
        at c true = refl
        at c false = same c
    by false none rest = rest (with_waiting on who false) waits (λ c. at c (eqb c who) refl)
      where
        at : (c : ℕ) (b : Bool) → eqb c who ≡ b → waits c ≡ (cond b true (asks c) && cond b false (on c))
        at c true e = ap waits (eqb-true c who e) ∙ none
        at c false e = same c
restricted_in_order asks on waits key ((who, note.Reply reply) ∷ notes) same ordered =
    let parts = and_parts (asks who) (are_in_order (with_waiting asks who false) notes) ordered in
    let both : waits who ≡ on who = same who ∙ ap (λ b. b && on who) parts.0 in
    by (on who) refl both (λ waits' s. restricted_in_order (with_waiting asks who false) on waits' key notes s parts.1)
  where
    by : (b : Bool) → on who ≡ b → waits who ≡ on who
        → ((waits' : Waiting) → WaitsOnKey (with_waiting asks who false) on waits' → are_in_order waits' (restricted_after on key notes) ≡ true)
        → are_in_order waits (cond b ((who, note.Reply reply) ∷ restricted_after on key notes) (restricted_after on key notes)) ≡ true
    by true e both rest =
        let more = rest (with_waiting waits who false) (λ c. at c (eqb c who)) in
        rw (both, e, more) refl
      where
        at : (c : ℕ) (b : Bool) → cond b false (waits c) ≡ (cond b false (asks c) && on c)
        at c true = refl
        at c false = same c
    by false e both rest = rest waits (λ c. at c (eqb c who) refl)
      where
        at : (c : ℕ) (b : Bool) → eqb c who ≡ b → waits c ≡ (cond b false (asks c) && on c)
        at c true f = ap waits (eqb-true c who f) ∙ both ∙ e
        at c false f = same c

pub order_kept : RestrictionsKeepOrder
order_kept notes key ordered = restricted_in_order (λ client. false) (λ client. false) (λ client. false) key notes (λ client. refl) ordered
