-- The first fault of sections: there is one where they are no history, and only one.
use Rattle.std.proofs.Common.{◌≡◌, ◌⊎◌, inl, inr, ℕ, ◌<◌, true, false, Option, Some, None, List, [], ◌∷◌, ◌++◌, length, take, slice_get}
use Rattle.std.proofs.Common.{append_assoc, append-nil, length-take, length-append, take-take, arith, refl, sym, ap, subst, ◌∙◌}
use Rattle.std.proofs.lemmas.Option.{slice_get_within, slice_get-get_or, get_or_from_slice_get, same_Some}
use Rattle.std.proofs.{lemmas.Bool.both_ways, lemmas.Bool.cases_order, lemmas.List.take_at, lemmas.List.get_or_at, lemmas.List.get_or-take}
use Rattle.mc_model.specs.{Types.Actor, Types.Sent, Types.HistoryKind, Sections.Sections, Sections.no_sections, Sections.before, History.is_history}
use Rattle.mc_model.specs.{History.comes_late, History.fault_at, History.IsFirstFault, Next.with_section, Next.FailsAt}
use Rattle.mc_protocol.specs.declared.actor.Actor.TheVariants as actor
use Rattle.mc_model.proofs.{Faults.nothing_sent, Faults.no_fault, Prefixes.no_history, Prefixes.added_last}

-- sections whose part before one first fault has another, are none
clash : (s : Sections) (k j : HistoryKind) (who other : Actor) (n m : ℕ) → IsFirstFault (before s other m) k who n → IsFirstFault s j other m → ⊥
clash s k j who other n m f g = both_ways (is_history (before s other m)) (no_history (before s other m) k who n f) g.history

slice_get-take : (m n : ℕ) (xs : List Sent) (x : Sent) → n < m → slice_get xs n ≡ Some x → slice_get (take m xs) n ≡ Some x
slice_get-take m n xs x less at =
    let within = slice_get_within xs n x at in
    slice_get-get_or (take m xs) n x (simp length-take (omega arith)) ∙ ap Some (get_or-take m xs n x less ∙ get_or_from_slice_get xs n x x at)

-- an earlier fault of a section is one of what stands before a later place
earlier : (s : Sections) (k : HistoryKind) (who : Actor) (n m : ℕ) → n < m → IsFirstFault s k who n → IsFirstFault (before s who m) k who n
earlier s k actor.P n m less f =
    let same : take n (take m s.p) ≡ take n s.p = take-take n m s.p (omega arith) in
    record { history = rw same f.history; sent = f.sent; request = slice_get-take m n s.p f.sent less f.request; fault = rw same f.fault }
earlier s k actor.A n m less f =
    let same : take n (take m s.a) ≡ take n s.a = take-take n m s.a (omega arith) in
    record { history = rw same f.history; sent = f.sent; request = slice_get-take m n s.a f.sent less f.request; fault = rw same f.fault }
earlier s k actor.B n m less f =
    let same : take n (take m s.b) ≡ take n s.b = take-take n m s.b (omega arith) in
    record { history = rw same f.history; sent = f.sent; request = slice_get-take m n s.b f.sent less f.request; fault = rw same f.fault }

same_place : (s : Sections) (k j : HistoryKind) (who : Actor) (n m : ℕ) → IsFirstFault s k who n → IsFirstFault s j who m → n ≡ m
same_place s k j who n m f g =
    elim (cases_order n m) [
      | inl e ↦ e
      | inr (inl h) ↦ absurd (clash s k j who who n m (earlier s k who n m h f) g)
      | inr (inr h) ↦ absurd (clash s j k who who m n (earlier s j who m n h g) f)
    ]

same_section : (s : Sections) (k j : HistoryKind) (who other : Actor) (n m : ℕ) → IsFirstFault s k who n → IsFirstFault s j other m → who ≡ other
same_section s k j actor.P actor.P n m f g = refl
same_section s k j actor.A actor.A n m f g = refl
same_section s k j actor.B actor.B n m f g = refl
same_section s k j actor.P actor.A n m f g =
    absurd (clash s k j actor.P actor.A n m (record { history = f.history; sent = f.sent; request = f.request; fault = f.fault }) g)
same_section s k j actor.P actor.B n m f g =
    absurd (clash s k j actor.P actor.B n m (record { history = f.history; sent = f.sent; request = f.request; fault = f.fault }) g)
same_section s k j actor.A actor.B n m f g =
    absurd (clash s k j actor.A actor.B n m (record { history = f.history; sent = f.sent; request = f.request; fault = f.fault }) g)
same_section s k j actor.A actor.P n m f g =
    absurd (clash s j k actor.P actor.A m n (record { history = g.history; sent = g.sent; request = g.request; fault = g.fault }) f)
same_section s k j actor.B actor.P n m f g =
    absurd (clash s j k actor.P actor.B m n (record { history = g.history; sent = g.sent; request = g.request; fault = g.fault }) f)
same_section s k j actor.B actor.A n m f g =
    absurd (clash s j k actor.A actor.B m n (record { history = g.history; sent = g.sent; request = g.request; fault = g.fault }) f)

same_kind : (s : Sections) (k j : HistoryKind) (who : Actor) (n : ℕ) → IsFirstFault s k who n → IsFirstFault s j who n → k ≡ j
same_kind s k j who n f g =
    let sent : f.sent ≡ g.sent = same_Some f.sent g.sent (sym f.request ∙ g.request) in
    same_Some k j (sym f.fault ∙ ap (fault_at (before s who n) who) sent ∙ g.fault)

-- sections have at most one first fault
pub one_first_fault : (s : Sections) (k j : HistoryKind) (who other : Actor) (n m : ℕ) → IsFirstFault s k who n → IsFirstFault s j other m
    → (k ≡ j) × (who ≡ other) × (n ≡ m)
one_first_fault s k j who other n m f g =
    let section = same_section s k j who other n m f g in
    let there : IsFirstFault s j who m = subst (λ w. IsFirstFault s j w m) (sym section) g in
    let place = same_place s k j who n m f there in
    (same_kind s k j who n f (subst (λ p. IsFirstFault s j who p) (sym place) there), section, place)

-- a section's requests after those that made a history: all do, or one fails first
walk : (s : Sections) (who : Actor) (done rest : List Sent) → comes_late s who ≡ false → is_history (with_section s who done) ≡ true
    → (is_history (with_section s who (done ++ rest)) ≡ true) ⊎ ((kind : HistoryKind) × (place : ℕ) × FailsAt s who (done ++ rest) kind place)
walk s who done [] late h = inl (rw (append-nil done) h)
walk s who done (x ∷ xs) late h =
    let at_x : (fault : Option HistoryKind) → fault_at (with_section s who done) who x ≡ fault
    → (is_history (with_section s who (done ++ x ∷ xs)) ≡ true) ⊎ ((kind : HistoryKind) × (place : ℕ) × FailsAt s who (done ++ x ∷ xs) kind place) =
    λ fault. elim fault as (λ o. fault_at (with_section s who done) who x ≡ o
    → (is_history (with_section s who (done ++ x ∷ xs)) ≡ true) ⊎ ((kind : HistoryKind) × (place : ℕ) × FailsAt s who (done ++ x ∷ xs) kind place)) [
      | None ↦ λ none.
          let next : is_history (with_section s who (done ++ x ∷ [])) ≡ true =
          ap is_history (added_last s who done x) ∙ (no_fault (with_section s who done) who x none).1 in
          subst (λ all. (is_history (with_section s who all) ≡ true) ⊎ ((kind : HistoryKind) × (place : ℕ) × FailsAt s who all kind place))
          (append_assoc done (x ∷ []) xs)
          (walk s who (done ++ x ∷ []) xs late next)
      | Some kind ↦ λ fault.
          let front : take (length done) (done ++ x ∷ xs) ≡ done = take_at done (x ∷ xs) (length done) refl in
          inr (
            kind,
            length done,
            record {
              history = rw front h;
              sent = x;
              request = slice_get-get_or (done ++ x ∷ xs) (length done) x (simp length-append (omega arith))
                  ∙ ap Some (get_or_at done x xs x (length done) refl);
              fault = rw front fault;
            },
          )
    ] in
    at_x (fault_at (with_section s who done) who x) refl

abbrev Faulty : Sections → Type 0
Faulty s = (kind : HistoryKind) × (who : Actor) × (place : ℕ) × IsFirstFault s kind who place

history_or_fault : (s : Sections) → (is_history s ≡ true) ⊎ Faulty s
history_or_fault s =
    elim (walk no_sections actor.P [] s.p refl nothing_sent) [
      | inr f ↦ inr (f.0, actor.P, f.1, record { history = f.2.history; sent = f.2.sent; request = f.2.request; fault = f.2.fault })
      | inl p ↦
          elim (walk (with_section no_sections actor.P s.p) actor.A [] s.a refl p) [
            | inr f ↦ inr (f.0, actor.A, f.1, record { history = f.2.history; sent = f.2.sent; request = f.2.request; fault = f.2.fault })
            | inl a ↦
                elim (walk (record { p = s.p; a = s.a; b = [] }) actor.B [] s.b refl a) [
                  | inr f ↦ inr (f.0, actor.B, f.1, record { history = f.2.history; sent = f.2.sent; request = f.2.request; fault = f.2.fault })
                  | inl whole ↦ inl whole
                ]
          ]
    ]

-- sections that are no history have a first fault
pub first_fault : (s : Sections) → is_history s ≡ false → (kind : HistoryKind) × (who : Actor) × (place : ℕ) × IsFirstFault s kind who place
first_fault s none = elim (history_or_fault s) [ inl h ↦ absurd (both_ways (is_history s) none h) | inr f ↦ f ]
