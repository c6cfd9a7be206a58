-- The cuts of a history.
use Rattle.std.proofs.Common.{◌≡◌, ◌≢◌, inl, inr, ℕ, ◌-◌, ◌≤◌, true, Option, Some, None, List, [], take, drop, length}
use Rattle.std.proofs.Common.{take-append-drop, refl, sym, subst, ap, ◌∙◌, arith}
use Rattle.std.proofs.{lemmas.Bool.cases_lt, lemmas.List.take_all, lemmas.List.take-take}
use Rattle.mc_protocol.specs.declared.actor.Actor.TheVariants as actor
use Rattle.mc_model.specs.Notes.{History, IsHistory, Keeps, Noted, is_record, sections_in}
use Rattle.mc_model.specs.{declared.sent.Sent.Sent, declared.rules.HistoryKind.HistoryKind, Sections.Sections, Sections.before, History.is_history}
use Rattle.mc_model.specs.declared.rules.HistoryKind.TheVariants as kind
use Rattle.mc_model.proofs.{NoteFaults.record_parts, NoteFaults.record_shorter, Prefixes.history_before_place}
use Rattle.mc_why.specs.Cuts.{count_of, cut, cut_of, first_requests, place_count}

-- ---- a cut of a history is a history

pub record_cut : (n : ℕ) (notes : List Noted) → is_record notes ≡ true → is_record (take n notes) ≡ true
record_cut n notes r =
    record_shorter (take n notes) (drop n notes) (subst (λ l. is_record l ≡ true) (sym (take-append-drop n notes)) r)

pub same_sections : (p q a c b d : List Sent) → p ≡ q → a ≡ c → b ≡ d → ◌≡◌ {A = Sections} (record { p = p; a = a; b = b }) (record { p = q; a = c; b = d })
same_sections p q a c b d e f g = rw (e, f, g) refl

none_taken : (m : ℕ) (xs : List Sent) → m ≡ 0 → take m xs ≡ []
none_taken m xs e = ap (λ n. take n xs) e

pub in_prefix : (n : ℕ) (s : Sections) → n ≤ length s.p → first_requests n s ≡ before s actor.P n
in_prefix n s few =
    same_sections (take n s.p) (take n s.p) (take (n - length s.p) s.a) [] (take (n - length s.p - length s.a) s.b) [] refl
    (none_taken (n - length s.p) s.a (omega arith))
    (none_taken (n - length s.p - length s.a) s.b (omega arith))

in_first : (n : ℕ) (s : Sections) → length s.p ≤ n → n - length s.p ≤ length s.a → first_requests n s ≡ before s actor.A (n - length s.p)
in_first n s more few =
    same_sections (take n s.p) s.p (take (n - length s.p) s.a) (take (n - length s.p) s.a) (take (n - length s.p - length s.a) s.b) []
    (take_all n s.p more) refl
    (none_taken (n - length s.p - length s.a) s.b (omega arith))

in_second : (n : ℕ) (s : Sections) → length s.p ≤ n → length s.a ≤ n - length s.p
    → first_requests n s ≡ before s actor.B (n - length s.p - length s.a)
in_second n s more many =
    same_sections (take n s.p) s.p (take (n - length s.p) s.a) s.a (take (n - length s.p - length s.a) s.b) (take (n - length s.p - length s.a) s.b)
    (take_all n s.p more) (take_all (n - length s.p) s.a many) refl

pub sections_cut : (n : ℕ) (s : Sections) → is_history s ≡ true → is_history (first_requests n s) ≡ true
sections_cut n s h =
    elim (cases_lt n (length s.p)) [
      | inl few ↦ ap is_history (in_prefix n s (omega arith)) ∙ history_before_place s actor.P n h
      | inr more ↦ elim (cases_lt (n - length s.p) (length s.a)) [
        | inl few ↦ ap is_history (in_first n s more (omega arith)) ∙ history_before_place s actor.A (n - length s.p) h
        | inr many ↦ ap is_history (in_second n s more many) ∙ history_before_place s actor.B (n - length s.p - length s.a) h
      ]
    ]

history_cut_of : (n : ℕ) (notes : Option (List Noted)) (s : Sections) → is_history s ≡ true → Keeps s notes → IsHistory (cut_of n notes s)
history_cut_of n None s h keeps = record { sections = sections_cut n s h; notes = tt }
history_cut_of n (Some notes) s h keeps =
    let r = record_cut n notes keeps.0 in
    record { sections = (record_parts (take n notes) r).1; notes = (r, refl) }

pub history_cut : (h : History) (n : ℕ) → IsHistory h → IsHistory (cut n h)
history_cut h n is = history_cut_of n h.notes h.sections is.sections is.notes

-- ---- the last cut

whole_of : (n : ℕ) (notes : Option (List Noted)) (s : Sections) → Keeps s notes → count_of notes s ≤ n
    → cut_of n notes s ≡ record { sections = s; notes = notes }
whole_of n None s keeps many =
    ap (λ (t : Sections). record { sections = t; notes = None })
    (same_sections _ _ _ _ _ _ (take_all n s.p (omega arith)) (take_all (n - length s.p) s.a (omega arith))
    (take_all (n - length s.p - length s.a) s.b (omega arith)))
whole_of n (Some notes) s keeps many =
    ap (λ (l : List Noted). record { sections = sections_in l; notes = Some l }) (take_all n notes many)
    ∙ ap (λ (t : Sections). record { sections = t; notes = Some notes }) (sym keeps.1)

pub whole : (h : History) (n : ℕ) → IsHistory h → place_count h ≤ n → cut n h ≡ h
whole h n is many = whole_of n h.notes h.sections is.notes many

-- ---- a cut of a cut

pub cut_again : (h : History) (notes : List Noted) (m n : ℕ) → h.notes ≡ Some notes → m ≤ n → cut m (cut n h) ≡ cut m h
cut_again h notes m n e few =
    rw e (ap (λ (l : List Noted). record { sections = sections_in l; notes = Some l }) (take-take m n notes few))

-- ---- what is refused

-- a history is refused for want of memory alone
pub memory_alone : (k : HistoryKind) → (k ≢ kind.OutOfMemory → ⊥) → k ≡ kind.OutOfMemory
memory_alone kind.OutOfMemory other = refl
memory_alone kind.Header other = absurd (other (λ e. cc))
memory_alone kind.Line other = absurd (other (λ e. cc))
memory_alone kind.Number other = absurd (other (λ e. cc))
memory_alone kind.Order other = absurd (other (λ e. cc))
memory_alone kind.WrongReply other = absurd (other (λ e. cc))
memory_alone kind.NotCleared other = absurd (other (λ e. cc))
memory_alone kind.UnseenNumber other = absurd (other (λ e. cc))
memory_alone kind.TooMany other = absurd (other (λ e. cc))
memory_alone kind.Unended other = absurd (other (λ e. cc))
