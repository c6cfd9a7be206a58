-- Lines that each spell an item, one line further on; and how a text's definition says the same of all lines.
use Rattle.std.proofs.Common.{◌≡◌, ◌↔◌, inl, inr, List, [], ◌∷◌, ◌++◌, refl, sym, ap, subst, ◌∙◌, append_assoc, append-nil}
use Rattle.mc_protocol.specs.{Lines.Words, Spelling.SpellEach}
use Rattle.mc_history.specs.Series.{Form, Series, listed}

-- a line tells its item, and whether it is one of the series; `V` is what the whole text spells
pub record IsReadable {S X V : Type 0} (f : Form S X) (Then : V → S → List Words → Type 0) : Type 0 where
  pub one : (line : Words) (x y : X) → f.Spells line x → f.Spells line y → x ≡ y
  pub apart : (v : V) (s : S) (line : Words) (lines : List Words) (x : X) → f.Spells line x → Then v s (line ∷ lines) → ⊥
  pub goes_on : (v : V) (s : S) → Then v s [] → ⊥

-- ---- what a reader knows of the lines that are left: they spell what the whole text does, of which `P` says what it is

-- after a line that spells an item
pub read_on : {S X V : Type 0} {f : Form S X} {Then : V → S → List Words → Type 0} {P : V → Type 0} → IsReadable f Then
    → (s next : S) (line : Words) (all lines : List Words) (x : X) → all ≡ line ∷ lines → next ≡ f.next s x → f.Spells line x → f.May s x
    → ((v : V) → Series f (Then v) s all ↔ P v) → (v : V) → Series f (Then v) next lines ↔ P v
read_on {S} {X} {V} {f} {Then} r s next line all lines x e d spelled may known v = (
  (λ h. (known v).0 (rw e (inr (x, spelled, may, rw d at h)))),
  (λ h. let here = rw e at (known v).1 h in rw d (elim here [
    | inl ends ↦ absurd (r.apart v s line lines x spelled ends)
    | inr (y, other, _, rest) ↦ let same = r.one line y x other spelled in let P : X → Type 0 = λ z. Series f (Then v) (f.next s z) lines in subst P same rest
  ])),
)

-- at a line that spells none
pub read_all : {S X V : Type 0} {f : Form S X} {Then : V → S → List Words → Type 0} {P : V → Type 0} → IsReadable f Then
    → (s : S) (line : Words) (all lines : List Words) → all ≡ line ∷ lines → ((x : X) → f.Spells line x → ⊥)
    → ((v : V) → Series f (Then v) s all ↔ P v) → (v : V) → P v ↔ Then v s (line ∷ lines)
read_all r s line all lines e none known v = (
  (λ h. let here = rw e at (known v).1 h in elim here [ inl ends ↦ ends | inr (x, spelled, _, _) ↦ absurd (none x spelled) ]),
  (λ h. (known v).0 (rw e (inl h))),
)

-- at a line that spells none that may come next, and that begins nothing else
pub stops : {S X V : Type 0} {f : Form S X} {Then : V → S → List Words → Type 0} {P : V → Type 0} → IsReadable f Then
    → (s : S) (line : Words) (all lines : List Words) → all ≡ line ∷ lines → ((x : X) → f.Spells line x → f.May s x → ⊥)
    → ((v : V) → Then v s (line ∷ lines) → ⊥) → ((v : V) → Series f (Then v) s all ↔ P v) → (v : V) → P v → ⊥
stops r s line all lines e none more known v h =
    let here = rw e at (known v).1 h in elim here [ inl ends ↦ more v ends | inr (x, spelled, may, _) ↦ none x spelled may ]

-- at a line that spells one that may not
pub stops_at : {S X V : Type 0} {f : Form S X} {Then : V → S → List Words → Type 0} {P : V → Type 0} → IsReadable f Then
    → (s : S) (line : Words) (all lines : List Words) (x : X) → all ≡ line ∷ lines → f.Spells line x → (f.May s x → ⊥)
    → ((v : V) → Series f (Then v) s all ↔ P v) → (v : V) → P v → ⊥
stops_at {S} {X} {V} {f} r s line all lines x e spelled fault =
    stops r s line all lines e (λ y other may. fault (subst (f.May s) (r.one line y x other spelled) may)) (λ v h. r.apart v s line lines x spelled h)

-- where no line is left
pub ended : {S X V : Type 0} {f : Form S X} {Then : V → S → List Words → Type 0} {P : V → Type 0} → IsReadable f Then
    → (s : S) (all : List Words) → all ≡ [] → ((v : V) → Series f (Then v) s all ↔ P v) → (v : V) → P v → ⊥
ended r s all e known v h = r.goes_on v s (rw e at (known v).1 h)

-- lines are read in one way
pub one_series : {S X V : Type 0} {f : Form S X} {Then : V → S → List Words → Type 0} → IsReadable f Then
    → (v w : V) (s : S) (lines : List Words) → Series f (Then v) s lines → Series f (Then w) s lines
    → (t : S) × (rest : List Words) × Then v t rest × Then w t rest
one_series r v w s [] h k = (s, [], h, k)
one_series r v w s (line ∷ lines) (inl h) (inl k) = (s, line ∷ lines, h, k)
one_series r v w s (line ∷ lines) (inl h) (inr (y, other, _, _)) = absurd (r.apart v s line lines y other h)
one_series r v w s (line ∷ lines) (inr (x, spelled, _, _)) (inl k) = absurd (r.apart w s line lines x spelled k)
one_series {S} {X} {V} {f} {Then} r v w s (line ∷ lines) (inr (x, spelled, _, h)) (inr (y, other, _, k)) =
    let P : X → Type 0 = λ z. Series f (Then w) (f.next s z) lines in
    one_series r v w (f.next s x) lines h (subst P (r.one line y x other spelled) k)

-- ---- all lines at once

-- what is known after these items
unfoldable pub after : {S X : Type 0} → Form S X → S → List X → S
after f s [] = s
after f s (x ∷ xs) = after f (f.next s x) xs

-- each of these items may come next
abbrev pub Along : {S X : Type 0} → Form S X → S → List X → Type 0
Along f s [] = Unit {0}
Along f s (x ∷ xs) = f.May s x × Along f (f.next s x) xs

-- where the items before are a list, so are these after them
pub after_listed : {X : Type 0} (Spells : Words → X → Type 0) (May : List X → X → Type 0) (begun items : List X)
    → after (listed Spells May) begun items ≡ begun ++ items
unfolding after
after_listed Spells May begun [] = sym (append-nil begun)
after_listed Spells May begun (x ∷ items) = after_listed Spells May (begun ++ x ∷ []) items ∙ append_assoc begun (x ∷ []) items

-- where each item may
pub along_freely : {X : Type 0} (Spells : Words → X → Type 0) (begun items : List X) → Along (listed Spells (λ _ _. Unit {0})) begun items
along_freely Spells begun [] = tt
along_freely Spells begun (x ∷ items) = (tt, along_freely Spells (begun ++ x ∷ []) items)

at_once : {S X : Type 0} (f : Form S X) (Then : S → List Words → Type 0) (s : S) (lines : List Words) → Then s lines → Series f Then s lines
at_once f Then s [] h = h
at_once f Then s (line ∷ lines) h = inl h

pub series_of : {S X : Type 0} (f : Form S X) (Then : S → List Words → Type 0) (s : S) (their tail : List Words) (items : List X)
    → SpellEach f.Spells their items → Along f s items → Then (after f s items) tail → Series f Then s (their ++ tail)
unfolding after
series_of f Then s [] tail [] each may h = at_once f Then s tail h
series_of f Then s [] tail (x ∷ items) each may h = absurd each
series_of f Then s (line ∷ their) tail [] each may h = absurd each
series_of f Then s (line ∷ their) tail (x ∷ items) each may h =
    inr (x, each.0, may.0, series_of f Then (f.next s x) their tail items each.1 may.1 h)

-- the lines of a series, the items that they spell, and what follows
pub record Parts {S X : Type 0} (f : Form S X) (Then : S → List Words → Type 0) (s : S) (lines : List Words) : Type 0 where
  pub their : List Words
  pub tail : List Words
  pub items : List X
  pub lines_are : lines ≡ their ++ tail
  pub each : SpellEach f.Spells their items
  pub may : Along f s items
  pub followed : Then (after f s items) tail

pub parts_of : {S X : Type 0} (f : Form S X) (Then : S → List Words → Type 0) (s : S) (lines : List Words) → Series f Then s lines → Parts f Then s lines
unfolding after
parts_of f Then s [] h = record { their = []; tail = []; items = []; lines_are = refl; each = tt; may = tt; followed = h }
parts_of f Then s (line ∷ lines) (inl h) = record { their = []; tail = line ∷ lines; items = []; lines_are = refl; each = tt; may = tt; followed = h }
parts_of f Then s (line ∷ lines) (inr (x, spelled, may, h)) =
    let p = parts_of f Then (f.next s x) lines h in
    record {
      their = line ∷ p.their;
      tail = p.tail;
      items = x ∷ p.items;
      lines_are = ap (λ ls. line ∷ ls) p.lines_are;
      each = (spelled, p.each);
      may = (may, p.may);
      followed = p.followed;
    }
