-- Paths of a section: the edges on the way from one place to another.
use Rattle.std.specs.Prelude.{◌≡◌, ◌⊎◌, ℕ, ◌+◌, ◌<◌, true, Some, List, [], ◌∷◌, length, slice_get, slice_index}
use Rattle.mc_protocol.specs.{Legal.is_legal, declared.reply.Class.Class, Words.class_index}
use Rattle.mc_script.specs.declared.step.Template.{Template}
use Rattle.mc_code.specs.declared.instr.Instr.{Instr}
use Rattle.mc_code.specs.declared.instr.Instr.TheVariants as instr

-- a send, with the class of its reply
abbrev pub Edge : Type 0
Edge = Template × Class

-- a goto leads to its place, and a bind to the place after it
abbrev pub Slides : Instr → ℕ → ℕ → Type 0
Slides (instr.Goto place) p q = q ≡ place
Slides (instr.Bind variable) p q = q ≡ p + 1
Slides (instr.Send t next) p q = ⊥
Slides instr.Halt p q = ⊥

-- the place to which a class leads
abbrev pub entry_of : List ℕ → Class → ℕ
entry_of next class = slice_index next (class_index class)

-- a send of this template leads, by each class that its verb may be answered with, to the place of the class
abbrev pub Sends : List Template → Instr → Template → Class → ℕ → Type 0
Sends templates (instr.Send t next) template class q =
    (slice_get templates t ≡ Some template) × (is_legal template.verb class ≡ true) × (q ≡ entry_of next class)
Sends templates (instr.Bind variable) template class q = ⊥
Sends templates (instr.Goto place) template class q = ⊥
Sends templates instr.Halt template class q = ⊥

-- these edges lead from one place to another
pub data IsPath (templates : List Template) (section : List Instr) : ℕ → List Edge → ℕ → Type 0 where
  stays : {p : ℕ} → IsPath templates section p [] p
  slides : {p q r : ℕ} {edges : List Edge} (i : Instr) → slice_get section p ≡ Some i → Slides i p q
      → IsPath templates section q edges r → IsPath templates section p edges r
  sends : {p q r : ℕ} {edges : List Edge} {template : Template} {class : Class} (i : Instr) → slice_get section p ≡ Some i
      → Sends templates i template class q → IsPath templates section q edges r
      → IsPath templates section p ((template, class) ∷ edges) r

-- each instruction leads to later places of the section alone, with a reply or without
abbrev pub LeadsForwards : List Template → List Instr → Type 0
LeadsForwards templates section = (i : Instr) (p q : ℕ) → slice_get section p ≡ Some i
    → Slides i p q ⊎ ((template : Template) × (class : Class) × Sends templates i template class q)
    → (p < q) × (q < length section)

-- the path leads to the section's end
abbrev pub IsComplete : List Template → List Instr → List Edge → Type 0
IsComplete templates section edges =
    (q : ℕ) × IsPath templates section 0 edges q × (slice_get section q ≡ Some instr.Halt)
