-- Paths: joined, longer by a move, and what holds along them.
use Rattle.std.proofs.Common.{◌≡◌, ℕ, Some, List, [], ◌∷◌, ◌++◌, slice_get, fold, refl, subst}
use Rattle.mc_protocol.specs.declared.reply.Class.{Class}
use Rattle.mc_script.specs.declared.step.Template.{Template}
use Rattle.mc_code.specs.Paths.{Edge, Slides, Sends, IsPath, stays, slides, sends}
use Rattle.mc_code.specs.{declared.instr.Instr.Instr, RunLaws.PathsSplit}

-- ---- longer paths

pub path_append : {templates : List Template} {section : List Instr} {p q r : ℕ} {xs ys : List Edge} → IsPath templates section p xs q
    → IsPath templates section q ys r → IsPath templates section p (xs ++ ys) r
path_append stays more = more
path_append (slides i at leads path) more = slides i at leads (path_append path more)
path_append (sends i at leads path) more = sends i at leads (path_append path more)

pub path_slides : {templates : List Template} {section : List Instr} {p q r : ℕ} {xs : List Edge} → IsPath templates section p xs q
    → (i : Instr) → slice_get section q ≡ Some i → Slides i q r → IsPath templates section p xs r
path_slides stays i at leads = slides i at leads stays
path_slides (slides j here on path) i at leads = slides j here on (path_slides path i at leads)
path_slides (sends j here on path) i at leads = sends j here on (path_slides path i at leads)

pub path_sends : {templates : List Template} {section : List Instr} {p q r : ℕ} {xs : List Edge} → IsPath templates section p xs q
    → (i : Instr) (template : Template) (class : Class) → slice_get section q ≡ Some i → Sends templates i template class r
    → IsPath templates section p (xs ++ (template, class) ∷ []) r
path_sends stays i template class at leads = sends i at leads stays
path_sends (slides j here on path) i template class at leads = slides j here on (path_sends path i template class at leads)
path_sends (sends j here on path) i template class at leads = sends j here on (path_sends path i template class at leads)

-- ---- what holds along a path

-- what a place and a value keep with each move, where an edge changes the value
pub record IsKept {V : Type 0} (templates : List Template) (section : List Instr) (after : V → Edge → V) (H : ℕ → V → Type 0) : Type 0 where
  pub slid : (i : Instr) (p q : ℕ) (v : V) → slice_get section p ≡ Some i → Slides i p q → H p v → H q v
  pub sent : (i : Instr) (p q : ℕ) (v : V) (template : Template) (class : Class) → slice_get section p ≡ Some i
      → Sends templates i template class q → H p v → H q (after v (template, class))

-- it holds at the end of each path from where it holds
pub kept_along : {V : Type 0} (templates : List Template) (section : List Instr) (after : V → Edge → V) (H : ℕ → V → Type 0)
    → IsKept templates section after H → (v : V) → {p q : ℕ} {edges : List Edge} → IsPath templates section p edges q → H p v → H q (fold after v edges)
kept_along templates section after H kept v stays h = h
kept_along templates section after H kept v (slides {p = p} {q = q} i at leads path) h =
    kept_along templates section after H kept v path (kept.slid i p q v at leads h)
kept_along templates section after H kept v (sends {p = p} {q = q} {template = template} {class = class} i at leads path) h =
    kept_along templates section after H kept (after v (template, class)) path (kept.sent i p q v template class at leads h)

-- ---- the first edge of a path

-- the path slides to where the edge is sent, and goes on from where that leads
pub record FirstEdge (templates : List Template) (section : List Instr) (p : ℕ) (edge : Edge) (edges : List Edge) (r : ℕ) : Type 0 where
  pub sent_at : ℕ
  pub led_to : ℕ
  pub i : Instr
  pub slides_there : IsPath templates section p [] sent_at
  pub at : slice_get section sent_at ≡ Some i
  pub leads : Sends templates i edge.0 edge.1 led_to
  pub more : IsPath templates section led_to edges r

pub path_first : (templates : List Template) (section : List Instr) (edge : Edge) (edges : List Edge) → {p r : ℕ} {all : List Edge}
    → IsPath templates section p all r → all ≡ edge ∷ edges → FirstEdge templates section p edge edges r
path_first templates section edge edges stays is = absurd (cc)
path_first templates section edge edges (slides i at leads path) is =
    let begins = path_first templates section edge edges path is in
    record {
      sent_at = begins.sent_at;
      led_to = begins.led_to;
      i = begins.i;
      slides_there = slides i at leads begins.slides_there;
      at = begins.at;
      leads = begins.leads;
      more = begins.more;
    }
path_first templates section edge edges (sends {p = p} {q = q} {r = r} {edges = others} {template = template} {class = class} i at leads path) is =
    let same : (template, class) ≡ edge = cc in
    let rest : others ≡ edges = cc in
    record {
      sent_at = p;
      led_to = q;
      i = i;
      slides_there = stays;
      at = at;
      leads = subst (λ (edge : Edge). Sends templates i edge.0 edge.1 q) same leads;
      more = subst (λ l. IsPath templates section q l r) rest path;
    }

-- a path of two parts goes by a place in between
pub path_split : (templates : List Template) (section : List Instr) (xs ys : List Edge) → {p r : ℕ} → IsPath templates section p (xs ++ ys) r
    → (q : ℕ) × IsPath templates section p xs q × IsPath templates section q ys r
path_split templates section [] ys {p = p} is_path = (p, stays, is_path)
path_split templates section (x ∷ xs) ys is_path =
    let begins = path_first templates section x (xs ++ ys) is_path refl in
    let rest = path_split templates section xs ys begins.more in
    (rest.0, path_append begins.slides_there (sends begins.i begins.at begins.leads rest.1), rest.2)

pub paths_split : PathsSplit
paths_split templates section xs ys p r = (path_split templates section xs ys, λ parts. path_append parts.1 parts.2)
