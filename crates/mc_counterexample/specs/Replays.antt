-- Where the sections stand along the replies of a run, and how it may go on from there. Private contracts cite it.
--
-- A section stands where its last reply led, or at its first place; the instructions up to its next send come with its next
-- reply, or at the end.
use Rattle.std.specs.Prelude.{◌≡◌, ℕ, ◌<◌, Bool, true, false, ◌||◌, Some, List, [], ◌++◌, length, slice_get}
use Rattle.std.specs.List.{list_all}
use Rattle.mc_protocol.specs.declared.sections.Sections.{Sections}
use Rattle.mc_protocol.specs.{Merge.IsMerge, Sections.section_of, declared.actor.Actor.Actor, declared.reply.Class.Class}
use Rattle.mc_protocol.specs.declared.actor.Actor.TheVariants as actor
use Rattle.mc_script.specs.declared.step.Template.{Template}
use Rattle.mc_code.specs.{Code.Code, Code.instructions_in, Paths.Edge, Paths.Slides, Paths.Sends, Paths.IsPath, declared.instr.Instr.Instr}
use Rattle.mc_code.specs.declared.instr.Instr.TheVariants as instr
use Rattle.mc_sound.specs.Interleavings.{Stage, staged}

-- ---- one section

-- these edges lead the section from one place to another
abbrev pub LeadsBetween : Code → Actor → ℕ → List Edge → ℕ → Type 0
LeadsBetween c actor from edges place = IsPath c.templates (instructions_in c actor) from edges place

-- the instruction at the place leads to the other one without a reply
abbrev pub SlidesAt : Code → Actor → ℕ → ℕ → Type 0
SlidesAt c actor place other = (i : Instr) × (slice_get (instructions_in c actor) place ≡ Some i) × Slides i place other

-- no instruction leads on from the place without a reply
abbrev pub RestsAt : Code → Actor → ℕ → Type 0
RestsAt c actor place = (other : ℕ) → SlidesAt c actor place other → ⊥

-- from the place the section comes to a send of the template without a reply, and a reply of the class leads on to the other
-- place
pub record IsAnswered (c : Code) (actor : Actor) (place : ℕ) (t : Template) (class : Class) (other : ℕ) : Type 0 where
  pub sent_at : ℕ
  pub i : Instr
  pub slides_there : LeadsBetween c actor place [] sent_at
  pub at : slice_get (instructions_in c actor) sent_at ≡ Some i
  pub leads : Sends c.templates i t class other

-- ---- all sections

-- each section stands at a place that it has
abbrev pub AreInside : Code → Sections ℕ → Type 0
AreInside c places = (actor : Actor) → section_of places actor < length (instructions_in c actor)

-- where each section begins
abbrev pub first_places : Sections ℕ
first_places = record { p = 0; a = 0; b = 0 }

-- the places after the section came to this one
abbrev pub moved : Sections ℕ → Actor → ℕ → Sections ℕ
moved places actor.P place = record { p = place; a = places.a; b = places.b }
moved places actor.A place = record { p = places.p; a = place; b = places.b }
moved places actor.B place = record { p = places.p; a = places.a; b = place }

-- P comes from the place to its end without a reply
abbrev pub Ends : Code → ℕ → Type 0
Ends c place =
    (end : ℕ) × LeadsBetween c actor.P place [] end × (slice_get (instructions_in c actor.P) end ≡ Some instr.Halt)

abbrev pub is_branch : Actor → Bool
is_branch actor.P = false
is_branch actor.A = true
is_branch actor.B = true

-- on the way to a place of the named section, a reply of this section may follow: one of P, or, where the named section is a
-- branch, one of either branch after P's last
abbrev pub MayFollow : Code → Actor → ℕ → Actor → Type 0
MayFollow c named place_p actor.P = Unit {0}
MayFollow c named place_p actor.A = (is_branch named ≡ true) × Ends c place_p
MayFollow c named place_p actor.B = (is_branch named ≡ true) × Ends c place_p

-- on the way to a place of the named section, this section's reply of the class to a send of the template leads to the other
-- places
pub record GoesOn (c : Code) (named : Actor) (places : Sections ℕ) (actor : Actor) (t : Template) (class : Class) (others : Sections ℕ)
    : Type 0 where
  pub place : ℕ
  pub follows : MayFollow c named places.p actor
  pub answered : IsAnswered c actor (section_of places actor) t class place
  pub others_are : others ≡ moved places actor place

-- the section is this one
abbrev pub is_of : Actor → Actor → Bool
is_of actor.P actor.P = true
is_of actor.A actor.A = true
is_of actor.B actor.B = true
is_of _ _ = false

-- the reply is one of P or of the named section
abbrev pub is_heard : Actor → Actor × Class → Bool
is_heard named reply = is_of actor.P reply.0 || is_of named reply.0

abbrev pub are_heard : Actor → List (Actor × Class) → Bool
are_heard named shown = list_all (is_heard named) shown

-- ---- interleavings from places on

-- as `LeadsToBoth`, but from these places
pub record LeadsToBothFrom (c : Code) (places : Sections ℕ) (place_a place_b : ℕ) (interleaving : List Stage) : Type 0 where
  pub before : List Edge
  pub a : List Edge
  pub b : List Edge
  pub merged : List Stage
  pub end : ℕ
  pub path_p : LeadsBetween c actor.P places.p before end
  pub halts : slice_get (instructions_in c actor.P) end ≡ Some instr.Halt
  pub path_a : LeadsBetween c actor.A places.a a place_a
  pub path_b : LeadsBetween c actor.B places.b b place_b
  pub merge : IsMerge (staged actor.A a) (staged actor.B b) merged
  pub interleaving_is : interleaving ≡ staged actor.P before ++ merged

-- as `LeadsTo`, but from these places
abbrev pub LeadsFrom : Code → Sections ℕ → Actor → ℕ → List Stage → Type 0
LeadsFrom c places actor.P place interleaving =
    (edges : List Edge) × LeadsBetween c actor.P places.p edges place × (interleaving ≡ staged actor.P edges)
LeadsFrom c places actor.A place interleaving = (other : ℕ) × LeadsToBothFrom c places place other interleaving
LeadsFrom c places actor.B place interleaving = (other : ℕ) × LeadsToBothFrom c places other place interleaving
