-- Laws of the numbers that variables have along a run, whatever the code is.
use Rattle.std.specs.Prelude.{◌≡◌, ◌⊎◌, ℕ, true, Some, List, [], ◌∷◌, map, slice_get}
use Rattle.std.specs.List.{All}
use Rattle.mc_protocol.specs.declared.request.Verb.TheVariants as verb
use Rattle.mc_protocol.specs.declared.reply.Reply.TheVariants as reply
use Rattle.mc_protocol.specs.Legal.{is_fit_for}
use Rattle.mc_script.specs.declared.step.Template.{Template}
use Rattle.mc_code.specs.{declared.instr.Instr.Instr, declared.kind.Kind.Kind, Paths.LeadsForwards, RunLaws.edges_of, Runs.Exchange}
use Rattle.mc_code.specs.{Runs.IsRun, States.Tagged, States.State}
use Rattle.mc_code.specs.declared.kind.Kind.TheVariants as kind

-- ---- cas uniques

-- the exchange is a `gets` of the key that was answered with this cas unique
abbrev pub Shows : ℕ → ℕ → Exchange → Type 0
Shows key number exchange = (flags : ℕ) × (body : List ℕ)
    × (exchange.0.verb ≡ verb.Gets) × (exchange.0.key ≡ key) × (exchange.1 ≡ reply.Hit flags body (Some number))

-- one of these exchanges is
abbrev pub IsShownIn : ℕ → ℕ → List Exchange → Type 0
IsShownIn key number [] = ⊥
IsShownIn key number (exchange ∷ exchanges) = Shows key number exchange ⊎ IsShownIn key number exchanges

-- the variable has this cas unique of the key
abbrev pub Holds : State → ℕ → ℕ → ℕ → Type 0
Holds st variable key number = slice_get st.variables variable ≡ Some (kind.Cas key, number)

-- a variable that has a cas unique had it at the start, or the last reply before the start shows it, or one of these exchanges
abbrev pub NumbersWereShown : Type 0
NumbersWereShown = (templates : List Template) (section : List Instr) (p q : ℕ) (st end : State) (exchanges : List Exchange)
    (variable key number : ℕ) → IsRun templates section p st exchanges q end → Holds end variable key number
    → Holds st variable key number ⊎ ((st.last ≡ (kind.Cas key, number)) ⊎ IsShownIn key number exchanges)

-- ---- kinds

-- what the numbers of the variables are
abbrev pub kinds_of : List Tagged → List Kind
kinds_of variables = map (λ (variable : Tagged). variable.0) variables

-- the variables of both have the same kinds, and so have the numbers that were shown last
abbrev pub HaveSameKinds : State → State → Type 0
HaveSameKinds st other = (kinds_of st.variables ≡ kinds_of other.variables) × (st.last.0 ≡ other.last.0)

-- runs by the same edges to one place, from states of the same kinds, end in states of the same kinds; where code leads
-- backwards a run may come to the place again, and bind on its way
abbrev pub KindsFollowEdges : Type 0
KindsFollowEdges = (templates : List Template) (section : List Instr) (p q : ℕ) (st other end end' : State) (xs ys : List Exchange)
    → LeadsForwards templates section → HaveSameKinds st other → edges_of xs ≡ edges_of ys
    → IsRun templates section p st xs q end → IsRun templates section p other ys q end' → HaveSameKinds end end'

-- the reply is one that its request may have
abbrev pub IsFit : Exchange → Type 0
IsFit exchange = is_fit_for exchange.0.verb exchange.1 ≡ true

-- where a run leads, other exchanges by the same edges lead too, from each state of the same kinds, to a state of the same kinds
abbrev pub EdgesLeadAlike : Type 0
EdgesLeadAlike = (templates : List Template) (section : List Instr) (p q : ℕ) (st other end : State) (xs ys : List Exchange)
    → HaveSameKinds st other → edges_of xs ≡ edges_of ys → All IsFit ys → IsRun templates section p st xs q end
    → (end' : State) × IsRun templates section p other ys q end' × HaveSameKinds end end'
