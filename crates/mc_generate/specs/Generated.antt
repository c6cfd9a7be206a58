-- Which script a generator makes.
use Rattle.std.specs.Prelude.{ℕ, ◌+◌, ◌==◌, Option, Some, None, List, [], ◌∷◌, ◌++◌, codes, decimal, if◌then◌else◌}
use Rattle.mc_protocol.specs.{Lines.Word, declared.request.Verb.Verb}
use Rattle.mc_protocol.specs.declared.reply.Class.TheVariants as class
use Rattle.mc_protocol.specs.declared.request.Verb.TheVariants as verb
use Rattle.mc_script.specs.{Script.Names, Script.Section, Script.Script, declared.section.Budget.Budget, declared.section.Label.Label}
use Rattle.mc_script.specs.{declared.step.Argument.Argument, declared.step.Step.Step, declared.step.Template.Template}
use Rattle.mc_script.specs.declared.step.Argument.TheVariants as argument
use Rattle.mc_script.specs.declared.step.Step.TheVariants as step
use Rattle.mc_settings.specs.JobKeys.{keys_of}
use Rattle.mc_generate.specs.Outputs.{Outputs, rest, draw, outputs_for}
use Rattle.mc_generate.specs.{declared.piece.Piece.Piece, Pieces.branch_in}
use Rattle.mc_generate.specs.declared.piece.Piece.TheVariants as piece

-- ---- names and budgets

-- two keys, the flag `f`, and the variable `v`
abbrev pub names_of : ℕ → Names
names_of job = record {
  keys = keys_of job;
  flags = codes "f" ∷ [];
  vars = codes "v" ∷ [];
}

-- the budget of each section
abbrev pub budget : Budget
budget = record { requests = 24; bytes = 8192 }

-- ---- requests

-- a request without marks
abbrev pub request : Verb → ℕ → Argument → List ℕ → Template
request verb key argument body = record {
  verb = verb;
  key = key;
  flags = 0;
  argument = argument;
  body = body;
  require_set = 0;
  require_clear = 0;
  sets = 0;
  clears = 0;
}

-- it stores the decimal of a number
abbrev pub storing : Verb → ℕ → ℕ → Template
storing verb key body = request verb key argument.Nothing (decimal body)

-- it counts by a number
abbrev pub counting : Verb → ℕ → ℕ → Template
counting verb key amount = request verb key (argument.Number amount) []

-- it has a key alone
abbrev pub bare : Verb → ℕ → Template
bare verb key = request verb key argument.Nothing []

-- `+f` after the request, and `?f`
abbrev pub setting_flag : Template → Template
setting_flag t = record t { sets = 1 }

abbrev pub needing_flag : Template → Template
needing_flag t = record t { require_set = 1 }

-- a step that sends the request, and goes on to the next step after any reply
abbrev pub send : Template → Step
send t = step.Send t [] None

-- ---- the branches

-- `l<index>`
abbrev pub label_name : ℕ → Word
label_name index = codes "l" ++ decimal index

-- the steps of a piece, where this many labels stand before it in its section
abbrev pub steps_of : ℕ → Piece → List Step
steps_of labels (piece.Set key body) = send (storing verb.Set key body) ∷ []
steps_of labels (piece.Add key body) = send (storing verb.Add key body) ∷ []
steps_of labels (piece.Append key body) = send (storing verb.Append key body) ∷ []
steps_of labels (piece.Incr key amount) = send (counting verb.Incr key amount) ∷ []
steps_of labels (piece.Decr key amount) = send (counting verb.Decr key amount) ∷ []
steps_of labels (piece.Delete key) = send (bare verb.Delete key) ∷ []
steps_of labels (piece.Get key) = send (needing_flag (bare verb.Get key)) ∷ []
steps_of labels (piece.Swap key body) =
    step.Send (bare verb.Gets key) ((class.Miss, labels) ∷ []) (Some 0)
    ∷ send (request verb.Cas key (argument.Variable 0) (decimal body)) ∷ []

-- the steps of pieces, one after the other, where this many labels stand before them
abbrev pub steps_of_all : ℕ → List Piece → List Step
steps_of_all labels [] = []
steps_of_all labels (piece.Swap key body ∷ pieces) = steps_of labels (piece.Swap key body) ++ steps_of_all (labels + 1) pieces
steps_of_all labels (p ∷ pieces) = steps_of labels p ++ steps_of_all labels pieces

-- their labels, where the first piece has this index and its first step this place: that of a swap stands after its steps
abbrev pub labels_of_all : ℕ → ℕ → List Piece → List Label
labels_of_all index place [] = []
labels_of_all index place (piece.Swap key body ∷ pieces) =
    record { name = label_name index; place = place + 2 } ∷ labels_of_all (index + 1) (place + 2) pieces
labels_of_all index place (p ∷ pieces) = labels_of_all (index + 1) (place + 1) pieces

abbrev pub branch_of : List Piece → Section
branch_of pieces = record { budget = budget; steps = steps_of_all 0 pieces; labels = labels_of_all 0 0 pieces }

-- ---- P

-- the body that P stores at the second key, where it stores one there; and the outputs after it
abbrev pub second_in : ℕ → Outputs → Option ℕ × Outputs
second_in lot outputs = if lot == 1 then (Some (draw 100 outputs), rest outputs) else (None, outputs)

abbrev pub second_step : Option ℕ → List Step
second_step None = []
second_step (Some body) = send (storing verb.Set 1 body) ∷ []

-- P stores a body at the first key, sets the flag, and may store one at the second key
abbrev pub prefix_of : ℕ → Option ℕ → Section
prefix_of first second = record {
  budget = budget;
  steps = send (setting_flag (storing verb.Set 0 first)) ∷ second_step second;
  labels = [];
}

-- ---- the whole script

-- what the outputs say: P's bodies, and the pieces of A and of B
pub record Plan : Type 0 where
  pub first : ℕ
  pub second : Option ℕ
  pub a : List Piece
  pub b : List Piece

-- P's first body is drawn, then whether it has a second one, then that; then A's pieces, and B's
abbrev pub plan_in : Outputs → Plan
plan_in outputs =
    let second = second_in (draw 2 (rest outputs)) (rest (rest outputs)) in
    let a = branch_in second.1 in
    let b = branch_in a.1 in record { first = draw 100 outputs; second = second.0; a = a.0; b = b.0 }

abbrev pub script_of : ℕ → Plan → Script
script_of job plan = record {
  names = names_of job;
  sections = record { p = prefix_of plan.first plan.second; a = branch_of plan.a; b = branch_of plan.b };
}

-- the script of a job
unfoldable pub generated : ℕ → ℕ → Script
generated seed job = script_of job (plan_in (outputs_for seed job))
