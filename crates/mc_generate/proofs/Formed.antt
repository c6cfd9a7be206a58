-- What the outputs of a generator say is a script.
use Rattle.std.proofs.Common.{ℕ, ◌+◌, ◌<◌, ◌≤◌, ◌==◌, Option, Some, None, List, [], length}
use Rattle.std.proofs.{Common.refl, Common.arith, lemmas.Bool.cond_both}
use Rattle.mc_protocol.specs.Decimals.{MAX_64}
use Rattle.mc_script.specs.WellFormed.{IsSection, IsScript}
use Rattle.mc_generate.specs.Outputs.{Outputs, rest, draw, outputs_for}
use Rattle.mc_generate.specs.Generated.{names_of, branch_of, prefix_of, second_in, Plan, plan_in, script_of, generated}
use Rattle.mc_generate.specs.{declared.piece.Piece.Piece, Pieces.branch_in, Generated.steps_of_all}
use Rattle.mc_generate.proofs.BranchSteps.{stores, sets-flag, branch-steps, few-steps, branch-labels, labels-distinct}
use Rattle.mc_generate.proofs.{PieceFacts.ArePieces, PieceFacts.are-pieces, PieceFacts.length-pieces, NameFacts.declared}

-- a body that P may store
abbrev IsBody : Option ℕ → Type 0
IsBody None = Unit {0}
IsBody (Some body) = body < 100

-- pieces that a branch may have
record IsBranch (pieces : List Piece) : Type 0 where
  pub are : ArePieces pieces
  pub few : length pieces ≤ 3

-- what a script may be made of
record IsPlan (plan : Plan) : Type 0 where
  pub first : plan.first < 100
  pub second : IsBody plan.second
  pub a : IsBranch plan.a
  pub b : IsBranch plan.b

-- ---- what outputs say

second-body : (lot : ℕ) (outputs : Outputs) → IsBody (second_in lot outputs).0
second-body lot outputs =
    let P : Option ℕ × Outputs → Type 0 = λ r. IsBody r.0 in
    cond_both (lot == 1) (Some (draw 100 outputs), rest outputs) (None, outputs) P (λ _. omega arith) (λ _. tt)

branch-in : (outputs : Outputs) → IsBranch (branch_in outputs).0
branch-in outputs =
    let size = length-pieces (1 + draw 3 outputs) (rest outputs) in
    record { are = are-pieces (1 + draw 3 outputs) (rest outputs); few = omega arith }

plan-in : (outputs : Outputs) → IsPlan (plan_in outputs)
plan-in outputs =
    let second = second_in (draw 2 (rest outputs)) (rest (rest outputs)) in
    let a = branch_in second.1 in record {
      first = omega arith;
      second = second-body (draw 2 (rest outputs)) (rest (rest outputs));
      a = branch-in second.1;
      b = branch-in a.1;
    }

-- ---- its sections

branch-formed : (job : ℕ) (pieces : List Piece) → IsBranch pieces → IsSection (names_of job) (branch_of pieces)
branch-formed job pieces is =
    let few = is.few in
    let steps = few-steps 0 pieces in record {
      requests = omega arith;
      bytes = omega arith;
      few = omega arith;
      steps = branch-steps job 0 0 [] pieces is.are;
      labels = branch-labels 0 0 0 0 (length (steps_of_all 0 pieces)) pieces (omega arith) (omega arith) (omega arith);
      distinct = labels-distinct 0 0 pieces (omega arith);
    }

prefix-formed : (job first : ℕ) (second : Option ℕ) → first < 100 → IsBody second → IsSection (names_of job) (prefix_of first second)
prefix-formed job first None h k = record {
  requests = omega arith;
  bytes = omega arith;
  few = omega arith;
  steps = ((sets-flag 0 first (omega arith) h, tt, tt), tt);
  labels = tt;
  distinct = refl;
}
prefix-formed job first (Some body) h k = record {
  requests = omega arith;
  bytes = omega arith;
  few = omega arith;
  steps = ((sets-flag 0 first (omega arith) h, tt, tt), ((stores 1 body (omega arith) k, tt, tt), tt));
  labels = tt;
  distinct = refl;
}

formed : (job : ℕ) (plan : Plan) → job ≤ MAX_64 → IsPlan plan → IsScript (script_of job plan)
formed job plan small is = record {
  declared = declared job small;
  p = prefix-formed job plan.first plan.second is.first is.second;
  a = branch-formed job plan.a is.a;
  b = branch-formed job plan.b is.b;
}

pub generated-formed : (seed job : ℕ) → job ≤ MAX_64 → IsScript (generated seed job)
unfolding generated
generated-formed seed job small = formed job (plan_in (outputs_for seed job)) small (plan-in (outputs_for seed job))
