-- How the image of code begins. No public contract cites these.
use Rattle.std.specs.Prelude.{ℕ, ◌≤◌, List, [], ◌∷◌, ◌++◌}
use Rattle.mc_protocol.specs.declared.limits.TheConstants.{REQUESTS_LIMIT, REQUEST_BYTES_LIMIT}
use Rattle.mc_protocol.specs.{Lines.Word, declared.sections.Sections.Sections}
use Rattle.mc_script.specs.declared.section.Budget.{Budget}
use Rattle.mc_code.specs.Code.{Code}
use Rattle.mc_image.specs.Image.{budget_bytes, with_count, with_length}

-- the budget of each section
abbrev pub budgets_of : Code → Sections Budget
budgets_of c = record { p = c.sections.p.budget; a = c.sections.a.budget; b = c.sections.b.budget }

-- the budget keeps the limits of one
pub record IsSmall (budget : Budget) : Type 0 where
  pub requests : budget.requests ≤ REQUESTS_LIMIT
  pub bytes : budget.bytes ≤ REQUEST_BYTES_LIMIT

abbrev pub AreSmall : Sections Budget → Type 0
AreSmall budgets = IsSmall budgets.p × IsSmall budgets.a × IsSmall budgets.b

-- how many flags and variables there are
abbrev pub counts_of : Code → List ℕ
counts_of c = c.flags ∷ c.vars ∷ []

-- what stands between the first bytes of an image and the templates: the keys, these counts and the budgets
abbrev pub front_bytes : List Word → List ℕ → Sections Budget → List ℕ
front_bytes keys counts budgets =
    with_count with_length keys ++ (counts ++ budget_bytes budgets.p ++ budget_bytes budgets.a ++ budget_bytes budgets.b)
