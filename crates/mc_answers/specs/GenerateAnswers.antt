-- What `generate` prints.
use Rattle.std.specs.Prelude.{◌≡◌, ℕ, List}
use Rattle.mc_script_text.specs.PrintedScript.{script_text}
use Rattle.mc_generate.specs.Generated.{generated}
use Rattle.mc_answers.specs.declared.status.Status.{Status}
use Rattle.mc_answers.specs.declared.status.Status.TheVariants as status

-- the text of the script that this seed and this job give
abbrev pub text_of : ℕ → ℕ → List ℕ
text_of seed job = script_text (generated seed job)

abbrev pub Generates : ℕ → ℕ → List ℕ → Status → Type 0
Generates seed job output ended = (output ≡ text_of seed job) × (ended ≡ status.Success)
