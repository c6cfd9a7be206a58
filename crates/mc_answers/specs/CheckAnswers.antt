-- What `check` answers to an input.
use Rattle.std.specs.Prelude.{◌≡◌, ◌⊎◌, ℕ, Bool, true, false, List, ◌++◌, Ok, Err, codes, decimal}
use Rattle.mc_cli.specs.declared.args.CheckArgs.{CheckArgs}
use Rattle.mc_protocol.specs.{Words.actor_word, declared.actor.Actor.Actor, declared.sections.Sections.Sections}
use Rattle.mc_protocol.specs.declared.actor.Actor.TheVariants as actor
use Rattle.mc_code.specs.Code.{Code}
use Rattle.mc_sound.specs.{declared.cost.Cost.Cost, Checked.IsChecked}
use Rattle.mc_answers.specs.{InJson.InJson, Loading.Loads, Loading.SaysNoCode, Loading.SaysUnsound, declared.status.Status.Status}
use Rattle.mc_answers.specs.declared.status.Status.TheVariants as status

-- what is written for the greatest costs of a section: the section, and how many requests and how many bytes it may send
abbrev pub cost_line : Actor → Cost → List ℕ
cost_line section cost = actor_word section ++ (codes " " ++ (decimal cost.requests ++ (codes " " ++ (decimal cost.bytes ++ codes "\n"))))

-- what is written for sound code
abbrev pub accepted_text : Sections Cost → List ℕ
accepted_text maxima =
    codes "accepted\n" ++ (cost_line actor.P maxima.p ++ (cost_line actor.A maxima.a ++ cost_line actor.B maxima.b))

-- the code is sound, and the greatest costs of its sections are written; or its least fault is
abbrev pub ChecksCode : Bool → Code → List ℕ → Status → Type 0
ChecksCode why code output ended =
    ((maxima : Sections Cost) × IsChecked (record { code = code; maxima = maxima }) × (output ≡ accepted_text maxima)
    × (ended ≡ status.Success))
    ⊎ (SaysUnsound code why output × (ended ≡ status.Refused))

-- the same of the code that the input has; or why it has none is written
abbrev pub Checks : Bool → List ℕ → List ℕ → Status → Type 0
Checks why input output ended =
    ((code : Code) × Loads input (Ok code) × ChecksCode why code output ended)
    ⊎ (SaysNoCode (λ fault. Loads input (Err fault)) why output × (ended ≡ status.Refused))

-- as the line asks for it: in words, or in JSON, which has the hint that `why` asks for
abbrev pub ChecksIn : Bool → Bool → List ℕ → List ℕ → Status → Type 0
ChecksIn false why input = Checks why input
ChecksIn true why input = InJson (Checks true input)

abbrev pub ChecksAs : CheckArgs → List ℕ → List ℕ → Status → Type 0
ChecksAs args input = ChecksIn args.json args.why input
