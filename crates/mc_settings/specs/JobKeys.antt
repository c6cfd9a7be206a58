-- The keys of a campaign's jobs, and under which names all of them are short.
use Rattle.std.specs.Prelude.{ℕ, ◌+◌, ◌≤◌, ◌<◌, Option, Some, None, List, [], ◌∷◌, ◌++◌, codes, decimal}
use Rattle.mc_protocol.specs.Lines.{Word}
use Rattle.mc_settings.specs.Namespaces.{AreShort}

-- `r<job>-<key>`
abbrev pub key_name : ℕ → ℕ → Word
key_name job key = codes "r" ++ decimal job ++ codes "-" ++ decimal key

-- the keys of a job
abbrev pub keys_of : ℕ → List Word
keys_of job = key_name job 0 ∷ key_name job 1 ∷ []

-- under the name no key of this many jobs, from the first on, has more bytes than a key may have
abbrev pub KeysFit : Word → ℕ → ℕ → Type 0
KeysFit name first jobs = (job : ℕ) → first ≤ job → job < first + jobs → AreShort name (keys_of job)

-- the same of a campaign's jobs, if it has a name
abbrev pub NameFits : Option Word → ℕ → ℕ → Type 0
NameFits None first jobs = Unit {0}
NameFits (Some name) first jobs = KeysFit name first jobs
