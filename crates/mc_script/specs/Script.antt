-- What a script is: the names that it declares, and three sections.
use Rattle.std.specs.Prelude.{◌≡◌, ℕ, ◌==◌, nat_le, Bool, true, not, ◌&&◌, List, length, max}
use Rattle.std.specs.List.{list_all}
use Rattle.mc_script.specs.Values.{Actor, Sections, KEYS_LIMIT, KEY_BYTES_LIMIT, Word, FLAGS_LIMIT, VARIABLES_LIMIT, NAME_BYTES_LIMIT}
use Rattle.mc_script.specs.{Values.Budget, Values.Label, Values.Step, Values.Version, Versions.least_version}
use Rattle.mc_protocol.specs.Names.{is_name, are_distinct}
use Rattle.mc_protocol.specs.Sections as sections

-- the keys, the flags and the variables, each by its name
pub record Names : Type 0 where
  pub keys : List Word
  pub flags : List Word
  pub vars : List Word

-- what a section may send at most, its steps, and its labels in the order of the text
pub record Section : Type 0 where
  pub budget : Budget
  pub steps : List Step
  pub labels : List Label

-- these may be declared together: at most `limit` names, each of at most `bytes` bytes, and no two equal
abbrev pub may_be_declared : ℕ → ℕ → List Word → Bool
may_be_declared limit bytes names = nat_le (length names) limit && list_all (is_name bytes) names && are_distinct names

-- a script has a key, and any number of flags and variables within the limits
pub record AreDeclared (names : Names) : Type 0 where
  pub some : not (length names.keys == 0) ≡ true
  pub keys : may_be_declared KEYS_LIMIT KEY_BYTES_LIMIT names.keys ≡ true
  pub flags : may_be_declared FLAGS_LIMIT NAME_BYTES_LIMIT names.flags ≡ true
  pub vars : may_be_declared VARIABLES_LIMIT NAME_BYTES_LIMIT names.vars ≡ true

pub record Script : Type 0 where
  pub names : Names
  pub sections : Sections Section

abbrev pub section_of : Script → Actor → Section
section_of s actor = sections.section_of s.sections actor

-- the number of steps of the longest section
abbrev pub longest : Script → ℕ
longest s = max (length s.sections.p.steps) (max (length s.sections.a.steps) (length s.sections.b.steps))

-- the version whose text is printed of the script
abbrev pub version_of : Script → Version
version_of s = least_version (length s.names.flags) (longest s)

-- each step of a section has a line
pub record HasLines (s : Script) (lines : Sections (List ℕ)) : Type 0 where
  pub p : length lines.p ≡ length s.sections.p.steps
  pub a : length lines.a ≡ length s.sections.a.steps
  pub b : length lines.b ≡ length s.sections.b.steps
