-- Which code is played of a script that is run repeatedly.
use Rattle.std.specs.Prelude.{Option, None, Some}
use Rattle.std.specs.{Arc.arc_value, declared.alloc.Global.Global, declared.sync.Arc.Arc}
use Rattle.mc_code.specs.Code.{Code}
use Rattle.mc_sound.specs.Checked.{Checked}

-- the code itself, or it under the last name
abbrev pub code_of : Option (Arc Checked Global) → Code → Code
code_of None written = written
code_of (Some under) written = (arc_value under).code
