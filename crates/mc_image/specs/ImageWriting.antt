-- What the writer of images asks of a template. No public contract cites it: well-formed code has such templates alone.
use Rattle.std.specs.Prelude.{ℕ, ◌<◌, ◌≤◌, ◌^◌, length}
use Rattle.mc_protocol.specs.declared.limits.TheConstants.{SCRIPT_BODY_LIMIT}
use Rattle.mc_script.specs.{declared.step.Template.Template, declared.version.Version.Version, Versions.flags_limit}

-- the mask has a bit for a flag of the version alone
abbrev pub FitsMask : Version → ℕ → Type 0
FitsMask v mask = mask < 2 ^ flags_limit v

-- an image of the version has room for the template's body and masks
pub record FitsImage (v : Version) (t : Template) : Type 0 where
  pub body : length t.body ≤ SCRIPT_BODY_LIMIT
  pub require_set : FitsMask v t.require_set
  pub require_clear : FitsMask v t.require_clear
  pub sets : FitsMask v t.sets
  pub clears : FitsMask v t.clears
