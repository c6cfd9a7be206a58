-- How many connections are served.
use Rattle.std.specs.Prelude.{◌≡◌, ℕ, ◌+◌, ◌≤◌, ◌⊎◌}
use Rattle.mc_server.specs.{declared.counts.Listened.Listened, declared.counts.TheConstants.MOST_FAILED}

-- No more are served than were asked for, and each of those was served or refused unless too many accepts failed. Where none was asked
-- for, nothing is accepted.
pub record Listens (connections : ℕ) (listened : Listened) : Type 0 where
  pub few : listened.accepted ≤ connections
  pub all : (connections ≤ listened.accepted + listened.refused) ⊎ (MOST_FAILED ≤ listened.refused)
  pub none : connections ≡ 0 → listened.refused ≡ 0
