-- How a run meets, by what its options say and by the seed that the time gives.
use Rattle.std.specs.Prelude.{ℕ}
use Rattle.rand_pcg.specs.{Lcg.increment_of, Lcg.started, Pcg.multiplier_64}
use Rattle.mc_run.specs.declared.manner.Meet.{Meet}
use Rattle.mc_campaign.specs.Meetings.{meet_in}
use Rattle.mc_generate.specs.Outputs.{outputs_of}
use Rattle.mc_settings.specs.declared.meeting.Meeting.{Meeting}

-- by PCG's sequence 54 from this seed
abbrev pub meet_by : Meeting → ℕ → ℕ → Meet
meet_by asked spread seed = meet_in asked spread (outputs_of (started 64 multiplier_64 seed (increment_of 64 54)))
