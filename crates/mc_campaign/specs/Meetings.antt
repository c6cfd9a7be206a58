-- How the branches of a run meet, by what is asked for and by what a generator gives.
use Rattle.std.specs.Prelude.{◌≡◌, ◌==◌, ◌%◌, ◌+◌, ◌*◌, ◌-◌, ◌/◌, ◌^◌, ◌≤◌, ℕ, if◌then◌else◌, nat_lt, max, bit_xor}
use Rattle.std.specs.Prelude.{Option, Some, None, [], ◌∷◌, map}
use Rattle.core.specs.Int.{w16, leading_zeros}
use Rattle.rand_pcg.specs.{Lcg.increment_of, Lcg.started, Pcg.multiplier_64}
use Rattle.mc_run.specs.{declared.manner.Branch.Branch, declared.manner.Late.Late, declared.manner.Manner.Manner, declared.manner.Meet.Meet}
use Rattle.mc_run.specs.declared.manner.Branch.TheVariants as branch
use Rattle.mc_run.specs.declared.manner.Manner.TheVariants as manner
use Rattle.mc_generate.specs.Outputs.{Outputs, outputs_of, rest, draw}
use Rattle.mc_settings.specs.declared.meeting.Meeting.{Meeting}
use Rattle.mc_settings.specs.declared.meeting.Meeting.TheVariants as meeting
use Rattle.mc_campaign.specs.declared.meeting.TheConstants.{SEQUENCES}

-- ---- before which requests, and which branch runs on the new thread

-- two of eight lots meet never, where it is drawn
abbrev pub manner_of : Meeting → ℕ → Manner
manner_of meeting.Drawn lot = if nat_lt lot 2 then manner.Never else manner.Each
manner_of meeting.Each lot = manner.Each
manner_of meeting.First lot = manner.First
manner_of meeting.Never lot = manner.Never

-- half of the lots run A on the new thread
abbrev pub apart_of : ℕ → Branch
apart_of lot = if lot % 2 == 0 then branch.A else branch.B

-- ---- which branch is late, and by how much

-- two of four lots have no late branch, one has A, and one B
abbrev pub late_branch : ℕ → Option Branch
late_branch lot = if nat_lt lot 2 then None else Some (if lot == 2 then branch.A else branch.B)

-- how often a time of this many microseconds can be halved until less than 2 are left
abbrev pub halvings : ℕ → ℕ
halvings microseconds = 15 - leading_zeros w16 microseconds

-- by how many nanoseconds a branch is late. It lies evenly on a logarithmic scale from 1 microsecond to the spread, which has
-- microseconds: how often the spread is halved is drawn, and then a time in the upper half of what is left of it.
abbrev pub lateness_in : ℕ → Outputs → ℕ
lateness_in spread outputs =
    let longest = 1000 * spread / 2 ^ draw (max (halvings spread) 1) outputs in
    max (longest - draw (longest / 2 + 1) (rest outputs)) 1000

-- how one of the branches is late, where this one is or none
abbrev pub late_by : Option Branch → ℕ → Option Late
late_by None nanoseconds = None
late_by (Some branch) nanoseconds = Some (record { branch = branch; nanoseconds = nanoseconds })

-- the late branch of a run that meets, whose lot is drawn, and then by how much; with the spread 0 there is none
abbrev pub late_in : ℕ → Outputs → Option Late
late_in spread outputs =
    if spread == 0 then None else late_by (late_branch (draw 4 outputs)) (lateness_in spread (rest outputs))

-- branches that don't meet have no late one
abbrev pub late_of : Manner → ℕ → Outputs → Option Late
late_of manner.Each spread outputs = late_in spread outputs
late_of manner.First spread outputs = late_in spread outputs
late_of manner.Never spread outputs = None

-- ---- both

-- a lot of eight is drawn, and then the late branch
abbrev pub meet_in : Meeting → ℕ → Outputs → Meet
meet_in asked spread outputs =
    let lot = draw 8 outputs in
    record {
      manner = manner_of asked lot;
      apart = apart_of lot;
      late = late_of (manner_of asked lot) spread (rest outputs);
    }

-- A job's meeting has a generator of its own: PCG's sequence with the number that the seed makes, from the job's number. That of its
-- script has them the other way round.
abbrev pub meet_for : Meeting → ℕ → ℕ → ℕ → Meet
meet_for asked spread seed job =
    meet_in asked spread (outputs_of (started 64 multiplier_64 job (increment_of 64 (bit_xor seed SEQUENCES))))

-- ---- what is so of them

-- a branch is late by a microsecond at least, and by the spread at most
pub record IsWithin (spread : ℕ) (late : Late) : Type 0 where
  pub least : 1000 ≤ late.nanoseconds
  pub most : late.nanoseconds ≤ 1000 * spread

-- how a lot meets where that is drawn, and which branch runs on the new thread
abbrev pub drawn_by : ℕ → Manner × Branch
drawn_by lot = (manner_of meeting.Drawn lot, apart_of lot)

-- of the eight lots, where it is drawn, six meet before each request and two before none, and half of either run A on the new thread
abbrev pub MeetingsAreShared : Type 0
MeetingsAreShared = map drawn_by (0 ∷ 1 ∷ 2 ∷ 3 ∷ 4 ∷ 5 ∷ 6 ∷ 7 ∷ [])
    ≡ (manner.Never, branch.A) ∷ (manner.Never, branch.B)
    ∷ (manner.Each, branch.A) ∷ (manner.Each, branch.B) ∷ (manner.Each, branch.A) ∷ (manner.Each, branch.B)
    ∷ (manner.Each, branch.A) ∷ (manner.Each, branch.B) ∷ []

-- of the four lots two have no late branch, one has A, and one B
abbrev pub LatenessIsShared : Type 0
LatenessIsShared = map late_branch (0 ∷ 1 ∷ 2 ∷ 3 ∷ []) ≡ None ∷ None ∷ Some branch.A ∷ Some branch.B ∷ []
