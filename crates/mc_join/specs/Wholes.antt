-- Parts of a campaign, and the whole of them.
use Rattle.std.specs.Prelude.{◌==◌, ◌+◌, ◌&&◌, ℕ, Bool, true, List, [], ◌∷◌}
use Rattle.mc_join.specs.{declared.part.Part.Part, declared.totals.Totals.Totals}

-- those of no jobs
abbrev pub no_totals : Totals
no_totals = record { jobs = 0; explained = 0; unexplained = 0; other = 0 }

-- the sums
abbrev pub plus : Totals → Totals → Totals
plus one more = record {
  jobs = one.jobs + more.jobs;
  explained = one.explained + more.explained;
  unexplained = one.unexplained + more.unexplained;
  other = one.other + more.other;
}

-- these totals with those of each part
abbrev pub sums : Totals → List Part → Totals
sums before [] = before
sums before (part ∷ parts) = sums (plus before part.totals) parts

-- the parts follow one another after as many jobs from the first one on: none is missing between them, and none stands twice
abbrev pub follow : ℕ → ℕ → List Part → Bool
follow first count [] = true
follow first count (part ∷ parts) = (part.first == first + count) && follow first (count + part.totals.jobs) parts
