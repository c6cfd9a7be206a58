-- What a generator gives.
use Rattle.std.specs.Prelude.{ℕ, zero, suc, ◌%◌}
use Rattle.rand_pcg.specs.{Lcg.Lcg, Lcg.increment_of, Lcg.started, Pcg.multiplier_64, Pcg.pcg32}

-- the list of all 32-bit words that a generator gives from now on, each by its index
abbrev pub Outputs : Type 0
Outputs = ℕ → ℕ

-- what a PCG gives
unfoldable pub outputs_of : Lcg → ℕ → ℕ
outputs_of g zero = (pcg32 g).0
outputs_of g (suc n) = outputs_of (pcg32 g).1 n

-- what the generator of a job gives: PCG's sequence with the job's number, from the seed
abbrev pub outputs_for : ℕ → ℕ → Outputs
outputs_for seed job = outputs_of (started 64 multiplier_64 seed (increment_of 64 job))

-- all but the first
unfoldable pub rest : Outputs → Outputs
rest outputs = λ n. outputs (suc n)

-- a number below n, by the first
abbrev pub draw : ℕ → Outputs → ℕ
draw n outputs = outputs 0 % n
