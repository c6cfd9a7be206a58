-- What a generator gives.
use Rattle.std.specs.Prelude.{ℕ, ◌+◌, ◌*◌, ◌%◌, ◌^◌}
use Rattle.rand_pcg.specs.{Lcg.Lcg, Lcg.increment_of, Lcg.started, Pcg.multiplier_64, Pcg.pcg32}

-- a number below n, by the generator's next output
unfoldable pub draw : ℕ → Lcg → ℕ
draw n g = (pcg32 g).0 % n

-- the generator after that
unfoldable pub rest : Lcg → Lcg
rest g = (pcg32 g).1

-- the generator of a client's requests in a round: PCG from the seed, each client along a sequence of its own
unfoldable pub generator_of : ℕ → ℕ → ℕ → Lcg
generator_of seed round client = started 64 multiplier_64 seed (increment_of 64 ((round * 128 + client) % 2 ^ 64))
