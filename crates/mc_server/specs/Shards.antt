-- Which store a key is in.
use Rattle.std.specs.Prelude.{ℕ, ◌%◌, List, sum}

-- the sum of the key's bytes modulo 16
abbrev pub shard_of : List ℕ → ℕ
shard_of key = sum key % 16
