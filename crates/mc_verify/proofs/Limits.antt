-- How much of anything code has.
use Rattle.std.proofs.Common.{◌≡◌, ℕ, ◌≤◌, Bool, true, ◌&&◌, length, nat_le, arith}
use Rattle.mc_protocol.specs.declared.limits.TheConstants.{KEYS_LIMIT}
use Rattle.mc_code.specs.Code.{Code, IsCode}

within : (n limit : ℕ) (a b : Bool) → (nat_le n limit && a && b) ≡ true → n ≤ limit
within n limit a b h = grind arith

pub few_keys : (c : Code) → IsCode c → length c.keys ≤ KEYS_LIMIT
few_keys c h = within (length c.keys) KEYS_LIMIT _ _ h.keys
