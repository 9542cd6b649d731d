-- Inner definitions: no public call cites them. Definitions only.
use Rattle.std.specs.Prelude.{◌≡◌, ℕ, ◌+◌, ◌*◌, ◌^◌, ◌≤◌, ◌<◌}

-- root is the root of n, and rest is what its square leaves of n
pub record LeavesRest (n root rest : ℕ) : Type 0 where
  pub all : root * root + rest ≡ n
  pub small : rest ≤ 2 * root

-- what `later_digits` asks: root and rest are those of a number of 24 digits at most, and 30 digits follow it
pub record FirstDigits (root rest low : ℕ) : Type 0 where
  pub short : root < 2 ^ 12
  pub small : rest ≤ 2 * root
  pub room : low < 2 ^ 30
