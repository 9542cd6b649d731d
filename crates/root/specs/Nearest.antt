-- The whole number nearest the root of a whole number. Definitions only.
use Rattle.std.specs.Prelude.{ℕ, ◌+◌, ◌*◌, cond, ltb}

-- Of q, the root of n cut down, and q + 1 the one nearer the root of n: n is above the square of their middle, q·q + q + 1/4, where it is above q·q + q.
unfoldable pub to_nearest : ℕ → ℕ → ℕ
to_nearest n q = cond (ltb (q * q + q) n) (q + 1) q
