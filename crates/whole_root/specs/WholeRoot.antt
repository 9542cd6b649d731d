-- The root of a whole number, cut down: what it is, and a definition that computes it, one binary digit after another. Definitions only.
use Rattle.std.specs.Prelude.{ℕ, zero, suc, ◌+◌, ◌*◌, ◌/◌, ◌≤◌, ◌<◌, cond, leb}

-- r is the greatest whole number whose square is at most n
pub record IsWholeRoot (n r : ℕ) : Type 0 where
  pub low : r * r ≤ n
  pub high : n < (r + 1) * (r + 1)

-- the next binary digit of a root: h is the root of n / 4
unfoldable pub next_digit : ℕ → ℕ → ℕ
next_digit n h = cond (leb ((2 * h + 1) * (2 * h + 1)) n) (2 * h + 1) (2 * h)

-- the root of an n below 4 ^ d, which has d binary digits at most
unfoldable pub whole_root : ℕ → ℕ → ℕ
unfolding next_digit
whole_root zero n = 0
whole_root (suc d) n = next_digit n (whole_root d (n / 4))
