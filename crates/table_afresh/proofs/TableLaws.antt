-- What the program's proofs use of numbers: how many digits an entry has. Assumes nothing.
use Prim.Native.Nat.{ℕ, ◌≤◌, ◌<◌}
use native.Mathlib.Omega.{arith}
use Rattle.listing_text.specs.Text.{places}
use Rattle.listing_text.proofs.Digits.{places_bound}

pub four_at_most : (n : ℕ) → n < 10000 → places n ≤ 4
four_at_most n h = places_bound 3 n (omega (arith, h))
