-- The test of a pattern that a number is made of. Inner definitions: no public call cites them.
use Rattle.std.specs.Prelude.{Bool, List, ℕ}
use Rattle.std.specs.Float.Ieee.Scale.{finite}
use Rattle.fields.specs.Bytes.{f64_at}

-- whether the f64 at a place is finite: neither a NaN nor an infinity
unfoldable pub finite_at : List ℕ → ℕ → Bool
unfolding f64_at
finite_at l at = finite (f64_at l at)
