-- Which values may be rooted: those with the sign clear, and none below zero. Assumes nothing.
use mathlib.Core.Path.{◌≡◌, ap}
use mathlib.Core.Bool.{true, false, not}
use Prim.Native.Nat.{ℕ, suc, ◌+◌, ◌*◌}
use native.Mathlib.Nat.{zero-mul, mul-pos, zero-lt-suc}
use native.Mathlib.Omega.{arith}
use lib.IntN.{ℤ}
use lib.Ieee.{fin, up, down, lt, of_bits}
use lib.Ieee.Fits.{up_pos}
use borrow.Author.Tests.{lt-ltb, le-ltb}
use Rattle.root.specs.Root.{rootable}

pub plus_rootable : (m : ℕ) (e : ℤ) → rootable (fin false m e) ≡ true
unfolding rootable lt of_bits
plus_rootable m e = ap not (le-ltb (m * up e * 1) (0 * down e) (omega (arith, zero-mul (down e))))

pub minus_not_rootable : (m : ℕ) (e : ℤ) → rootable (fin true (suc m) e) ≡ false
unfolding rootable lt of_bits
minus_not_rootable m e = ap not (lt-ltb 0 (suc m * up e * 1 + 0 * down e) (omega (arith, mul-pos (zero-lt-suc m) (up_pos e))))
