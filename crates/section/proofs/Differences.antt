-- x - x tells whether x is finite: it is +0 where x is, and a NaN where it is not, so two such differences are equal exactly where both are finite.
-- Assumes nothing.
use mathlib.Core.Path.{◌≡◌, refl, ◌∙◌, ap₂}
use mathlib.Core.Bool.{Bool, true, false, not, ◌&&◌, cond}
use Prim.Native.Nat.{ℕ, ◌*◌, ◌<◌}
use native.Mathlib.Nat.{le_refl, mul-pos, sub_self}
use native.Mathlib.Omega.{arith}
use borrow.Author.Tests.{le-ltb}
use lib.Ieee.{Float, nan, inf, fin, binary64, up, down, round, sum, sub, eq, of_bits}
use lib.Ieee.Fits.{down_pos}
use lib.Ieee.Scale.{finite, round_same}
use Rattle.fields.specs.Real.{◌⊟◌, zero64}

round_zero : (c : ℕ) → 0 < c → round binary64 false 0 c ≡ zero64
unfolding round of_bits
round_zero c h = round_same binary64 false 0 c 0 1 h (omega arith) (omega arith)

no_difference : (s : Bool) (a c : ℕ) → 0 < c → sum binary64 s a (not s) a c ≡ zero64
unfolding sum
no_difference true a c h = rw (le-ltb a a (le_refl a), sub_self a) (round_zero c h)
no_difference false a c h = rw (le-ltb a a (le_refl a), sub_self a) (round_zero c h)

pub self_difference : (x : Float) → x ⊟ x ≡ cond (finite x) zero64 nan
unfolding sub
self_difference nan = refl
self_difference (inf true) = refl
self_difference (inf false) = refl
self_difference (fin s m e) = no_difference s (m * up e * down e) (down e * down e) (mul-pos (down_pos e) (down_pos e))

equal_differences : (a b : Bool) → eq (cond a zero64 nan) (cond b zero64 nan) ≡ a && b
unfolding eq of_bits
equal_differences true true = refl
equal_differences true false = refl
equal_differences false b = refl

pub both_finite : (x y : Float) → eq (x ⊟ x) (y ⊟ y) ≡ finite x && finite y
both_finite x y = ap₂ eq (self_difference x) (self_difference y) ∙ equal_differences (finite x) (finite y)
