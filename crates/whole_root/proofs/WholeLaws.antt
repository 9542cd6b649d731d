-- `whole_root` is the root cut down, and there is one such. Assumes nothing.
use mathlib.Core.Path.{◌≡◌, subst}
use mathlib.Core.Bool.{Bool, true, false, not, cond}
use Prim.Native.Nat.{ℕ, zero, suc, ◌+◌, ◌*◌, ◌/◌, ◌^◌, ◌≤◌, ◌<◌}
use native.Mathlib.Nat.{le_trans, lt_of_not-le, not-le_of_lt, le_antisymm, mul-le-mul, pow-suc, div-lt_iff_lt-mul, zero-lt-suc}
use native.Mathlib.Omega.{arith}
use lib.Dec.{T, leb, leb→le, nleb→lt}
use Rattle.whole_root.specs.WholeRoot.{IsWholeRoot, next_digit, whole_root}

step : (n h : ℕ) → IsWholeRoot (n / 4) h → IsWholeRoot n (next_digit n h)
unfolding next_digit
step n h i = go (leb ((2 * h + 1) * (2 * h + 1)) n) (leb→le ((2 * h + 1) * (2 * h + 1)) n) (nleb→lt ((2 * h + 1) * (2 * h + 1)) n)
  where
    go : (b : Bool) → (T b → (2 * h + 1) * (2 * h + 1) ≤ n) → (T (not b) → n < (2 * h + 1) * (2 * h + 1)) → IsWholeRoot n (cond b (2 * h + 1) (2 * h))
    go true l g = record {
      low = l tt;
      high = omega (arith, i.high);
    }
    go false l g = record {
      low = omega (arith, i.low);
      high = g tt;
    }

pub whole_root_is : (d n : ℕ) → n < 4 ^ d → IsWholeRoot n (whole_root d n)
unfolding whole_root
whole_root_is zero n h = omega arith
whole_root_is (suc d) n h = step n (whole_root d (n / 4)) (whole_root_is d (n / 4) ((div-lt_iff_lt-mul (zero-lt-suc 3)).1 (subst (λ (x : ℕ). n < x) (pow-suc 4 d) h)))

pub not_above : {r a : ℕ} → (r + 1 ≤ a → ⊥) → a ≤ r
not_above {r} {a} f = let g : a < r + 1 = lt_of_not-le f in omega arith

-- a number whose square is at most n is at most n's root
pub at_most_root : (n r a : ℕ) → IsWholeRoot n r → a * a ≤ n → a ≤ r
at_most_root n r a i h = not_above (λ (g : r + 1 ≤ a). not-le_of_lt i.high (le_trans (mul-le-mul g g) h))

pub one_root : (n r s : ℕ) → IsWholeRoot n r → IsWholeRoot n s → r ≡ s
one_root n r s i j = le_antisymm (at_most_root n s r j i.low) (at_most_root n r s i j.low)

-- a number that leaves at most twice itself is the root
pub root_by_rest : (n r s : ℕ) → r * r + s ≡ n → s ≤ 2 * r → IsWholeRoot n r
root_by_rest n r s e h = record { low = omega arith; high = omega arith }

pub root_below : (n r a : ℕ) → r * r ≤ n → n < a * a → r < a
root_below n r a l h = lt_of_not-le (λ (g : a ≤ r). not-le_of_lt h (le_trans (mul-le-mul g g) l))
