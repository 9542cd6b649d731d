-- A root that is a few too small is put right by counting which of the next numbers' squares are at most m: those are the first ones. The table's entry
-- is at most four too small. Assumes nothing.
use mathlib.Core.Path.{◌≡◌, refl, sym, subst}
use mathlib.Core.Logic.{◌⊎◌, inl, inr, ⊎_elim}
use mathlib.Core.Bool.{Bool, true, false, cond}
use Prim.Native.Nat.{ℕ, zero, suc, ◌+◌, ◌*◌, ◌/◌, ◌≤◌, ◌<◌}
use native.Mathlib.Nat.{le_trans, not-le_of_lt, mul-le-mul}
use native.Mathlib.Omega.{arith}
use borrow.Author.Tests.{leb-true, leb-false}
use lib.Dec.{leb}
use Rattle.whole_root.specs.WholeRoot.{IsWholeRoot}
use Rattle.whole_root.proofs.WholeLaws.{at_most_root}

-- how many of the n numbers after t have a square of at most m
unfoldable pub reached : ℕ → ℕ → ℕ → ℕ
reached m t zero = 0
reached m t (suc n) = reached m t n + cond (leb ((t + suc n) * (t + suc n)) m) 1 0

-- r counts those that reach: t + r is not above the root, and t + r + 1 is above it unless all n reach
record Near (m t n r : ℕ) : Type 0 where
  few : r ≤ n
  low : (t + r) * (t + r) ≤ m
  high : (m < (t + r + 1) * (t + r + 1)) ⊎ (r ≡ n)

module _ {m t n r : ℕ} (k : Near m t n r) where
  -- the square of the next number is at most m: all before it reach
  next_reaches : (t + suc n) * (t + suc n) ≤ m → Near m t (suc n) (r + 1)
  next_reaches y = ⊎_elim
      (λ (h : m < (t + r + 1) * (t + r + 1)).
      let l : t + r + 1 ≤ t + suc n = omega (arith, k.few) in
      absurd (not-le_of_lt h (le_trans (mul-le-mul l l) y)))
      (λ (e : r ≡ n). record {
        few = omega (arith, e);
        low = subst (λ (x : ℕ). x * x ≤ m) (omega (arith, e)) y;
        high = inr (omega (arith, e));
      })
      k.high

  -- the square of the next number is above m, so that t + r is the root
  next_above : m < (t + suc n) * (t + suc n) → Near m t (suc n) (r + 0)
  next_above z = record {
    few = omega (arith, k.few);
    low = omega (arith, k.low);
    high = inl (⊎_elim (λ (h : m < (t + r + 1) * (t + r + 1)). omega (arith, h)) (λ (e : r ≡ n). subst (λ (x : ℕ). m < x * x) (omega (arith, e)) z) k.high);
  }

near : (m t n : ℕ) → t * t ≤ m → Near m t n (reached m t n)
unfolding reached
near m t zero h = record { few = omega arith; low = omega (arith, h); high = inr refl }
near m t (suc n) h = go (near m t n h) (leb ((t + suc n) * (t + suc n)) m) (leb-true ((t + suc n) * (t + suc n)) m) (leb-false ((t + suc n) * (t + suc n)) m)
  where
    go : Near m t n (reached m t n) → (b : Bool) → (b ≡ true → (t + suc n) * (t + suc n) ≤ m) → (b ≡ false → m < (t + suc n) * (t + suc n))
        → Near m t (suc n) (reached m t n + cond b 1 0)
    go k true y z = next_reaches k (y refl)
    go k false y z = next_above k (z refl)

-- where t is at most n below the root
put_right : (m t n : ℕ) → t * t ≤ m → m < (t + n + 1) * (t + n + 1) → IsWholeRoot m (t + reached m t n)
put_right m t n l h =
    let k = near m t n l in
    record { low = k.low; high = ⊎_elim (λ g. g) (λ (e : reached m t n ≡ n). subst (λ (x : ℕ). m < (t + x + 1) * (t + x + 1)) (sym e) h) k.high }

-- ---- the table's entry

module _ (top t : ℕ) (i : IsWholeRoot (16384 * (top / 16384)) t) (least : 4194304 ≤ top) where
  at_least_2048 : 2048 ≤ t
  at_least_2048 = at_most_root (16384 * (top / 16384)) t 2048 i (omega arith)

  pub not_above_top : t * t ≤ top
  not_above_top = omega (arith, i.low)

  at_most_four_too_small : top < (t + 4 + 1) * (t + 4 + 1)
  at_most_four_too_small = omega (arith, i.high, at_least_2048)

  pub corrected : IsWholeRoot top (t + reached top t 4)
  corrected = put_right top t 4 not_above_top at_most_four_too_small
