-- A loop that asks a test of 0, 1, .., and stops at the first that fails it: whether `p` holds of every number below n.
-- In a loop:  all_none, all_more   what has passed so far;  all_stop   the answer where one fails;  all_next   the answer so far, where it goes on
-- Of the answer:  all_at, all_of, all_no;  all_both   of two tests;  all_cong   of tests that agree;  all_join   of two ranges, one after the other
-- Assumes nothing.
use mathlib.Core.Path.{◌≡◌, refl, sym, ap₂}
use mathlib.Core.Logic.{⊎_elim}
use mathlib.Core.Bool.{Bool, true, false, not, ◌&&◌, and-true, and_assoc, true≢false}
use Prim.Native.Nat.{ℕ, zero, suc, ◌+◌, ◌<◌}
use native.Mathlib.Nat.{add-zero, add-suc, le_of_suc-le-suc, not-suc-le-zero, eq-or-lt_of_le}
use native.Mathlib.Numerals.{add-one}
use native.Mathlib.Omega.{arith}
use Rattle.loops.specs.Loops.{all_below}
use Rattle.loops.proofs.Tests.{and_false, both}

and_swap : (a b c d : Bool) → (a && b) && (c && d) ≡ (a && c) && (b && d)
and_swap true true c d = refl
and_swap true false c d = sym (and_false c)
and_swap false b c d = refl

pub all_both : (p q : ℕ → Bool) (n : ℕ) → all_below (λ i. p i && q i) n ≡ all_below p n && all_below q n
unfolding all_below
all_both p q zero = refl
all_both p q (suc n) = rw (all_both p q n) (and_swap (all_below p n) (all_below q n) (p n) (q n))

pub all_cong : (n : ℕ) (p q : ℕ → Bool) → ((s : ℕ) → s < n → p s ≡ q s) → all_below p n ≡ all_below q n
unfolding all_below
all_cong zero p q h = refl
all_cong (suc n) p q h = ap₂ ◌&&◌ (all_cong n p q (λ s l. h s (omega arith))) (h n (omega arith))

-- of the first a, and of the n after them
pub all_join : (p : ℕ → Bool) (a n : ℕ) → all_below p (a + n) ≡ all_below p a && all_below (λ i. p (a + i)) n
unfolding all_below
all_join p a zero = rw (add-zero a) (sym (and-true (all_below p a)))
all_join p a (suc n) = rw (add-suc a n, all_join p a n) (and_assoc (all_below p a) (all_below (λ i. p (a + i)) n) (p (a + n)))

module _ (p : ℕ → Bool) where
  pub all_none : all_below p 0 ≡ true
  unfolding all_below
  all_none = refl

  pub all_more : {n : ℕ} → all_below p n ≡ true → p n ≡ true → all_below p (n + 1) ≡ true
  unfolding all_below
  all_more {n} h e = rw (add-one n, h, e)

  -- of a loop that goes on after a no: what all before have given, and the next
  pub all_next : {a b : Bool} (n : ℕ) → a ≡ all_below p n → b ≡ p n → a && b ≡ all_below p (n + 1)
  unfolding all_below
  all_next n e d = rw (add-one n) (ap₂ ◌&&◌ e d)

  pub all_stop : (i n : ℕ) → i < n → p i ≡ false → all_below p n ≡ false
  unfolding all_below
  all_stop i zero l e = absurd (not-suc-le-zero l)
  all_stop i (suc n) l e =
      ⊎_elim (λ q. rw (← q, e) (and_false (all_below p i))) (λ o. rw (all_stop i n o e)) (eq-or-lt_of_le (le_of_suc-le-suc l))

  pub all_at : (i n : ℕ) → all_below p n ≡ true → i < n → p i ≡ true
  unfolding all_below
  all_at i zero h l = absurd (not-suc-le-zero l)
  all_at i (suc n) h l =
      ⊎_elim (λ q. rw q (both (all_below p n) (p n) h).1) (λ o. all_at i n (both (all_below p n) (p n) h).0 o) (eq-or-lt_of_le (le_of_suc-le-suc l))

  -- where not all pass, one that fails
  pub all_no : (n : ℕ) → all_below p n ≡ false → (i : ℕ) × ((i < n) × (p i ≡ false))
  unfolding all_below
  all_no zero h = absurd (true≢false h)
  all_no (suc n) h = go (all_below p n) refl (all_no n) h
    where
      go : (a : Bool) → all_below p n ≡ a → (all_below p n ≡ false → (i : ℕ) × ((i < n) × (p i ≡ false))) → a && p n ≡ false
          → (i : ℕ) × ((i < suc n) × (p i ≡ false))
      go true e below f = (n, (omega arith, f))
      go false e below f = let one = below e in (one.0, (omega (arith, one.1.0), one.1.1))

  pub all_of : (n : ℕ) → ((i : ℕ) → i < n → p i ≡ true) → all_below p n ≡ true
  unfolding all_below
  all_of zero h = refl
  all_of (suc n) h = rw (all_of n (λ i l. h i (omega arith)), h n (omega arith))
