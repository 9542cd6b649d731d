-- A loop that asks v of 0, 1, .., and returns the first answer that is not `none`. `pick a b` is a where a is an answer, and b where a is `none`.
-- In a loop:  first_none, first_more   none so far;  first_stop   the answer where one is found;  first_cong   of answers that agree
-- Assumes nothing.
use mathlib.Core.Path.{◌≡◌, refl, ap₂}
use mathlib.Core.Logic.{⊎_elim}
use Prim.Native.Nat.{ℕ, zero, suc, ◌+◌, ◌<◌}
use native.Mathlib.Nat.{le_of_suc-le-suc, not-suc-le-zero, eq-or-lt_of_le}
use native.Mathlib.Numerals.{add-one}
use native.Mathlib.Omega.{arith}
use Rattle.loops.specs.Loops.{first_below}

module _ {R : Type 0} (pick : R → R → R) (none : R) (v : ℕ → R) where
  pub first_none : first_below pick none v 0 ≡ none
  unfolding first_below
  first_none = refl

  module _ (skip : (b : R) → pick none b ≡ b) where
    pub first_more : {n : ℕ} → first_below pick none v n ≡ none → v n ≡ none → first_below pick none v (n + 1) ≡ none
    unfolding first_below
    first_more {n} h e = rw (add-one n, h, skip (v n)) e

    pub first_stop : (i n : ℕ) → i < n → ((b : R) → pick (v i) b ≡ v i) → first_below pick none v i ≡ none → first_below pick none v n ≡ v i
    unfolding first_below
    first_stop i zero l s h = absurd (not-suc-le-zero l)
    first_stop i (suc n) l s h =
        ⊎_elim (λ q. rw (← q, h) (skip (v i))) (λ o. rw (first_stop i n o s h) (s (v n))) (eq-or-lt_of_le (le_of_suc-le-suc l))

pub first_cong : {R : Type 0} (pick : R → R → R) (start : R) (n : ℕ) (v w : ℕ → R) → ((s : ℕ) → s < n → v s ≡ w s)
    → first_below pick start v n ≡ first_below pick start w n
unfolding first_below
first_cong pick start zero v w h = refl
first_cong pick start (suc n) v w h = ap₂ pick (first_cong pick start n v w (λ s l. h s (omega arith))) (h n (omega arith))

-- where the whole answer is `none`, so is each
pub first_each : {R : Type 0} (pick : R → R → R) (none : R) → ((a b : R) → pick a b ≡ none → (a ≡ none) × (b ≡ none))
    → (n : ℕ) (v : ℕ → R) → first_below pick none v n ≡ none → (i : ℕ) → i < n → v i ≡ none
unfolding first_below
first_each pick none apart zero v h i l = absurd (not-suc-le-zero l)
first_each pick none apart (suc n) v h i l =
    let w = apart (first_below pick none v n) (v n) h in
    ⊎_elim (λ q. rw q w.1) (λ o. first_each pick none apart n v w.0 i o) (eq-or-lt_of_le (le_of_suc-le-suc l))
