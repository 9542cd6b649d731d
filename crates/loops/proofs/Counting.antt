-- A loop that adds 1 for each of 0, 1, .. that fails a test, and 0 for the others: the count is 0 exactly where the test holds of all. Assumes nothing.
use mathlib.Core.Path.{◌≡◌, refl, sym, ap, ◌∙◌}
use mathlib.Core.Bool.{Bool, true, false, not, ◌&&◌, cond, and-true}
use Prim.Native.Nat.{ℕ, zero, suc, ◌+◌, ◌≤◌}
use native.Mathlib.Nat.{add-zero, zero-add}
use native.Mathlib.Numerals.{add-one}
use native.Mathlib.Omega.{arith}
use mir.Val.{bool_byte}
use borrow.Author.Tests.{eq-eqb, ne_eqb}
use lib.Dec.{eqb}
use Rattle.loops.specs.Loops.{all_below}
use Rattle.loops.proofs.Tests.{and_false}

-- i are counted
pub record Counting (p : ℕ → Bool) (i count : ℕ) : Type 0 where
  pub few : count ≤ i
  pub told : eqb count 0 ≡ all_below p i

told_more : (a b : Bool) (count : ℕ) → eqb count 0 ≡ a → eqb (count + cond b 0 1) 0 ≡ a && b
told_more a true count e = rw (add-zero count) (e ∙ sym (and-true a))
told_more a false count e = ne_eqb (count + 1) 0 (λ z. omega arith) ∙ sym (and_false a)

at_most_one : (b : Bool) → cond b 0 1 ≤ 1
at_most_one true = omega arith
at_most_one false = omega arith

-- what `u64::from(!test)` and `u64::from(test)` count
pub counted_unless : (b : Bool) {n : ℕ} → n ≡ bool_byte (not b) → (n ≤ 1) × (n ≡ cond b 0 1)
counted_unless true e = (omega (arith, e), e)
counted_unless false e = (omega (arith, e), e)

pub counted_where : (b : Bool) {n : ℕ} → n ≡ bool_byte b → (n ≤ 1) × (n ≡ cond b 1 0)
counted_where true e = (omega (arith, e), e)
counted_where false e = (omega (arith, e), e)

module _ (p : ℕ → Bool) where
  pub counting_none : Counting p 0 0
  unfolding all_below
  counting_none = record { few = omega arith; told = refl }

  pub counting_more : {i count v : ℕ} → Counting p i count → v ≡ cond (p i) 0 1 → Counting p (i + 1) (count + v)
  unfolding all_below
  counting_more {i} {count} {v} u e =
      rw e (record { few = omega (arith, at_most_one (p i), u.few); told = rw (add-one i) (told_more (all_below p i) (p i) count u.told) })

  pub counting_done : {n i count : ℕ} → Counting p i count → i ≤ n → n ≤ i → eqb count 0 ≡ all_below p n
  counting_done {n} {i} u below above = let e : n ≡ i = omega arith in rw e u.told

-- what a branch on a count tells of the test
pub none_counted : {count : ℕ} {t : Bool} → eqb count 0 ≡ t → count ≡ 0 → t ≡ true
none_counted e z = sym e ∙ eq-eqb _ 0 z

pub some_counted : {count : ℕ} {t : Bool} → eqb count 0 ≡ t → (count ≡ 0 → ⊥) → t ≡ false
some_counted e h = sym e ∙ ne_eqb _ 0 h

-- a sum of counts is 0 where each is; one that is added tells its test
pub zero_sum : (x y : ℕ) → eqb (x + y) 0 ≡ eqb x 0 && eqb y 0
zero_sum zero y = rw (zero-add y)
zero_sum (suc x) y = ne_eqb (suc x + y) 0 (λ e. omega arith) ∙ sym (ap (λ (t : Bool). t && eqb y 0) (ne_eqb (suc x) 0 (λ e. omega arith)))

pub one_told : (b : Bool) → eqb (cond b 0 1) 0 ≡ b
one_told true = refl
one_told false = refl

-- a turn that looks at two, each with a counter of its own
pub two_counted :
    (p : ℕ → Bool) (odd even : ℕ) {i v w : ℕ} → Counting p i (odd + even) → v ≡ cond (p i) 0 1 → w ≡ cond (p (i + 1)) 0 1
    → Counting p (i + 2) (odd + v + (even + w))
two_counted p odd even {i} {v} {w} u e d =
    let s : i + 2 ≡ i + 1 + 1 = omega arith in
    let t : odd + v + (even + w) ≡ odd + even + v + w = omega arith in
    rw (s, t) (counting_more p (counting_more p u e) d)
