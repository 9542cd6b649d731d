-- What is lessened does not rise: a value less one that is not below zero is no more than it was before the difference is rounded, and rounding keeps the
-- order and leaves a value that fits as it is. And R·Q·Q / S is not below zero where R is not: clear signs give a clear one, -0 gives -0. Assumes nothing.
use mathlib.Core.Path.{◌≡◌, refl, sym, ◌∙◌}
use mathlib.Core.Bool.{Bool, true, false, cond, true≢false}
use Prim.Native.Nat.{ℕ, zero, suc, ◌+◌, ◌-◌, ◌*◌, ◌≤◌, ◌<◌, zero-le}
use native.Mathlib.Nat.{le_refl, le_trans, le_of_eq, le-add_right, sub-le, sub-zero, zero-mul, mul_comm, mul_assoc, mul_left_comm, mul-pos, mul-le-mul_right}
use native.Mathlib.Omega.{arith}
use borrow.Author.Tests.{ltb-false, lt-ltb, le-ltb}
use lib.IntN.{ℤ, pos}
use lib.Dec.{T, ltb, eqb-suc-zero}
use lib.Ieee.{Float, nan, inf, fin, Format, binary64, up, down, round, sum, sub, mul, div, lt, fits, of_bits, below}
use lib.Ieee.Fits.{up_pos, down_pos, neg-fits}
use lib.Ieee.Scale.{finite, round_same}
use lib.Ieee.Positive.{through}
use Rattle.fields.specs.Real.{◌⊠◌, ◌⊘◌, zero64}
use Rattle.fields.proofs.OwnRounding.{round_own}
use Rattle.fields.proofs.Signs.{round_sign, not_under, minus, mul_clear, div_clear, above_zero, not_below_zero_lem}
use Rattle.fields.proofs.Rounding.{round_neg, neg-lt, at_least, at_most}

-- ---- zero

-- of what has its sign set only -0 is not below zero
set_below : (n : ℕ) (d : ℤ) → lt (fin true (suc n) d) (fin false 0 (pos 0)) ≡ false → ⊥
unfolding lt
set_below n d h =
    let p : 0 < suc n * up d = mul-pos (omega arith) (up_pos d) in
    let q = ltb-false 0 (suc n * up d * 1 + 0 * 1 * down d) h in
    omega arith

round_none : (f : Format) (s : Bool) (c : ℕ) → 0 < c → round f s 0 c ≡ fin s 0 (pos 0)
unfolding fits
round_none f s c C = round_same f s 0 c 0 1 C (omega arith) (sym (zero-mul c)) ∙ round_own f s 0 (pos 0) tt

-- ---- a finite value with another taken from its size, or added to it

module _ (f : Format) (m : ℕ) (e d : ℤ) (t : T (fits f (fin false m e))) where
  abbrev A : ℕ
  A = m * up e * down d

  abbrev C : ℕ
  C = down e * down d

  c_pos : 0 < C
  c_pos = mul-pos (down_pos e) (down_pos d)

  as_one : A * down e ≡ m * up e * C
  as_one = simp (mul_assoc, mul_comm, mul_left_comm)

  smaller : (a : ℕ) → a ≤ A → lt (fin false m e) (round f false a C) ≡ false
  smaller a h = at_most f m e t a C c_pos (le_trans (mul-le-mul_right (down e) h) (le_of_eq as_one))

  greater : (a : ℕ) → A ≤ a → lt (fin true m e) (round f true a C) ≡ false
  greater a h =
      rw (round_neg f a C)
      (neg-lt (round f false a C) m e ∙ at_least f m e t a C c_pos (le_trans (le_of_eq (sym as_one)) (mul-le-mul_right (down e) h)))

  -- less b, which may be the greater: then the sign is set
  less : (b : ℕ) → lt (fin false m e) (sum f false A true b C) ≡ false
  unfolding sum
  less b = go (ltb A b)
    where
      go : (x : Bool) → lt (fin false m e) (cond x (round f true (b - A) C) (round f false (A - b) C)) ≡ false
      go true = not_under (fin false m e) (round f true (b - A) C) refl (round_sign f true (b - A) C)
      go false = smaller (A - b) (sub-le A b)

  -- less -0, with the sign set: of two that are -0 the sum is +0, which is not above -0
  set_less_zero : lt (fin true m e) (sum f true A false 0 C) ≡ false
  unfolding sum lt
  set_less_zero = rw (le-ltb A 0 zero-le, sub-zero) (go m refl)
    where
      go : (k : ℕ) → m ≡ k → lt (fin true m e) (round f (ltb 0 A) A C) ≡ false
      go zero z = rw (z, zero-mul (up e), zero-mul (down d), round_none f false C c_pos) (rw (zero-mul (up e), zero-mul (down e)) refl)
      go (suc k) z = let p : 0 < A = mul-pos (mul-pos (omega arith) (up_pos e)) (down_pos d) in rw (lt-ltb 0 A p) (greater A (le_refl A))

-- h less what is not below zero is not above h: with h's sign set the size grows, and with it clear it shrinks or the sign is set. A NaN is not above any h.
pub not_above : (f : Format) (h x : Float) → T (fits f h) → lt x (fin false 0 (pos 0)) ≡ false → lt h (sub f h x) ≡ false
unfolding lt sub
not_above f nan x t p = refl
not_above f (inf s) nan t p = refl
not_above f (inf s) (inf true) t p = absurd (true≢false p)
not_above f (inf true) (inf false) t p = refl
not_above f (inf false) (inf false) t p = refl
not_above f (inf true) (fin u n d) t p = refl
not_above f (inf false) (fin u n d) t p = refl
not_above f (fin s m e) nan t p = refl
not_above f (fin s m e) (inf true) t p = absurd (true≢false p)
not_above f (fin s m e) (inf false) t p = refl
not_above f (fin s m e) (fin true (suc n) d) t p = absurd (set_below n d p)
not_above f (fin true m e) (fin true zero d) t p = rw (zero-mul (up d), zero-mul (down e)) (set_less_zero f m e d (neg-fits f (fin true m e) t))
not_above f (fin false m e) (fin true zero d) t p =
    let A = m * up e * down d in
    rw (zero-mul (up d), zero-mul (down e)) (smaller f m e d t (A + 0) (omega arith))
not_above f (fin true m e) (fin false n d) t p =
    let A = m * up e * down d in
    let B = n * up d * down e in
    greater f m e d (neg-fits f (fin true m e) t) (A + B) (le-add_right A B)
not_above f (fin false m e) (fin false n d) t p = less f m e d t (n * up d * down e)

-- ---- products and quotients

-- What is not below zero times what has its sign clear is not below zero: its sign is clear like theirs, or x is -0 and it is -0 or a NaN.
pub mul_not_below : (f : Format) (x y : Float) → lt x (fin false 0 (pos 0)) ≡ false → minus y ≡ false → lt (mul f x y) (fin false 0 (pos 0)) ≡ false
unfolding lt mul
mul_not_below f nan y p q = refl
mul_not_below f (inf s) y p q = not_below_zero_lem (mul f (inf s) y) (mul_clear f (inf s) y (p ∙ sym q))
mul_not_below f (fin false m e) y p q = not_below_zero_lem (mul f (fin false m e) y) (mul_clear f (fin false m e) y (sym q))
mul_not_below f (fin true (suc m) e) y p q = absurd (set_below m e p)
mul_not_below f (fin true zero e) nan p q = refl
mul_not_below f (fin true zero e) (inf t) p q = refl
mul_not_below f (fin true zero e) (fin true n d) p q = absurd (true≢false q)
mul_not_below f (fin true zero e) (fin false n d) p q =
    rw (zero-mul (up e), zero-mul (n * up d), round_none f true (down e * down d) (mul-pos (down_pos e) (down_pos d))) refl

-- So with the quotient; over zero it is an infinity with its sign clear, or a NaN.
pub div_not_below : (f : Format) (x y : Float) → lt x (fin false 0 (pos 0)) ≡ false → minus y ≡ false → lt (div f x y) (fin false 0 (pos 0)) ≡ false
unfolding lt div
div_not_below f nan y p q = refl
div_not_below f (inf s) y p q = not_below_zero_lem (div f (inf s) y) (div_clear f (inf s) y (p ∙ sym q))
div_not_below f (fin false m e) y p q = not_below_zero_lem (div f (fin false m e) y) (div_clear f (fin false m e) y (sym q))
div_not_below f (fin true (suc m) e) y p q = absurd (set_below m e p)
div_not_below f (fin true zero e) nan p q = refl
div_not_below f (fin true zero e) (inf true) p q = absurd (true≢false q)
div_not_below f (fin true zero e) (inf false) p q = refl
div_not_below f (fin true zero e) (fin true n d) p q = absurd (true≢false q)
div_not_below f (fin true zero e) (fin false zero d) p q = refl
div_not_below f (fin true zero e) (fin false (suc n) d) p q =
    let c : 0 < suc n * up d * down e = mul-pos (mul-pos (omega arith) (up_pos d)) (down_pos e) in
    rw (eqb-suc-zero n, zero-mul (up e), zero-mul (down d), round_none f true (suc n * up d * down e) c) refl

-- R·Q·Q / S is not below zero where R is not and Q and S are above it: so is R·Q, then R·Q·Q, then the quotient.
pub drop_not_below : (R Q S : Float) → lt R zero64 ≡ false → lt zero64 Q ≡ true → lt zero64 S ≡ true → lt (((R ⊠ Q) ⊠ Q) ⊘ S) zero64 ≡ false
unfolding of_bits
drop_not_below R Q S r q s =
    let Q-clear = above_zero Q q in
    div_not_below binary64 ((R ⊠ Q) ⊠ Q) S (mul_not_below binary64 (R ⊠ Q) Q (mul_not_below binary64 R Q r Q-clear) Q-clear) (above_zero S s)

-- ---- one after the other

-- a / p, b / q and c / r with their signs; where the signs differ a zero stands for the one between
module _ (a p b q c r : ℕ) (Q : 0 < q) where
  falls : (s t u : Bool) → below s (a * q) t (b * p) ≡ false → below t (b * r) u (c * q) ≡ false → below s (a * r) u (c * p) ≡ false
  falls false t true h k = refl
  falls false false false h k = le-ltb (a * r) (c * p) (through c b a r q p Q (ltb-false (b * r) (c * q) k) (ltb-false (a * q) (b * p) h))
  falls false true false h k =
      let z = ltb-false 0 (b * r + c * q) k in
      le-ltb (a * r) (c * p) (through c 0 a r q p Q (omega arith) (omega arith))
  falls true false false h k =
      let z = ltb-false 0 (a * q + b * p) h in
      let x = through a 0 0 p q r Q (omega arith) (omega arith) in
      let y = through c b 0 r q p Q (ltb-false (b * r) (c * q) k) (omega arith) in
      le-ltb 0 (a * r + c * p) (omega arith)
  falls true false true h k =
      let z = ltb-false 0 (a * q + b * p) h in
      le-ltb (c * p) (a * r) (through a 0 c p q r Q (omega arith) (omega arith))
  falls true true false h k =
      let z = ltb-false 0 (b * r + c * q) k in
      let x = through a b 0 p q r Q (ltb-false (b * p) (a * q) h) (omega arith) in
      let y = through c 0 0 r q p Q (omega arith) (omega arith) in
      le-ltb 0 (a * r + c * p) (omega arith)
  falls true true true h k = le-ltb (c * p) (a * r) (through a b c p q r Q (ltb-false (b * p) (a * q) h) (ltb-false (c * q) (b * r) k))

-- Where y, finite, is not above x, and z not above y, z is not above x: x, y and z as fractions, each order multiplied by the third's lower number.
pub not_above_trans : (x y z : Float) → finite y ≡ true → lt x y ≡ false → lt y z ≡ false → lt x z ≡ false
unfolding lt
not_above_trans x nan z w p q = absurd (true≢false (sym w))
not_above_trans x (inf t) z w p q = absurd (true≢false (sym w))
not_above_trans nan (fin t n d) z w p q = refl
not_above_trans (inf true) (fin t n d) z w p q = absurd (true≢false p)
not_above_trans (inf false) (fin t n d) nan w p q = refl
not_above_trans (inf false) (fin t n d) (inf u) w p q = refl
not_above_trans (inf false) (fin t n d) (fin u k g) w p q = refl
not_above_trans (fin s m e) (fin t n d) nan w p q = refl
not_above_trans (fin s m e) (fin t n d) (inf u) w p q = q
not_above_trans (fin s m e) (fin t n d) (fin u k g) w p q = falls (m * up e) (down e) (n * up d) (down d) (k * up g) (down g) (down_pos d) s t u p q

-- a value is not above itself
pub not_above_itself : (x : Float) → lt x x ≡ false
unfolding lt
not_above_itself nan = refl
not_above_itself (inf true) = refl
not_above_itself (inf false) = refl
not_above_itself (fin true m e) = le-ltb (m * up e * down e) (m * up e * down e) (le_refl _)
not_above_itself (fin false m e) = le-ltb (m * up e * down e) (m * up e * down e) (le_refl _)
