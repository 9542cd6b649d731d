-- `root_of` by the argument's pattern, and what follows of the call's answer. Assumes nothing.
use mathlib.Core.Path.{◌≡◌, refl, sym, ap, ap₂, ◌∙◌, subst}
use Prim.Native.Nat.{ℕ, zero, suc, ◌+◌, ◌-◌, ◌*◌, ◌/◌, ◌%◌, ◌^◌, ◌≤◌, ◌<◌}
use mathlib.Core.Logic.{⊎_elim}
use native.Mathlib.Nat.{not-le_of_lt, eq-or-lt_of_le, mul_assoc, pow-succ'}
use native.Mathlib.Omega.{arith}
use mathlib.Core.Bool.{Bool, true, false, not, cond, true≢false}
use lib.Dec.{T, ltb, not_T, ltb→lt}
use lib.Pow.{pow_pos}
use lib.Ieee.{Float, nan, inf, fin, binary64, size, fits, is_nan, ne, lt, of_bits, to_bits, nan_bits}
use lib.Ieee.Bits.{of_bits-fits, nan_bits_above}
use lib.Ieee.Compare.{differs_from_itself, nan_differs}
use Rattle.fields.proofs.OwnRounding.{one_value}
use Rattle.root.specs.Root.{rootable, IsRoot, cut_places, root_digits, root_units, root_of}
use Rattle.root.specs.Digits.{units_at, units_of, root_pattern}
use Rattle.root.proofs.Patterns.{Counts, pattern_counts, units_pos, count_below, plus_pattern, minus_zero_pattern}
use Rattle.root.proofs.LeadingDigits.{digits_low, digits_high, few, enough, not_many, units_count, units_held}
use Rattle.root.proofs.Relation.{root_of_is, root_is}
use Rattle.root.proofs.Rootable.{plus_rootable, minus_not_rootable}
use Rattle.root.specs.Answer.{refused, value, root_answer}

pub nan_answer : (x : Float) → ne x x ≡ true → x ≡ root_of x
unfolding root_of
nan_answer x e = let n : x ≡ nan = differs_from_itself x (subst T (sym e) tt) in rw n

pub no_nan : (x : Float) → ne x x ≡ false → T (not (is_nan x))
unfolding is_nan
no_nan nan e = absurd (true≢false (sym nan_differs ∙ e))
no_nan (inf s) e = tt
no_nan (fin s m d) e = tt

pub zero_answer : of_bits binary64 0 ≡ root_of (of_bits binary64 0)
unfolding root_of lt of_bits
zero_answer = refl

pub minus_zero_answer : of_bits binary64 0 ≡ root_of (of_bits binary64 0x8000_0000_0000_0000)
unfolding root_of lt of_bits
minus_zero_answer = refl

pub high_answer : (x : Float) → T (fits binary64 x) → 0x7ff0_0000_0000_0000 ≤ to_bits binary64 x → (to_bits binary64 x ≡ 0x8000_0000_0000_0000 → ⊥) → nan ≡ root_of x
unfolding root_of
high_answer nan f h n = refl
high_answer (inf s) f h n = refl
high_answer (fin false m e) f h n = absurd (not-le_of_lt (plus_pattern m e f) h)
high_answer (fin true zero e) f h n = absurd (n (minus_zero_pattern e))
high_answer (fin true (suc m) e) f h n = rw (minus_not_rootable m e)

-- ---- a pattern of a value above zero

units_answer : (x : Float) (u : ℕ) → Counts x false u → root_units (u * 2 ^ 1074) ≡ root_of x
units_answer nan u c = absurd c
units_answer (inf s) u c = absurd c
units_answer (fin true m e) u c = absurd (true≢false c.0)
units_answer (fin false m e) u c = sym (root_of_is false m e u (plus_rootable m e) c.1)

digits_units : (k q : ℕ) → 2 ^ 52 ≤ q → q ≤ 2 ^ 53 → units_of (k * 2 ^ 52 + q) ≡ q * 2 ^ k
digits_units k q lo hi = ⊎_elim (λ (e : q ≡ 2 ^ 53). subst (λ (z : ℕ). units_of (k * 2 ^ 52 + z) ≡ z * 2 ^ k) (sym e) carried) plain (eq-or-lt_of_le hi)
  where
    plain : q < 2 ^ 53 → units_of (k * 2 ^ 52 + q) ≡ q * 2 ^ k
    plain l =
        let a : (k * 2 ^ 52 + q) / 2 ^ 52 ≡ suc k = omega arith in
        let b : (k * 2 ^ 52 + q) % 2 ^ 52 ≡ q - 2 ^ 52 = omega arith in
        let c : 2 ^ 52 + (q - 2 ^ 52) ≡ q = omega arith in
        ap₂ units_at a b ∙ ap (λ (x : ℕ). x * 2 ^ k) c

    -- 2 ^ 53 carries into the exponent's field
    carried : units_of (k * 2 ^ 52 + 2 ^ 53) ≡ 2 ^ 53 * 2 ^ k
    carried =
        let a : (k * 2 ^ 52 + 2 ^ 53) / 2 ^ 52 ≡ suc (suc k) = omega arith in
        let b : (k * 2 ^ 52 + 2 ^ 53) % 2 ^ 52 ≡ 0 = omega arith in
        ap₂ units_at a b ∙ ap (λ (x : ℕ). 2 ^ 52 * x) (pow-succ' 2 k) ∙ sym (mul_assoc (2 ^ 52) 2 (2 ^ k))

pattern_parts : (n : ℕ) → root_pattern n ≡ cut_places n * 2 ^ 52 + root_digits n
unfolding root_pattern
pattern_parts n = refl

module _ (n : ℕ) (lo : 105 ≤ size n) (hi : size n ≤ 3172) where
  pattern_lt : root_pattern n < 0x7ff0_0000_0000_0000
  pattern_lt = omega (arith, pattern_parts n, few n hi, digits_high n lo)

  pattern_units : units_of (root_pattern n) ≡ root_digits n * 2 ^ cut_places n
  pattern_units = ap units_of (pattern_parts n) ∙ digits_units (cut_places n) (root_digits n) (digits_low n lo) (digits_high n lo)

  pattern_value : of_bits binary64 (root_pattern n) ≡ root_units n
  pattern_value =
      one_value binary64 (of_bits binary64 (root_pattern n)) (root_units n) false (root_digits n * 2 ^ cut_places n) (2 ^ 1074) (pow_pos 1074) (of_bits-fits binary64 (root_pattern n)) (units_held n lo hi)
      (subst (λ (u : ℕ). Counts (of_bits binary64 (root_pattern n)) false u) pattern_units (pattern_counts (root_pattern n) pattern_lt))
      (units_count n lo hi)

no_nan_below : (n : ℕ) → n < 0x7ff0_0000_0000_0000 → T (not (nan_bits binary64 n))
no_nan_below n h =
    subst (λ (t : Bool). T (not t)) (sym (nan_bits_above binary64 n)) (not_T (ltb 9218868437227405312 (n % 9223372036854775808)) (λ t. clash (n % 9223372036854775808) (ltb→lt 9218868437227405312 (n % 9223372036854775808) t) (omega arith)))
  where
    clash : (m : ℕ) → 9218868437227405312 < m → m ≤ n → ⊥
    clash m a b = omega arith

module _ (b : ℕ) (lo : 0 < b) (hi : b < 0x7ff0_0000_0000_0000) where
  size_lo : 105 ≤ size (units_of b * 2 ^ 1074)
  size_lo = enough (units_of b) (units_pos b lo)

  size_hi : size (units_of b * 2 ^ 1074) ≤ 3172
  size_hi = not_many (units_of b) (count_below (of_bits binary64 b) false (units_of b) (of_bits-fits binary64 b) (pattern_counts b hi))

  pub root_no_nan : T (not (nan_bits binary64 (root_pattern (units_of b * 2 ^ 1074))))
  root_no_nan = no_nan_below (root_pattern (units_of b * 2 ^ 1074)) (pattern_lt (units_of b * 2 ^ 1074) size_lo size_hi)

  pub value_answer : of_bits binary64 (root_pattern (units_of b * 2 ^ 1074)) ≡ root_of (of_bits binary64 b)
  value_answer = pattern_value (units_of b * 2 ^ 1074) size_lo size_hi ∙ units_answer (of_bits binary64 b) (units_of b) (pattern_counts b hi)

-- ---- for a caller: the value that is answered is the root, and is no NaN

pub answer_is_root : (x r : Float) → T (fits binary64 x) → value r ≡ root_answer x → IsRoot x r
unfolding root_answer
answer_is_root x r f e = go (rootable x) (root_is x f) e
  where
    go : (t : Bool) → (t ≡ true → IsRoot x (root_of x)) → value r ≡ cond t (value (root_of x)) (refused 23) → IsRoot x r
    go true i e = let s : r ≡ root_of x = cc in rw s (i refl)
    go false i e = let z : ◌≡◌ {A = ℕ} 0 1 = cc in absurd (omega arith)

pub root_number : (x r : Float) → IsRoot x r → T (not (is_nan r))
unfolding is_nan
root_number x nan i = absurd i.value.sign
root_number x (inf s) i = tt
root_number x (fin s m e) i = tt
