-- A subnormal is moved up by its leading zeros until its top digit stands at 2^52, and its power is less by as many; a normal number has that digit
-- already. Either way the value is the same. Assumes nothing.
use mathlib.Core.Path.{◌≡◌, refl, sym, ap, ◌∙◌, subst}
use Prim.Native.Nat.{ℕ, zero, suc, ◌+◌, ◌-◌, ◌*◌, ◌/◌, ◌%◌, ◌^◌, ◌≤◌, ◌<◌}
use native.Mathlib.Nat.{le_trans, le_of_eq, lt_of_lt_of_le, lt_of_le_of_lt, mul_assoc, mul-le-mul_right, mul-lt-mul_of_pos_right, mod-eq_of_lt}
use native.Mathlib.Omega.{arith}
use lib.Pow.{pow-add, pow_pos}
use lib.Dec.{lit<}
use lib.Count.{count_leading_zeros, leading_top}
use Rattle.root.specs.Digits.{IsWidened, units_at, units_of}
use Rattle.root.proofs.Powers.{pow_lt_back}
use Rattle.root.proofs.widened.Goals as goal

-- a t below 2 ^ 52 with z leading zeros of 64, moved up by z - 11
record Lifted (t z : ℕ) : Type 0 where
  enough : 12 ≤ z
  shift : z - 11 ≤ 52
  full : 2 ^ 52 ≤ t * 2 ^ (z - 11)
  bound : t * 2 ^ (z - 11) < 2 ^ 53

lifted : (t : ℕ) → 0 < t → t < 2 ^ 52 → Lifted t (count_leading_zeros 64 t)
lifted t p h =
    let l = leading_top 64 t p (lt_of_lt_of_le h (lit< tt)) in
    go (count_leading_zeros 64 t) l.0 l.1 (pow_lt_back l.0 52 (lt_of_le_of_lt l.2 h)) l.2 l.3
  where
    go : (z j : ℕ) → z + suc j ≡ 64 → j < 52 → 2 ^ j ≤ t → t < 2 ^ suc j → Lifted t z
    go z j e k lo hi =
        let a : j + (z - 11) ≡ 52 = omega arith in
        let b : suc j + (z - 11) ≡ 53 = omega arith in record {
          enough = omega arith;
          shift = omega arith;
          full = le_trans (le_of_eq (ap (λ (x : ℕ). 2 ^ x) (sym a) ∙ pow-add 2 j (z - 11))) (mul-le-mul_right (2 ^ (z - 11)) lo);
          bound = lt_of_lt_of_le (mul-lt-mul_of_pos_right hi (pow_pos (z - 11))) (le_of_eq (sym (pow-add 2 (suc j) (z - 11)) ∙ ap (λ (x : ℕ). 2 ^ x) b));
        }

-- the two halves of the contract
low_value : (b : ℕ) → b / 2 ^ 52 ≡ 0 → units_of b ≡ b % 2 ^ 52
low_value b e = ap (λ (f : ℕ). units_at f (b % 2 ^ 52)) e

split_shift : (t s : ℕ) → s ≤ 52 → t * 2 ^ 1074 ≡ t * 2 ^ s * 2 ^ (1074 - s)
split_shift t s h =
    let e : s + (1074 - s) ≡ 1074 = omega arith in
    ap (λ (x : ℕ). t * 2 ^ x) (sym e) ∙ ap (λ (x : ℕ). t * x) (pow-add 2 s (1074 - s)) ∙ sym (mul_assoc t (2 ^ s) (2 ^ (1074 - s)))

below_full : (b : ℕ) → 0 < b → b / 2 ^ 52 ≡ 0 → 0 < b % 2 ^ 52
below_full b h e = omega arith

subnormal : (b z : ℕ) → b / 2 ^ 52 ≡ 0 → Lifted (b % 2 ^ 52) z → IsWidened b (b % 2 ^ 52 * 2 ^ (z - 11) % 2 ^ 64) (1074 - (z - 11))
subnormal b z e l =
    subst (λ (d : ℕ). IsWidened b d (1074 - (z - 11))) (sym (mod-eq_of_lt (lt_of_lt_of_le l.bound (lit< tt)))) record {
      full = l.full;
      bound = l.bound;
      value = ap (λ (x : ℕ). x * 2 ^ 1074) (low_value b e) ∙ split_shift (b % 2 ^ 52) (z - 11) l.shift;
      least = omega (arith, l.shift);
      most = omega arith;
    }

normal_value : (f t : ℕ) → (f ≡ 0 → ⊥) → units_at f t * 2 ^ 1074 ≡ (2 ^ 52 + t) * 2 ^ (f + 1073)
normal_value zero t n = absurd (n refl)
normal_value (suc x) t n =
    let e : x + 1074 ≡ suc x + 1073 = omega arith in
    mul_assoc (2 ^ 52 + t) (2 ^ x) (2 ^ 1074) ∙ ap (λ (y : ℕ). (2 ^ 52 + t) * y) (sym (pow-add 2 x 1074) ∙ ap (λ (y : ℕ). 2 ^ y) e)

pub overflow_sub-shift : goal.overflow_sub-shift
overflow_sub-shift c = omega (arith, (lifted (c.args.b % 2 ^ 52) (below_full c.args.b c.requires.b_nonzero c.if-field-eq0.true) (omega arith)).enough, c.from-shift.ensures)

pub returns-then-field-eq0 : goal.returns-then-field-eq0
returns-then-field-eq0 c =
    let low = c.args.b % 2 ^ 52 in
    rw c.from-shift.ensures
    (subnormal c.args.b (count_leading_zeros 64 low) c.if-field-eq0.true (lifted low (below_full c.args.b c.requires.b_nonzero c.if-field-eq0.true) (omega arith)))

pub returns-else-field-eq0 : goal.returns-else-field-eq0
returns-else-field-eq0 c =
    let b = c.args.b in record {
      full = omega arith;
      bound = omega arith;
      value = normal_value (b / 2 ^ 52) (b % 2 ^ 52) c.if-field-eq0.false;
      least = omega arith;
      most = omega arith;
    }
