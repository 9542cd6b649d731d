-- Of all values `root_digits n` makes the one nearest the root of n: the middle of it and of any other lies on that one's side of the root. A value that is a
-- multiple of the last digit's place is a whole number of such places, where `root_digits` is nearest; any other is below 2 ^ 52 of them, and those are at
-- most the root. Assumes nothing.
use mathlib.Core.Path.{◌≡◌, refl, sym, ap, ◌∙◌, subst}
use mathlib.Core.Logic.{◌⊎◌, inl, inr, ⊎_elim}
use mathlib.Core.Bool.{Bool, true, false, not}
use Prim.Native.Nat.{ℕ, zero, suc, ◌+◌, ◌-◌, ◌*◌, ◌^◌, ◌≤◌, ◌<◌}
use native.Mathlib.Nat.{le_trans, le_of_eq, le_of_lt, lt_of_lt_of_le, lt_of_le_of_lt, lt_irrefl, not-suc-le-zero, zero-lt-suc, zero-mul, add-mul, mul_assoc, mul-mul-mul_comm, mul-pos, mul-le-mul, mul-le-mul_right, mul-lt-mul_of_pos_right, lt_of_mul-lt-mul_right}
use native.Mathlib.Omega.{arith}
use lib.IntN.{pos}
use lib.Dec.{T, ltb, ltb→lt, nltb→le}
use lib.Pow.{pow-add, pow_pos, pow_mono, shl_lt}
use lib.Ieee.{Float, fin, binary64, size, fits}
use Rattle.root.specs.Digits.{IsNearestRoot}
use Rattle.root.specs.Root.{cut_places, root_digits, root_units}
use Rattle.root.proofs.Powers.{four_pow, four_pos}
use Rattle.root.proofs.Patterns.{Counts}
use Rattle.root.proofs.NearestWhole.{middle_below, middle_above, middle_at_most}
use Rattle.root.proofs.LeadingDigits.{shortened, shortened_low, shortened_whole, digits_nearest, digits_low, units_count, units_held, enough, not_many}

sum_squared : (k a w : ℕ) → (a * 2 ^ k + w * 2 ^ k) * (a * 2 ^ k + w * 2 ^ k) ≡ (a + w) * (a + w) * 4 ^ k
sum_squared k a w =
    ap (λ (x : ℕ). x * x) (sym (add-mul a w (2 ^ k))) ∙ mul-mul-mul_comm (a + w) (2 ^ k) (a + w) (2 ^ k) ∙ ap (λ (x : ℕ). (a + w) * (a + w) * x) (sym (four_pow k))

square_lt : (a b : ℕ) → a < b → a * a < b * b
square_lt a b h = lt_of_le_of_lt (mul-le-mul (le_of_eq refl) (le_of_lt h)) (mul-lt-mul_of_pos_right h (lt_of_le_of_lt (omega arith) h))

-- a value, m * 2 ^ i with an m of at most 53 digits, is a multiple of 2 ^ k, or it is below 2 ^ 52 of them
below_or_multiple : (k m i : ℕ) → m < 2 ^ 53 → (m * 2 ^ i < 2 ^ 52 * 2 ^ k) ⊎ ((a : ℕ) × (m * 2 ^ i ≡ a * 2 ^ k))
below_or_multiple k m i M = go (ltb i k) (ltb→lt i k) (nltb→le i k)
  where
    go : (b : Bool) → (T b → i < k) → (T (not b) → k ≤ i) → (m * 2 ^ i < 2 ^ 52 * 2 ^ k) ⊎ ((a : ℕ) × (m * 2 ^ i ≡ a * 2 ^ k))
    go true a b =
        let c : 53 + i ≤ 52 + k = omega (arith, a tt) in
        inl (lt_of_lt_of_le (shl_lt 53 i M) (le_trans (pow_mono c) (le_of_eq (pow-add 2 52 k))))
    go false a b =
        let c : i - k + k ≡ i = omega (arith, b tt) in
        inr (m * 2 ^ (i - k), ap (λ (x : ℕ). m * 2 ^ x) (sym c) ∙ ap (λ (x : ℕ). m * x) (pow-add 2 (i - k) k) ∙ sym (mul_assoc m (2 ^ (i - k)) (2 ^ k)))

-- so a value above n * 2 ^ k, for an n of 53 digits, is a greater multiple of 2 ^ k
pub greater_multiple : (k n m i : ℕ) → 2 ^ 52 ≤ n → m < 2 ^ 53 → n * 2 ^ k < m * 2 ^ i → (a : ℕ) × (n < a) × (m * 2 ^ i ≡ a * 2 ^ k)
greater_multiple k n m i N M h =
    ⊎_elim
    (λ s. absurd (lt_irrefl (m * 2 ^ i) (lt_of_lt_of_le s (le_trans (mul-le-mul_right (2 ^ k) N) (le_of_lt h)))))
    (λ e. (e.0, lt_of_mul-lt-mul_right (2 ^ k) (subst (λ (x : ℕ). n * 2 ^ k < x) e.1 h), e.1))
    (below_or_multiple k m i M)

-- ---- a value v beside w * 2 ^ k, where w is nearest the root of c
module _ (k c w : ℕ) (C : 2 ^ 104 ≤ c) (W : 2 ^ 52 ≤ w) (N : IsNearestRoot c w) (m i : ℕ) (M : m < 2 ^ 53) where
  abbrev v : ℕ
  v = m * 2 ^ i

  abbrev both : ℕ
  both = (v + w * 2 ^ k) * (v + w * 2 ^ k)

  less : v < w * 2 ^ k → both < 4 * (c * 4 ^ k)
  less h = ⊎_elim short multiple (below_or_multiple k m i M)
    where
      short : v < 2 ^ 52 * 2 ^ k → both < 4 * (c * 4 ^ k)
      short l =
          let s : v + w * 2 ^ k < 2 ^ 52 * 2 ^ k + w * 2 ^ k = omega arith in
          lt_of_lt_of_le (square_lt (v + w * 2 ^ k) (2 ^ 52 * 2 ^ k + w * 2 ^ k) s) (rw (sum_squared k (2 ^ 52) w) (rw (sym (mul_assoc 4 c (4 ^ k))) (mul-le-mul_right (4 ^ k) (middle_at_most c w (2 ^ 52) N C))))

      multiple : ((a : ℕ) × (v ≡ a * 2 ^ k)) → both < 4 * (c * 4 ^ k)
      multiple e =
          let a = e.0 in
          let l : a < w = lt_of_mul-lt-mul_right (2 ^ k) (subst (λ (x : ℕ). x < w * 2 ^ k) e.1 h) in
          rw e.1 (rw (sum_squared k a w) (rw (sym (mul_assoc 4 c (4 ^ k))) (mul-lt-mul_of_pos_right (middle_below c w a N l) (four_pos k))))

  more : w * 2 ^ k < v → 4 * (c * 4 ^ k) < both
  more h =
      let g = greater_multiple k w m i W M h in
      rw g.2 (rw (sum_squared k g.0 w) (rw (sym (mul_assoc 4 c (4 ^ k))) (mul-lt-mul_of_pos_right (middle_above c w g.0 N g.1) (four_pos k))))

-- ---- r is nearer the root of n than any other value, both counted in the smallest f64

pub record Nearest (n : ℕ) (r : Float) : Type 0 where
  pub count : ℕ
  pub counts : Counts r false count
  pub held : T (fits binary64 r)
  pub less : (m i : ℕ) → m < 2 ^ 53 → m * 2 ^ i < count → (m * 2 ^ i + count) * (m * 2 ^ i + count) < 4 * n
  pub more : (m i : ℕ) → m < 2 ^ 53 → count < m * 2 ^ i → 4 * n < (m * 2 ^ i + count) * (m * 2 ^ i + count)

nearest_root : (n : ℕ) → 105 ≤ size n → size n ≤ 3172 → shortened n * 4 ^ cut_places n ≡ n → Nearest n (root_units n)
nearest_root n lo hi whole =
    let k = cut_places n in
    let w = root_digits n in
    record {
      count = w * 2 ^ k;
      counts = units_count n lo hi;
      held = units_held n lo hi;
      less = λ m i M h. subst (λ (x : ℕ). (m * 2 ^ i + w * 2 ^ k) * (m * 2 ^ i + w * 2 ^ k) < 4 * x) whole (less k (shortened n) w (shortened_low n lo) (digits_low n lo) (digits_nearest n lo) m i M h);
      more = λ m i M h. subst (λ (x : ℕ). 4 * x < (m * 2 ^ i + w * 2 ^ k) * (m * 2 ^ i + w * 2 ^ k)) whole (more k (shortened n) w (shortened_low n lo) (digits_low n lo) (digits_nearest n lo) m i M h);
    }

root_of_none : root_units 0 ≡ fin false 0 (pos 0)
unfolding root_units
root_of_none = refl

nearest_none : Nearest 0 (root_units 0)
nearest_none = subst (λ (r : Float). Nearest 0 r) (sym root_of_none) record {
  count = 0;
  counts = (refl, refl);
  held = unfold fits in tt;
  less = λ m i M h. absurd (not-suc-le-zero h);
  more = λ m i M h. let g : 0 < m * 2 ^ i + 0 = omega arith in square_lt 0 (m * 2 ^ i + 0) g;
}

pub nearest_of : (m j : ℕ) → m < 2 ^ 53 → m * 2 ^ j < 2 ^ 2098 → Nearest (m * 2 ^ j * 2 ^ 1074) (root_units (m * 2 ^ j * 2 ^ 1074))
nearest_of zero j l h = subst (λ (n : ℕ). Nearest n (root_units n)) (sym (ap (λ (x : ℕ). x * 2 ^ 1074) (zero-mul (2 ^ j)))) nearest_none
nearest_of (suc m) j l h =
    let u = suc m * 2 ^ j in
    let e : u * 2 ^ 1074 ≡ suc m * 2 ^ (j + 1074) = mul_assoc (suc m) (2 ^ j) (2 ^ 1074) ∙ ap (λ (x : ℕ). suc m * x) (sym (pow-add 2 j 1074)) in
    let lo : 105 ≤ size (u * 2 ^ 1074) = enough u (mul-pos (zero-lt-suc m) (pow_pos j)) in
    nearest_root (u * 2 ^ 1074) lo (not_many u h)
    (subst (λ (n : ℕ). shortened n * 4 ^ cut_places n ≡ n) (sym e) (shortened_whole (suc m) (j + 1074) l (subst (λ (n : ℕ). 105 ≤ size n) e lo)))
