-- A fraction as so many of one unit, 1 / L: sums, squares and the order of fractions are those of their counts of units. Assumes nothing.
use mathlib.Core.Path.{◌≡◌, sym, ap, ap₂, ◌∙◌}
use Prim.Native.Nat.{ℕ, ◌+◌, ◌*◌, ◌≤◌, ◌<◌}
use native.Mathlib.Nat.{le_trans, le_of_eq, lt_of_le_of_lt, lt_of_lt_of_le, add_comm, add-mul, mul_comm, mul_assoc, mul_right_comm, mul-mul-mul_comm, mul-pos, mul-le-mul_right, le_of_mul-le-mul_right, mul-lt-mul_of_pos_right, lt_of_mul-lt-mul_right, eq_of_mul-eq-mul_right}
use Rattle.root.specs.Fractions.{Fraction, sum_of, square_of, four_times, Below, AtMost, Equal}

-- f is u / L
abbrev pub Scaled : Fraction → ℕ → ℕ → Type 0
Scaled f L u = f.numerator * L ≡ u * f.denominator

-- over another denominator too
widen : (f : Fraction) (b L u : ℕ) → Scaled f L u → f.numerator * b * L ≡ u * (f.denominator * b)
widen f b L u p = mul_right_comm f.numerator b L ∙ ap (λ (x : ℕ). x * b) p ∙ mul_assoc u f.denominator b

pub square_scaled : (f : Fraction) (L u : ℕ) → Scaled f L u → Scaled (square_of f) (L * L) (u * u)
square_scaled f L u p = mul-mul-mul_comm f.numerator f.numerator L L ∙ ap₂ (λ (x y : ℕ). x * y) p p ∙ mul-mul-mul_comm u f.denominator u f.denominator

-- by a unit L times smaller
pub four_scaled : (f : Fraction) (L u : ℕ) → Scaled f L u → Scaled (four_times f) (L * L) (4 * (u * L))
four_scaled f L u p =
    sym (mul_assoc (4 * f.numerator) L L)
    ∙ ap (λ (x : ℕ). x * L) (mul_assoc 4 f.numerator L ∙ ap (λ (x : ℕ). 4 * x) p)
    ∙ mul_assoc 4 (u * f.denominator) L
    ∙ ap (λ (x : ℕ). 4 * x) (mul_right_comm u f.denominator L)
    ∙ sym (mul_assoc 4 (u * L) f.denominator)

pub sum_swapped : (f g : Fraction) → sum_of f g ≡ sum_of g f
sum_swapped f g = ap₂ (λ (t b : ℕ). record { numerator = t; denominator = b }) (add_comm (f.numerator * g.denominator) (g.numerator * f.denominator)) (mul_comm f.denominator g.denominator)

module _ (f g : Fraction) (L u v : ℕ) (p : Scaled f L u) (q : Scaled g L v) where
  -- both over the product of the denominators
  left_side : f.numerator * g.denominator * L ≡ u * (f.denominator * g.denominator)
  left_side = widen f g.denominator L u p

  right_side : g.numerator * f.denominator * L ≡ v * (f.denominator * g.denominator)
  right_side = widen g f.denominator L v q ∙ ap (λ (x : ℕ). v * x) (mul_comm g.denominator f.denominator)

  pub sum_scaled : Scaled (sum_of f g) L (u + v)
  sum_scaled =
      add-mul (f.numerator * g.denominator) (g.numerator * f.denominator) L ∙ ap₂ (λ (x y : ℕ). x + y) left_side right_side ∙ sym (add-mul u v (f.denominator * g.denominator))

  pub units_below : 0 < L → Below f g → u < v
  units_below l h =
      lt_of_mul-lt-mul_right (f.denominator * g.denominator) (lt_of_le_of_lt (le_of_eq (sym left_side)) (lt_of_lt_of_le (mul-lt-mul_of_pos_right h l) (le_of_eq right_side)))

  pub below_units : 0 < f.denominator → 0 < g.denominator → u < v → Below f g
  below_units a b h =
      lt_of_mul-lt-mul_right L (lt_of_le_of_lt (le_of_eq left_side) (lt_of_lt_of_le (mul-lt-mul_of_pos_right h (mul-pos a b)) (le_of_eq (sym right_side))))

  pub at_most_units : 0 < f.denominator → 0 < g.denominator → 0 < L → u ≤ v → AtMost f g
  at_most_units a b l h =
      le_of_mul-le-mul_right (le_trans (le_of_eq left_side) (le_trans (mul-le-mul_right (f.denominator * g.denominator) h) (le_of_eq (sym right_side)))) l

  pub units_at_most : 0 < f.denominator → 0 < g.denominator → AtMost f g → u ≤ v
  units_at_most a b h =
      le_of_mul-le-mul_right (le_trans (le_of_eq (sym left_side)) (le_trans (mul-le-mul_right L h) (le_of_eq right_side))) (mul-pos a b)

  pub units_equal : 0 < f.denominator → 0 < g.denominator → Equal f g → u ≡ v
  units_equal a b h = eq_of_mul-eq-mul_right (f.denominator * g.denominator) (mul-pos a b) u v (sym left_side ∙ ap (λ (x : ℕ). x * L) h ∙ right_side)
