-- Exact values as fractions of whole numbers, by which the root is judged. Nothing here is an operation on floats. Definitions only.
use Rattle.std.specs.Prelude.{◌≡◌, ℕ, ◌+◌, ◌*◌, ◌≤◌, ◌<◌, Float}
use Rattle.std.specs.Float.{nan, inf, fin}
use Rattle.std.specs.Float.Ieee.{up, down}

-- numerator / denominator
pub record Fraction : Type 0 where
  pub numerator : ℕ
  pub denominator : ℕ

-- The magnitude of m · 2^e, where 2^e is the fraction `up e` / `down e`. What is not finite has none, and 0 / 0 stands there.
abbrev pub exact : Float → Fraction
exact nan = record { numerator = 0; denominator = 0 }
exact (inf s) = record { numerator = 0; denominator = 0 }
exact (fin s m e) = record { numerator = m * up e; denominator = down e }

abbrev pub sum_of : Fraction → Fraction → Fraction
sum_of f g = record { numerator = f.numerator * g.denominator + g.numerator * f.denominator; denominator = f.denominator * g.denominator }

abbrev pub square_of : Fraction → Fraction
square_of f = record { numerator = f.numerator * f.numerator; denominator = f.denominator * f.denominator }

abbrev pub four_times : Fraction → Fraction
four_times f = record { numerator = 4 * f.numerator; denominator = f.denominator }

-- the order of two fractions, their denominators multiplied out
abbrev pub Below : Fraction → Fraction → Type 0
Below f g = f.numerator * g.denominator < g.numerator * f.denominator

abbrev pub AtMost : Fraction → Fraction → Type 0
AtMost f g = f.numerator * g.denominator ≤ g.numerator * f.denominator

abbrev pub Equal : Fraction → Fraction → Type 0
Equal f g = f.numerator * g.denominator ≡ g.numerator * f.denominator
