-- Demand 3's equality is equality of bits: values of the f64 format are equal exactly where their patterns are. `to_bits` is the machine's own pattern of
-- every value but a NaN, and by `all_finite_lem` no head, flow or envelope that a list of calls leaves is one. Assumes nothing.
use mathlib.Core.Path.{◌≡◌, sym, ap, ◌∙◌}
use mathlib.Core.Logic.{◌↔◌}
use lib.Dec.{T}
use lib.Ieee.{Float, binary64, fits, of_bits, to_bits}
use lib.Ieee.Bits.{of_bits-to_bits}

pub same_bits : (x y : Float) → T (fits binary64 x) → T (fits binary64 y) → (x ≡ y) ↔ (to_bits binary64 x ≡ to_bits binary64 y)
same_bits x y fx fy =
    (λ e. ap (to_bits binary64) e, λ e. sym (of_bits-to_bits binary64 x fx) ∙ ap (of_bits binary64) e ∙ of_bits-to_bits binary64 y fy)
