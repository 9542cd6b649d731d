-- Figures of the root, as statements about the definitions; they are proved in proofs/Figures.antt. Definitions only.
use Rattle.std.specs.Prelude.{◌≡◌, false, ℕ, pos, negsuc, Float}
use Rattle.std.specs.Float.{nan, fin, binary64}
use Rattle.std.specs.Float.Ieee.{of_bits, to_bits}
use Rattle.root.specs.Root.{IsRoot, Neighbours, root_of}
use Rattle.root.specs.Answer.{refused, value, root_answer}

-- the value of a bit pattern, and the pattern of the root of a bit pattern's value
abbrev pub bits : ℕ → Float
bits b = of_bits binary64 b

abbrev pub root_bits : ℕ → ℕ
root_bits b = to_bits binary64 (root_of (bits b))

-- "P10 root of 144 is 12, of the least subnormal 2^-537"; "2 now ends in cd" (document 02, 2/12)
pub record P10 : Type 0 where
  pub of_144 : root_of (fin false 9 (pos 4)) ≡ fin false 3 (pos 2)
  pub of_least : root_of (fin false 1 (negsuc 1073)) ≡ fin false 1 (negsuc 536)
  pub of_2 : to_bits binary64 (root_of (fin false 1 (pos 1))) ≡ 0x3ff6_a09e_667f_3bcd

-- Subnormal arguments whose roots are rounded up, worked out apart from the definitions, in whole numbers.
pub record Subnormals : Type 0 where
  pub of_next_to_least : root_bits 2 ≡ 0x1e66_a09e_667f_3bcd
  pub of_greatest_subnormal : root_bits 0x000f_ffff_ffff_ffff ≡ 0x1fff_ffff_ffff_ffff

-- Our own, worked out apart from the definitions, in whole numbers: roots that are rounded up, and roots that are not, some of them just below the middle.
pub record Rounding : Type 0 where
  pub of_5 : root_bits 0x4014_0000_0000_0000 ≡ 0x4001_e377_9b97_f4a8
  pub of_3 : root_bits 0x4008_0000_0000_0000 ≡ 0x3ffb_b67a_e858_4caa
  pub of_next_to_greatest : root_bits 0x7fef_ffff_ffff_fffe ≡ 0x5fef_ffff_ffff_ffff
  -- the square of the root's digits leaves just those digits: half up would end in 1
  pub of_next_to_one : root_bits 0x3ff0_0000_0000_0001 ≡ 0x3ff0_0000_0000_0000
  -- likewise just below 4, where half up would carry into the exponent, to 2; the root of the f64 before it is rounded up as far as it goes without a carry
  pub of_just_below_4 : root_bits 0x400f_ffff_ffff_ffff ≡ 0x3fff_ffff_ffff_ffff
  pub of_second_below_4 : root_bits 0x400f_ffff_ffff_fffe ≡ 0x3fff_ffff_ffff_ffff
  -- of the relation: "a root cut down to cc is the slip"; nor is the f64 after 1 its own root
  pub cut_down : IsRoot (bits 0x4000_0000_0000_0000) (bits 0x3ff6_a09e_667f_3bcc) → ⊥
  pub half_up : IsRoot (bits 0x3ff0_0000_0000_0001) (bits 0x3ff0_0000_0000_0001) → ⊥
  -- and of `Neighbours`: 1 and the f64 after it
  pub one_and_next : Neighbours (bits 0x3ff0_0000_0000_0000) (bits 0x3ff0_0000_0000_0001)

-- Our own: the ends of the range, either zero, and what is refused. Worked out apart from the definitions, in whole numbers.
pub record RootEdges : Type 0 where
  pub of_144_bits : root_bits 0x4062_0000_0000_0000 ≡ 0x4028_0000_0000_0000
  pub of_least_bits : root_bits 1 ≡ 0x1e60_0000_0000_0000
  pub of_least_normal : root_bits 0x0010_0000_0000_0000 ≡ 0x2000_0000_0000_0000
  pub of_greatest : root_bits 0x7fef_ffff_ffff_ffff ≡ 0x5fef_ffff_ffff_ffff
  pub of_zero : root_answer (bits 0) ≡ value (bits 0)
  pub of_minus_zero : root_answer (bits 0x8000_0000_0000_0000) ≡ value (bits 0)
  pub below_zero : root_answer (bits 0x8000_0000_0000_0001) ≡ refused 23
  pub minus_one : root_answer (bits 0xbff0_0000_0000_0000) ≡ refused 23
  pub infinite : root_answer (bits 0x7ff0_0000_0000_0000) ≡ refused 23
  pub minus_infinite : root_answer (bits 0xfff0_0000_0000_0000) ≡ refused 23
  pub no_number : root_answer nan ≡ refused 23
  pub refused_value : root_of (bits 0xbff0_0000_0000_0000) ≡ nan
