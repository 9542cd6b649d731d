-- What subnormal arguments are answered, by computation on the definitions, before the laws of the root's digits: so that a slip in the definition is shown
-- by the two numbers. Assumes nothing.
use mathlib.Core.Path.{refl}
use lib.Ieee.{lt, of_bits, to_bits}
use Rattle.root.specs.Root.{root_of}
use Rattle.root.specs.Figures.{Subnormals}

pub subnormals : Subnormals
unfolding root_of lt of_bits to_bits
subnormals = record { of_next_to_least = refl; of_greatest_subnormal = refl }
