-- `line_bytes::number` is safe: the patterns of the NaNs are those above the infinity's, the sign left out, and past the test none of them is left.
-- Assumes nothing.
use lib.Ieee.{binary64}
use lib.Ieee.Bits.{nan_bits_above}
use borrow.Author.Rules.{rules}
use borrow.Author.Tests.{le-ltb}
use Rattle.line_bytes.proofs.number.Statement.{statement}
use Rattle.line_bytes.proofs.number.Tie as tie

float-from-bits-result : tie.Need-float_from_bits-result
float-from-bits-result c = rw (nan_bits_above binary64 c.before.args.b, le-ltb _ _ c.if-b-gt9218868437227405312.false) tt

pub number_spec : {M : Type 1} → statement M
number_spec = tie.close (tie.spec (λ c. search rules) float-from-bits-result (λ c. search rules))
