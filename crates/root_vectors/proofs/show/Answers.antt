-- A pattern that is shown is no NaN's, since a NaN's is above that of infinity, and no root is a NaN. Assumes nothing.
use mathlib.Core.Path.{sym, ap, ◌∙◌, subst}
use mathlib.Core.Bool.{Bool, not}
use lib.Dec.{T}
use lib.Ieee.{binary64}
use lib.Ieee.Bits.{nan_bits_above}
use borrow.Author.Tests.{le-ltb}
use Rattle.root.specs.Answer.{paper_root}
use Rattle.root.proofs.AnswerLaws.{root_number}
use Rattle.root_vectors.proofs.show.Goals as goal

pub float_from_bits-b : goal.float_from_bits-b
float_from_bits-b g c =
    subst (λ (t : Bool). T (not t)) (sym (nan_bits_above binary64 c.args.b ∙ le-ltb _ _ c.if-b-gt9218868437227405312.false)) tt

pub float_to_bits-r : goal.float_to_bits-r
float_to_bits-r g c = root_number _ _ (c.root.ensures.root _ (ap paper_root c.in-Some.is))
