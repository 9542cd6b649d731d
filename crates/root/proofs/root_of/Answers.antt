-- A NaN is its own answer, either zero has the root +0, what is below zero or infinite has none, and every other number's root is made from its pattern:
-- each return is that law of `AnswerLaws`, taken from the pattern to the number. Assumes nothing.
use mathlib.Core.Path.{◌≡◌, refl, sym, ap, ◌∙◌}
use Prim.Native.Nat.{ℕ, ◌<◌}
use native.Mathlib.Omega.{arith}
use lib.Dec.{T}
use lib.Ieee.{Float, binary64, fits, of_bits, to_bits}
use lib.Ieee.Bits.{of_bits-to_bits}
use Rattle.root.specs.Root.{root_of}
use Rattle.root.proofs.AnswerLaws.{nan_answer, no_nan, zero_answer, minus_zero_answer, high_answer, root_no_nan, value_answer}
use Rattle.root.proofs.root_of.Goals as goal
use Rattle.root.proofs.root_of.Goals.{then-b-eq0-via-then-b-eq0, then-b-eq0-via-else-b-eq0+then-b}

-- the answer at x, from the answer at x's pattern
at : (x : Float) → T (fits binary64 x) → (b : ℕ) → to_bits binary64 x ≡ b → root_of (of_bits binary64 b) ≡ root_of x
at x held b e = ap root_of (ap (of_bits binary64) (sym e) ∙ of_bits-to_bits binary64 x held)

positive : (b : ℕ) → (b ≡ 0 → ⊥) → 0 < b
positive b n = omega arith

pub returns-then-x : goal.returns-then-x
returns-then-x c = nan_answer c.args.x c.if-x.true

pub float_to_bits-b : goal.float_to_bits-b
float_to_bits-b c = no_nan c.args.x c.if-x.false

pub returns-then-b-eq0 : goal.returns-then-b-eq0
returns-then-b-eq0 c = elim c.then-b-eq0.branch [
  | then-b-eq0-via-then-b-eq0 w ↦ zero_answer ∙ at c.args.x (rw c.well_formed.0.1 tt) 0 w.if-b-eq0.true
  | then-b-eq0-via-else-b-eq0+then-b w ↦ minus_zero_answer ∙ at c.args.x (rw c.well_formed.0.1 tt) 0x8000_0000_0000_0000 w.if-b.true
]

pub returns-then-b-ge9218868437227405312 : goal.returns-then-b-ge9218868437227405312
unfolding of_bits
returns-then-b-ge9218868437227405312 c = high_answer c.args.x (rw c.well_formed.0.1 tt) c.if-b-ge9218868437227405312.true c.if-b.false

pub float_from_bits-result : goal.float_from_bits-result
float_from_bits-result c = rw c.root_bits.ensures (root_no_nan (to_bits binary64 c.args.x) (positive _ c.if-b-eq0.false) c.if-b-ge9218868437227405312.false)

pub returns : goal.returns
returns c =
    let b = to_bits binary64 c.args.x in
    rw c.root_bits.ensures (value_answer b (positive b c.if-b-eq0.false) c.if-b-ge9218868437227405312.false ∙ at c.args.x (rw c.well_formed.0.1 tt) b refl)
