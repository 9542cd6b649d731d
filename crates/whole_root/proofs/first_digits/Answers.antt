-- The entry's square is at most the number, and the root is at most four above the entry: how far above is counted. Assumes nothing.
use mathlib.Core.Path.{◌≡◌, subst}
use mathlib.Core.Bool.{cond}
use Prim.Native.Nat.{ℕ, ◌+◌, ◌*◌}
use native.Mathlib.Omega.{arith}
use lib.Dec.{leb}
use Rattle.whole_root.specs.WholeRoot.{IsWholeRoot}
use Rattle.whole_root.proofs.Corrected.{reached, corrected}
use Rattle.whole_root.proofs.first_digits.Goals as goal

-- what the calls of `reaches` answer, together
counted : (top t a b c d : ℕ) → a ≡ cond (leb ((t + 1) * (t + 1)) top) 1 0 → b ≡ cond (leb ((t + 2) * (t + 2)) top) 1 0
    → c ≡ cond (leb ((t + 3) * (t + 3)) top) 1 0 → d ≡ cond (leb ((t + 4) * (t + 4)) top) 1 0 → reached top t 4 ≡ a + (b + (c + d))
unfolding reached
counted top t a b c d h i j k = omega (arith, h, i, j, k)

pub returns : goal.returns
returns c =
    let top = c.args.top in
    let t = c.entry-t.result in
    subst (λ (x : ℕ). IsWholeRoot top (t + x)) (counted top t _ _ _ _ c.reaches-one.ensures.1 c.reaches-two.ensures.1 c.reaches-three.ensures.1 c.reaches-four.ensures.1) (corrected top t c.entry-t.ensures c.requires.0)
