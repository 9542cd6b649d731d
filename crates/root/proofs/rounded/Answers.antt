-- The root is q and the number q * q + rest: q + 1 is nearer where the number is above q * q + q, and that is where the rest is above q. Assumes nothing.
use mathlib.Core.Path.{◌≡◌, refl, ap}
use mathlib.Core.Bool.{Bool, true, false}
use Prim.Native.Nat.{ℕ, ◌+◌, ◌*◌, ◌^◌, ◌≤◌, ◌<◌}
use native.Mathlib.Omega.{arith}
use borrow.Author.Tests.{ltb-true, ltb-false, lt-ltb, le-ltb}
use lib.Dec.{ltb}
use mir.Val.{bool_byte}
use Rattle.root.specs.Nearest.{to_nearest}
use Rattle.root.proofs.rounded.Goals as goal

nearest : (q rest : ℕ) → q + bool_byte (ltb q rest) ≡ to_nearest (q * q + rest) q
unfolding to_nearest
nearest q rest = go (ltb q rest) (ltb-true q rest) (ltb-false q rest)
  where
    go : (b : Bool) → (b ≡ true → q < rest) → (b ≡ false → rest ≤ q) → q + bool_byte b ≡ to_nearest (q * q + rest) q
    go true above below = rw (lt-ltb (q * q + q) (q * q + rest) (omega (arith, above refl))) refl
    go false above below = rw (le-ltb (q * q + q) (q * q + rest) (omega (arith, below refl))) (omega arith)

pub returns : goal.returns
returns c = rw c.from.ensures (ap (λ (x : ℕ). c.args.field * 2 ^ 52 + x) (nearest c.args.root c.args.rest))
