-- The square of the root in its place and `unit` times what is kept of the rest make the number at every turn.
use Prim.Native.Nat.{◌+◌, ◌*◌, ◌^◌}
use Rattle.whole_root.proofs.LaterDigits.{Kept}
use Rattle.whole_root.proofs.later_digits.Given as goal

abbrev pub invariant-loop-unit : goal.invariant-loop-unit
invariant-loop-unit l = let first = l.fn.first in Kept (((first.root * first.root + first.rest) * 2 ^ 30 + l.fn.low) * 2 ^ 52) l.twice_rest l.twice_root l.unit

abbrev pub decreases-loop-unit : goal.decreases-loop-unit
decreases-loop-unit l = l.unit
