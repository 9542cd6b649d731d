-- `listing_text::fill_digits` meets its contract: the digits of what is left, in front of those already there, always give the digits of n; a turn stores
-- the lowest of them and divides it off. Assumes nothing.
use Rattle.std.proofs.Common.{◌≡◌, ◌++◌, drop, length}
use Rattle.listing_text.specs.Text.{digits}
use Rattle.listing_text.proofs.fill_digits.Given as goal

abbrev pub invariant-loop-i : goal.invariant-loop-i
invariant-loop-i l = digits l.left l.base l.i ++ drop l.i l.field ≡ digits l.n l.base (length l.field)
