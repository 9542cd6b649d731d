-- `listing_text::bits_of` meets its contract: `to_bits` gives every NaN one pattern. Assumes nothing.
use Rattle.std.proofs.Common.{◌≡◌, true, refl, sym}
use Rattle.std.specs.Float.{Float, nan, inf, fin, binary64}
use Rattle.std.specs.Float.Ieee.{is_nan, to_bits}
use Rattle.listing_text.proofs.bits_of.Goals as goal

nan_pattern : (x : Float) → is_nan x ≡ true → 9221120237041090560 ≡ to_bits binary64 x
unfolding is_nan to_bits
nan_pattern nan e = refl
nan_pattern (inf s) e = cc
nan_pattern (fin s m d) e = cc

pub returns-then-is_nan : goal.returns-then-is_nan
returns-then-is_nan c = nan_pattern c.args.x (sym c.if-is_nan.ensures.value)
