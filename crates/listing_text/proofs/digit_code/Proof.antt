-- `listing_text::digit_code` meets its contract: the code's table of 16 bytes is the definition's, byte for byte. Assumes nothing.
use mathlib.Core.Path.{refl}
use borrow.Author.Rules.{rules}
use Rattle.listing_text.proofs.digit_code.Statement.{statement}
use Rattle.listing_text.proofs.digit_code.Tie as tie

returns : tie.Need-returns
returns c = refl

pub digit_code_spec : {M : Type 1} → statement M
digit_code_spec = tie.close (tie.spec (λ c. search rules) returns)
