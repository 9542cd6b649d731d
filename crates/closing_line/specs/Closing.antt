-- The text of each closing line (document 01, 'Listing'). Definitions only.
use Rattle.std.specs.Prelude.{ℕ, List, [], ◌∷◌}
use Rattle.listing_text.specs.Text.{ascii, decimal, printed}
use Rattle.listing_text.specs.Listing.{closing_text}
use Rattle.closing_line.specs.declared.Closing.{Closing}
use Rattle.closing_line.specs.declared.Closing.TheVariants.{Done, NotFinite, Parted, Refused}

-- "`done m`, `notfinite m s` or `parted m s` (steps done, section)": by the paper's numbers 0, 40 and 41; "a refused job prints only `refused n`".
abbrev pub closing_of : Closing → List ℕ
closing_of (Done m) = closing_text 0 m 0
closing_of (NotFinite m s) = closing_text 40 m s
closing_of (Parted m s) = closing_text 41 m s
closing_of (Refused n) = printed (ascii "refused") (decimal n ∷ [])
