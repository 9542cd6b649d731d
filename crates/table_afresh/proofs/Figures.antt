-- The figures of what the program prints, by computation on the definitions. Assumes nothing.
use mathlib.Core.Path.{refl}
use Rattle.whole_root.specs.WholeRoot.{whole_root}
use Rattle.listing_text.specs.Text.{digits, places_within}
use Rattle.listing_text.specs.Listing.{lines_text}
use Rattle.table_afresh.specs.Figures.{TableLines}

pub table_lines : TableLines
unfolding whole_root digits places_within lines_text
table_lines = record { first = refl; last = refl; bytes = refl; three = refl }
