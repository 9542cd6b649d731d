-- Figures of what the program prints, as statements about the definitions; they are proved in proofs/Figures.antt. Definitions only.
use Rattle.std.specs.Prelude.{◌≡◌, length}
use Rattle.listing_text.specs.Text.{ascii}
use Rattle.listing_text.specs.Listing.{lines_text}
use Rattle.table_afresh.specs.TableText.{entry_line, table_text}

-- "Entry 256 is 2,048 and entry 1,023 is 4,093"; our own, worked out apart from the definitions: the first three lines, and how many bytes all 768 take
pub record TableLines : Type 0 where
  pub first : entry_line 0 ≡ ascii "2048\n"
  pub last : entry_line 767 ≡ ascii "4093\n"
  pub bytes : length table_text ≡ 3840
  pub three : lines_text entry_line 3 ≡ ascii "2048\n2051\n2055\n"
