-- Inner definitions: no public call cites them. What the program lends to the function that writes its listing, and the text of what it finds there.
-- Definitions only.
use Rattle.std.specs.Prelude.{List, ◌++◌, ℕ, ◌≤◌, length}
use Rattle.recurrence.specs.Calls.{heads, flows, highest, lowest, speeds, inflows, spare, Rows}
use Rattle.recurrence.specs.Run.{Answer}
use Rattle.listing_text.specs.Listing.{lines_text}
use Rattle.listing_text.specs.InnerContracts.{row_line}
use Rattle.surgelist.specs.ListingOf.{closing_line}

-- rows that hold every job: 512 sections, 32 nodes, and in the spare four values for each of 32 pipes
pub record Long (rows : Rows) : Type 0 where
  pub head : 512 ≤ length (rows heads)
  pub flow : 512 ≤ length (rows flows)
  pub high : 512 ≤ length (rows highest)
  pub low : 512 ≤ length (rows lowest)
  pub speed : 32 ≤ length (rows speeds)
  pub inflow : 32 ≤ length (rows inflows)
  pub free : 128 ≤ length (rows spare)

-- the line of each section by the rows, and the closing line of an answer
abbrev pub text_of : ℕ → Rows → Answer → List ℕ
text_of count rows answer = lines_text (row_line (rows heads) (rows flows) (rows highest) (rows lowest)) count ++ closing_line answer
