-- `listing::write_listing` meets its contract: a turn stores the line of one section behind the lines before it, at most 72 bytes each, and the
-- closing line goes behind the last; the whole text lies at the front, within the room of count + 1 lines. Assumes nothing.
use Rattle.std.proofs.Common.{◌≤◌, ◌*◌}
use Rattle.listing_text.specs.Listing.{lines_text}
use Rattle.listing_text.specs.InnerContracts.{row_line}
use Rattle.listing_text.specs.Stored.{Stored}
use Rattle.listing.proofs.write_listing.Given as goal

abbrev pub invariant-loop-section : goal.invariant-loop-section
invariant-loop-section l = record {
  short : l.text.at ≤ l.section * 72;
  lines : Stored l.initial.text (lines_text (row_line l.heads l.flows l.highest l.lowest) l.section) l.text;
}
