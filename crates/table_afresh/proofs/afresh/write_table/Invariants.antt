-- A turn works out one entry, counted up from the last, and stores its line behind the lines before it, at most five bytes each. Assumes nothing.
use Rattle.std.proofs.Common.{◌*◌, ◌+◌, ◌≤◌}
use Rattle.listing_text.specs.Listing.{lines_text}
use Rattle.listing_text.specs.Stored.{Stored}
use Rattle.table_afresh.specs.TableText.{entry_line}
use Rattle.table_afresh.proofs.afresh.write_table.Given as goal

abbrev pub invariant-loop-k : goal.invariant-loop-k
invariant-loop-k l = record {
  short : l.text.at ≤ l.k * 5;
  low : l.root * l.root ≤ 16384 * (256 + l.k);
  lines : Stored l.initial.text (lines_text entry_line l.k) l.text;
}
