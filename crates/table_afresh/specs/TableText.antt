-- What the program prints (document 02, 9/12). Definitions only.
use Rattle.std.specs.Prelude.{ℕ, ◌+◌, List, []}
use Rattle.whole_root.specs.Table.{entry_of}
use Rattle.listing_text.specs.Text.{decimal, printed}
use Rattle.listing_text.specs.Listing.{lines_text}

-- the line of the table's k-th entry, counted from 0: "one decimal number a line"
abbrev pub entry_line : ℕ → List ℕ
entry_line k = printed (decimal (entry_of (256 + k))) []

-- "prints it in order": entries 256 to 1,023
abbrev pub table_text : List ℕ
table_text = lines_text entry_line 768
