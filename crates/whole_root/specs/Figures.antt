-- Figures of the table, as statements about the definitions; they are proved in proofs/Figures.antt. Definitions only.
use Rattle.std.specs.Prelude.{◌≡◌, true, false, [], ◌∷◌}
use Rattle.whole_root.specs.WholeRoot.{IsWholeRoot}
use Rattle.whole_root.specs.Table.{is_entry, are_entries, entry_of}

-- "Entry 256 is 2,048 and entry 1,023 is 4,093" (document 02, 9/12). The square of 2,048 is 16,384·256, so that entry 256 tells 'at most' from 'below'.
pub record TableEnds : Type 0 where
  pub of_256 : entry_of 256 ≡ 2048
  pub of_1023 : entry_of 1023 ≡ 4093
  pub is_256 : is_entry 256 2048 ≡ true
  pub is_1023 : is_entry 1023 4093 ≡ true
  pub root_256 : IsWholeRoot 4194304 2048

-- Our own, worked out apart from the definitions: one less and one more than an entry, a square among the entries, and three that follow each other.
pub record Entries : Type 0 where
  pub less : is_entry 256 2047 ≡ false
  pub more : is_entry 1023 4094 ≡ false
  pub of_289 : entry_of 289 ≡ 2176
  pub of_640 : entry_of 640 ≡ 3238
  pub three : are_entries 256 (2048 ∷ 2051 ∷ 2055 ∷ []) ≡ true
  pub last_wrong : are_entries 256 (2048 ∷ 2051 ∷ 2056 ∷ []) ≡ false
  pub one_off : are_entries 257 (2048 ∷ 2051 ∷ []) ≡ false
