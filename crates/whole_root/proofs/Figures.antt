-- The figures of the table, by computation on the definitions. Assumes nothing.
use mathlib.Core.Path.{refl}
use native.Mathlib.Nat.{le_refl}
use native.Mathlib.Omega.{arith}
use Rattle.whole_root.specs.WholeRoot.{whole_root}
use Rattle.whole_root.specs.Table.{are_entries}
use Rattle.whole_root.specs.Figures.{TableEnds, Entries}

pub table_ends : TableEnds
unfolding whole_root
table_ends = record { of_256 = refl; of_1023 = refl; is_256 = refl; is_1023 = refl; root_256 = record { low = le_refl 4194304; high = omega arith } }

pub entries : Entries
unfolding whole_root are_entries
entries = record { less = refl; more = refl; of_289 = refl; of_640 = refl; three = refl; last_wrong = refl; one_off = refl }
