-- A fact of every lent row: by the row's name, and from a tuple in the order in which they are lent. Assumes nothing.
use mathlib.Core.List.{List, foldr}
use Rattle.recurrence.specs.Calls.{Row, heads, flows, highest, lowest, speeds, inflows, spare, all_rows}

-- by the row's name, from one for each row
pub each : (P : Row → Type 0) → P heads → P flows → P highest → P lowest → P speeds → P inflows → P spare → (x : Row) → P x
each P h q u l v i e heads = h
each P h q u l v i e flows = q
each P h q u l v i e highest = u
each P h q u l v i e lowest = l
each P h q u l v i e speeds = v
each P h q u l v i e inflows = i
each P h q u l v i e spare = e

-- of each of some rows, and of every row, as a tuple, which `search` and `omega` look into
abbrev pub EachOf : (Row → Type 0) → List Row → Type 0
EachOf P xs = foldr (λ x (T : Type 0). P x × T) Unit xs

abbrev pub Each : (Row → Type 0) → Type 0
Each P = EachOf P all_rows

pub untupled : (P : Row → Type 0) → Each P → (x : Row) → P x
untupled P t = each P t.0 t.1.0 t.1.1.0 t.1.1.1.0 t.1.1.1.1.0 t.1.1.1.1.1.0 t.1.1.1.1.1.1.0
