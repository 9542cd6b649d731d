-- The lent slices as a contract has them, gathered into rows before and after a call. Definitions only.
use Rattle.std.specs.Prelude.{List, Float}
use Rattle.std.specs.Borrow.{MutBor}
use denote.Triple.Both.{Both}
use Rattle.recurrence.specs.Calls.{Rows, gathered}

-- a lent slice at one time, as a `requires` has it; and at both, entry and exit, as an `ensures` has it
abbrev pub Slice : Type 0
Slice = MutBor (List Float)

abbrev pub LentSlice : Type 0
LentSlice = Both Slice Slice

-- the rows in a `requires`
abbrev pub lent : Slice → Slice → Slice → Slice → Slice → Slice → Slice → Rows
lent h q u l v i e = gathered h.now q.now u.now l.now v.now i.now e.now

-- the rows in an `ensures`, as they were lent and as they are left
abbrev pub before : LentSlice → LentSlice → LentSlice → LentSlice → LentSlice → LentSlice → LentSlice → Rows
before h q u l v i e = lent h.entry q.entry u.entry l.entry v.entry i.entry e.entry

abbrev pub after : LentSlice → LentSlice → LentSlice → LentSlice → LentSlice → LentSlice → LentSlice → Rows
after h q u l v i e = lent h.exit q.exit u.exit l.exit v.exit i.exit e.exit
