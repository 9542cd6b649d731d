-- The floor that the code reads is the section's own, and the test says what is counted. Assumes nothing.
use Rattle.loops.proofs.Counting.{counted_where}
use Rattle.inner_check.proofs.clear_one.Goals as goal

pub returns : goal.returns
returns c = rw (← c.floor_at.ensures) (counted_where _ c.from.ensures)
