-- A pipe of two sections has none to look at; the quick look and the exact count say the rest. Assumes nothing.
use native.Mathlib.Omega.{arith}
use Rattle.loops.proofs.Counting.{counting_none, counting_done}
use Rattle.inner_check.proofs.FlooredPipe.faults.Goals as goal

pub returns-then-section_count-lt3 : goal.returns-then-section_count-lt3
returns-then-section_count-lt3 c = (omega arith, counting_done _ (counting_none _) (omega (arith, c.section_count.ensures, c.if-section_count-lt3.true)) (omega (arith, c.section_count.ensures, c.if-section_count-lt3.true)))
