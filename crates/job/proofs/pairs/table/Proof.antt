-- `job::pairs::table` meets its contract: question 2's yes says that every job has so many pairs. Assumes nothing.
use native.Mathlib.Omega.{arith}
use Rattle.job.proofs.TableBounds.{pairs_right, pairs_least}
use Rattle.job.proofs.pairs.table.Statement.{statement}
use Rattle.job.proofs.pairs.table.Tie as tie

part-requires : tie.Need-part-requires
part-requires c κs = let pre = c.before.requires in (pre.0, omega (arith, pre.1, pairs_least _ (pairs_right _ pre.0).pairs))

pub table_spec : {M : Type 1} → statement M
table_spec = tie.close (tie.spec part-requires (λ c. c.part.ensures))
