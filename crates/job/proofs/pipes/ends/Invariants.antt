-- `job::pipes::ends` meets its contract: past the last pipe the walk has come to the counts of all. No count wraps: so many pipes have at most 65,536
-- sections each, whatever their bytes, and no more reaches.
use mathlib.Core.Path.{◌≡◌}
use Prim.Native.Nat.{◌≤◌, ◌*◌}
use Rattle.job.specs.Format.{pipes_in}
use Rattle.job.specs.Walk.{WalkedTo}
use Rattle.job.proofs.pipes.ends.Given as goal

abbrev pub invariant-loop-p : goal.invariant-loop-p
invariant-loop-p l = (l.at.pipe ≡ l.p) × WalkedTo (pipes_in l.pipes) l.p l.at.section l.at.reach × (l.at.section ≤ l.p * 65536)
