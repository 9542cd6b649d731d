-- The place carried is where table k must begin, and the tables before it have passed.
use Rattle.std.proofs.Common.{◌≡◌, true}
use Rattle.loops.specs.Loops.{all_below}
use Rattle.job.specs.Questions.{begin_of, follows}
use Rattle.reader.proofs.pairs.tables_follow.Given as goal

abbrev pub invariant-loop-k : goal.invariant-loop-k
invariant-loop-k l = (all_below (follows l.job) l.k ≡ true) × (l.begin ≡ begin_of l.job l.k)
