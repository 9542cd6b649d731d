-- `job::schedules::schedule_count` meets its contract: an empty table 6 leaves it to the byte; where it is not empty, question 50's yes says that it has two bytes
-- for the node. Assumes nothing.
use native.Mathlib.Omega.{arith}
use borrow.Author.Tests.{ne_eqb}
use Rattle.job.proofs.NodeLaws.{by_byte, by_table_6, counts_whole}
use borrow.Author.Rules.{rules}
use Rattle.job.proofs.schedules.schedule_count.Statement.{statement}
use Rattle.job.proofs.schedules.schedule_count.Tie as tie

returns : tie.Need-returns-then-counts-eq0
returns c =
    let args = c.before.before.before.before.args in
    (by_byte args.nodes.now args.counts.now args.node c.before.if-counts-eq0.true c.count_byte.ensures.0, omega (arith, c.count_byte.ensures.1))

returns-2 : tie.Need-returns-else-counts-eq0
returns-2 c =
    let args = c.before.before.before.before.args in
    (by_table_6 args.nodes.now args.counts.now args.node c.before.if-counts-eq0.false c.long_count.ensures.0, c.long_count.ensures.1)

long-count-requires : tie.Need-long_count-requires
long-count-requires c κs =
    let start : tie.Start = c.before.before.before in
    omega (arith, start.requires.0, (counts_whole _ _ start.requires.1 (ne_eqb _ _ c.if-counts-eq0.false)).size)

pub schedule_count_spec : {M : Type 1} → statement M
schedule_count_spec = tie.close (tie.spec (λ c κs. search rules) long-count-requires returns returns-2)
