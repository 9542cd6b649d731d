-- `call_questions::within_limit` meets its contract: within the limit by both of its halves, beyond it by the first. Assumes nothing.
use borrow.Author.Tests.{le-leb, lt-leb}
use Rattle.recurrence.specs.Run.{within_limit}
use Rattle.call_questions.proofs.within_limit.Statement.{statement}
use Rattle.call_questions.proofs.within_limit.Tie as tie

returns : tie.Need-returns-then-done-le-LIMIT
unfolding within_limit
returns c = rw (le-leb _ _ c.if-done-le-LIMIT.true)

returns-2 : tie.Need-returns-else-done-le-LIMIT
unfolding within_limit
returns-2 c = rw (lt-leb _ _ c.if-done-le-LIMIT.false)

pub within_limit_spec : {M : Type 1} → statement M
within_limit_spec = tie.close (tie.spec returns returns-2)
