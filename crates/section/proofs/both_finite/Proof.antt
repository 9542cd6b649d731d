-- x - x is +0 where x is finite, else a NaN, and a NaN equals nothing. Assumes nothing.
use Rattle.section.proofs.Differences.{both_finite}
use Rattle.section.proofs.both_finite.Statement.{statement}
use Rattle.section.proofs.both_finite.Tie as tie

returns : tie.Need-returns
returns c = both_finite c.args.x c.args.y

pub both_finite_spec : {M : Type 1} → statement M
both_finite_spec = tie.close (tie.spec returns)
