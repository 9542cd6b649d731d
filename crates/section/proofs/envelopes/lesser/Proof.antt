-- The branch taken is by the very test of `lowered`. Assumes nothing.
use mathlib.Core.Path.{sym, ap}
use mathlib.Core.Bool.{Bool, cond}
use Rattle.recurrence.specs.Step.{lowered}
use Rattle.section.proofs.envelopes.lesser.Statement.{statement}
use Rattle.section.proofs.envelopes.lesser.Tie as tie

returns : tie.Need-returns-then-head-lowest
unfolding lowered
returns c = let a = c.before.args in ap (λ (b : Bool). cond b a.head a.lowest) (sym c.if-head-lowest.true)

returns-2 : tie.Need-returns-else-head-lowest
unfolding lowered
returns-2 c = let a = c.before.args in ap (λ (b : Bool). cond b a.head a.lowest) (sym c.if-head-lowest.false)

pub lesser_spec : {M : Type 1} → statement M
lesser_spec = tie.close (tie.spec returns returns-2)
