-- The branch taken is by the very test of `raised`. Assumes nothing.
use mathlib.Core.Path.{sym, ap}
use mathlib.Core.Bool.{Bool, cond}
use Rattle.recurrence.specs.Step.{raised}
use Rattle.section.proofs.envelopes.greater.Statement.{statement}
use Rattle.section.proofs.envelopes.greater.Tie as tie

returns : tie.Need-returns-then-highest-head
unfolding raised
returns c = let a = c.before.args in ap (λ (b : Bool). cond b a.head a.highest) (sym c.if-highest-head.true)

returns-2 : tie.Need-returns-else-highest-head
unfolding raised
returns-2 c = let a = c.before.args in ap (λ (b : Bool). cond b a.head a.highest) (sym c.if-highest-head.false)

pub greater_spec : {M : Type 1} → statement M
greater_spec = tie.close (tie.spec returns returns-2)
