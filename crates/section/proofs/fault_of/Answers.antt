-- A head or flow that is not finite is asked for first, then a head below its floor: the tests that lead to a return are those of the definition.
-- Assumes nothing.
use Rattle.std.proofs.Common.{sym, ap, ◌∙◌, not}
use borrow.Author.Tests.{not-true, not-false}
use lib.Ieee.{of_bits}
use Rattle.recurrence.specs.State.{no_drive}
use Rattle.recurrence.specs.Scan.{finite_point, finite_drive, fault_of}
use Rattle.section.specs.Faults.{found_fault}
use Rattle.section.proofs.fault_of.Goals as goal

pub returns-then-not-finite : goal.returns-then-not-finite
unfolding found_fault fault_of finite_point finite_drive no_drive of_bits
returns-then-not-finite c = rw (sym c.both_finite-finite.ensures ∙ not-true c.both_finite-finite.result (ap not c.if-not-finite.true))

pub returns-then-head-floor : goal.returns-then-head-floor
unfolding found_fault fault_of finite_point finite_drive no_drive of_bits
returns-then-head-floor c = rw (sym c.both_finite-finite.ensures ∙ not-false c.both_finite-finite.result (ap not c.if-not-finite.false), c.if-head-floor.true)

pub returns : goal.returns
unfolding found_fault fault_of finite_point finite_drive no_drive of_bits
returns c = rw (sym c.both_finite-finite.ensures ∙ not-false c.both_finite-finite.result (ap not c.if-not-finite.false), c.if-head-floor.false)
