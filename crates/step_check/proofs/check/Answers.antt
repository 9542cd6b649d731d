-- `step_check::check` meets its contract: where the count is 0 every section is sound, so there is no first fault. Assumes nothing.
use Rattle.std.proofs.Common.{sym, ◌∙◌}
use borrow.Author.Tests.{eq-eqb}
use Rattle.section.specs.Faults.{first_fault, found_fault}
use Rattle.section.proofs.Soundness.{none_of_sound}
use Rattle.step_check.proofs.check.Goals as goal

pub returns-then-faults-eq0 : goal.returns-then-faults-eq0
unfolding found_fault first_fault
returns-then-faults-eq0 c = λ nodes e. sym (none_of_sound _ _ (sym (c.faults.ensures nodes e) ∙ eq-eqb c.faults.result 0 c.if-faults-eq0.true))
