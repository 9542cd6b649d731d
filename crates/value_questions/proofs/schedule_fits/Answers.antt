-- `value_questions::schedule_fits` meets its contract: question 15 is two halves, and a half has a yes exactly where nothing is counted; a junction's and a
-- reservoir's entries are asked for the first half only. Assumes nothing.
use Rattle.std.proofs.Common.{rules}
use Rattle.loops.proofs.Counting.{none_counted, some_counted}
use Rattle.job.proofs.NodeLaws.{not_all_finite, any_finite, as_ranged}
use Rattle.value_questions.proofs.schedule_fits.Goals as goal

pub returns-then-not_finite-ne0 : goal.returns-then-not_finite-ne0
returns-then-not_finite-ne0 c = not_all_finite _ _ _ _ (some_counted c.not_finite.ensures c.if-not_finite-ne0.true)

pub returns-in-Ok-Junction : goal.returns-in-Ok-Junction
returns-in-Ok-Junction c = any_finite _ _ _ _ (none_counted c.not_finite.ensures c.if-not_finite-ne0.false) (search rules)

pub out_of_range-requires : goal.out_of_range-requires
out_of_range-requires c = (search rules, none_counted c.not_finite.ensures c.if-not_finite-ne0.false)

pub returns-in-Ok-Valve : goal.returns-in-Ok-Valve
returns-in-Ok-Valve c = as_ranged _ _ _ _ (none_counted c.not_finite.ensures c.if-not_finite-ne0.false) (search rules) c.out_of_range.ensures
