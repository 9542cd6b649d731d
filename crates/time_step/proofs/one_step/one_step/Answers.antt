-- `time_step::one_step::one_step` meets its contract: the ends are worked out in the spare by the nodes' values at the step, the check scans the step, and
-- it is committed, and the pairs are written, where no fault is found. Assumes nothing.
use Rattle.std.proofs.Common.{◌≡◌, rules, arith, ◌+◌, Err}
use Rattle.std.specs.Prelude.{is_ok}
use Rattle.recurrence.specs.Calls.{highest, lowest}
use Rattle.pipe_layout.proofs.Acceptance.{few_nodes}
use Rattle.node_sums.specs.FromRows.{OverNodes}
use Rattle.node_values.specs.Pairs.{value_from, PairsLeft}
use Rattle.time_step.proofs.RunLaws.{ready_enough, HandedOn, fault_told, none_told}
use Rattle.time_step.proofs.StepInRows.{spare_long, pairs_long, rows_lent, one_stops, one_done}
use Rattle.time_step.proofs.one_step.one_step.Goals as goal

pub values_at-requires-clause-accepted : goal.values_at-requires-clause-accepted
values_at-requires-clause-accepted c =
    let ready = c.requires.ready.0 in
    (ready.accepted, search rules, omega (arith, few_nodes _ ready.accepted, c.requires.in_bounds.0))

pub values_at-requires-clause-job_in_bounds : goal.values_at-requires-clause-job_in_bounds
values_at-requires-clause-job_in_bounds c = pairs_long c.requires.ready.0

pub write_ends-requires-clause-lent : goal.write_ends-requires-clause-lent
write_ends-requires-clause-lent c = let pre = c.requires.ready in (rows_lent pre.0, pre.2, spare_long pre.0)

pub check-found-requires : goal.check-found-requires
check-found-requires c = let ready = c.requires.ready.0 in (rows_lent ready, omega (arith, spare_long ready, c.write_ends.auto.spare))

pub commit-requires-clause-lent : goal.commit-requires-clause-lent
commit-requires-clause-lent c = let ready = c.requires.ready.0 in (rows_lent ready, omega (arith, spare_long ready, c.write_ends.auto.spare))

pub commit-requires-clause-job_in_bounds : goal.commit-requires-clause-job_in_bounds
commit-requires-clause-job_in_bounds c = let ready = c.requires.ready.0 in (ready_enough ready highest, ready_enough ready lowest)

pub write_pairs-requires-clause-job_in_bounds : goal.write_pairs-requires-clause-job_in_bounds
write_pairs-requires-clause-job_in_bounds c = pairs_long c.requires.ready.0

pub returns-in_err-map_err : goal.returns-in_err-map_err
returns-in_err-map_err c =
    let a = c.args in
    let back : c.from_residual.result ≡ Err c.in_err-map_err.field-0.0 = search rules in
    let same : is_ok c.map_err.result ≡ is_ok c.check-found.result = c.map_err.ensures.variant in
    let handed : HandedOn a.done c.check-found.result c.map_err.result = search rules in
    let told = fault_told _ c.check-found.result same handed c.in_err-map_err.was in
    let valued : OverNodes a.job.now (value_from a.job.now (a.done + 1) a.speeds.now a.inflows.now) c.values_at.new.values = c.values_at.ensures in
    rw (back, told.1) (one_stops _ _ _ c.requires.ready.0 _ valued _ c.write_ends.ensures.2 _ (rw told.0 at (c.check-found.ensures _ c.write_ends.ensures.1)))

pub returns : goal.returns
returns c =
    let a = c.args in
    let same : is_ok c.map_err.result ≡ is_ok c.check-found.result = c.map_err.ensures.variant in
    let valued : OverNodes a.job.now (value_from a.job.now (a.done + 1) a.speeds.now a.inflows.now) c.values_at.new.values = c.values_at.ensures in
    let left = c.write_pairs.new in
    let pairs : PairsLeft a.job.now c.values_at.new.values c.write_ends.new.entering a.speeds.now a.inflows.now left.speeds left.inflows = c.write_pairs.ensures in
    one_done _ _ _ c.requires.ready.0 _ valued _ c.write_ends.ensures.2
    (rw (none_told c.check-found.result same c.in_ok-map_err.was) at (c.check-found.ensures _ c.write_ends.ensures.1))
    (c.commit.ensures _ c.write_ends.ensures.1) c.write_ends.ensures.0 pairs
