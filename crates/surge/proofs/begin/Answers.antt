-- `surge::begin` meets its contract: each row is filled with what the initial state has of it, and the spare with +0. Assumes nothing.
use Rattle.std.proofs.Common.{◌≡◌}
use Rattle.loops.specs.Fill.{fill}
use Rattle.job.specs.Format.{job_of, node_table, node_count}
use Rattle.recurrence.specs.State.{start_drive}
use Rattle.recurrence.specs.Calls.{heads, flows, highest, lowest}
use Rattle.time_step.proofs.RunLaws.{ready_enough}
use Rattle.time_step.proofs.StepInRows.{spare_long, pairs_long}
use Rattle.surge.proofs.CallLaws.{begun}
use Rattle.surge.proofs.begin.Goals as goal

-- It stands before what the calls ask, so that of exchanged rows the prover tells this first.
pub returns : goal.returns
returns c =
    let a = c.args in
    let pair = start_drive (job_of a.job.now) in
    let n = node_count (node_table a.job.now) in
    let e = c.write_start.ensures in
    let left = c.start_pairs.new in
    let speeds : left.speeds ≡ fill (λ y. (pair y).speed) a.speeds.now 0 n = c.start_pairs.ensures.0 in
    let inflows : left.inflows ≡ fill (λ y. (pair y).inflow) a.inflows.now 0 n = c.start_pairs.ensures.1 in
    begun _ _ c.requires.0.accepted c.requires.1 (ready_enough c.requires.0) e.0 e.1 e.2 e.3 speeds inflows c.clear_spare.ensures

pub write_start-requires-clause-n_in_bounds : goal.write_start-requires-clause-n_in_bounds
write_start-requires-clause-n_in_bounds c = let l = ready_enough c.requires.0 in rw c.requires.1 (l heads, l flows, l highest, l lowest)

pub start_pairs-requires-clause-job_in_bounds : goal.start_pairs-requires-clause-job_in_bounds
start_pairs-requires-clause-job_in_bounds c = pairs_long c.requires.0

pub clear_spare-requires : goal.clear_spare-requires
clear_spare-requires c = (c.requires.0.accepted, spare_long c.requires.0)
