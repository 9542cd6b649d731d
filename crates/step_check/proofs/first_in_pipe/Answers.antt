-- `step_check::first_in_pipe` meets its contract: the sections before this one have shown no fault, so that what this one shows is the first. Assumes nothing.
use Rattle.std.proofs.Common.{◌≡◌, ◌*◌, arith, rules, sym, Err}
use Rattle.loops.proofs.First.{first_none}
use Rattle.recurrence.specs.Scan.{none, earlier}
use Rattle.section.specs.Faults.{found_fault}
use Rattle.section.proofs.Soundness.{none_more, none_stop}
use Rattle.pipe_layout.specs.Layout.{laid_of}
use Rattle.pipe_layout.proofs.Acceptance.{within}
use Rattle.step_check.proofs.FirstFault.{fault_by_spare_lem}
use Rattle.step_check.proofs.first_in_pipe.Goals as goal

pub loop-i-init : goal.loop-i-init
loop-i-init c = first_none earlier none _

pub overflow_add-s : goal.overflow_add-s
overflow_add-s c = let here = within _ c.requires.0.accepted _ _ c.requires.1.is in omega (arith, here)

pub floor_of-requires : goal.floor_of-requires
floor_of-requires c = let here = within _ c.requires.0.accepted _ _ c.requires.1.is in (c.requires.0.accepted, omega (arith, here))

pub returns-in_err-fault_of : goal.returns-in_err-fault_of
returns-in_err-fault_of c =
    let back : c.from_residual.result ≡ Err c.in_err-fault_of.field-0.0 = search rules in
    rw back (none_stop _ c.loop-i.invariant _
    (fault_by_spare_lem c.args.job.now (laid_of c.args.l) c.args.spare.now (c.args.p * 4) c.args.heads.now c.args.flows.now c.loop-i.i c.in_err-fault_of.ensures c.floor_of.ensures c.new_at-x.ensures) (omega arith))

pub loop-i-preserved : goal.loop-i-preserved
loop-i-preserved c =
    none_more _ c.loop-i.invariant
    (fault_by_spare_lem c.args.job.now (laid_of c.args.l) c.args.spare.now (c.args.p * 4) c.args.heads.now c.args.flows.now c.loop-i.i c.in_ok-fault_of.ensures c.floor_of.ensures c.new_at-x.ensures)

pub returns-in_ok-fault_of : goal.returns-in_ok-fault_of
unfolding found_fault
returns-in_ok-fault_of c =
    let last : c.loop-i.i ≡ c.args.l.reaches = omega arith in
    sym (rw last at (none_more _ c.loop-i.invariant
    (fault_by_spare_lem c.args.job.now (laid_of c.args.l) c.args.spare.now (c.args.p * 4) c.args.heads.now c.args.flows.now c.loop-i.i c.in_ok-fault_of.ensures c.floor_of.ensures c.new_at-x.ensures)))
