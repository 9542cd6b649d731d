-- `step_check::first_in_pipe`: the sections of the pipe before this one have shown no fault. Assumes nothing.
use Rattle.std.proofs.Common.{◌≡◌, ◌*◌}
use Rattle.loops.specs.Loops.{first_below}
use Rattle.recurrence.specs.Scan.{none, earlier}
use Rattle.pipe_layout.specs.Layout.{laid_of}
use Rattle.step_check.specs.BySpare.{fault_by_spare}
use Rattle.step_check.proofs.first_in_pipe.Given as goal

abbrev pub invariant-loop-i : goal.invariant-loop-i
invariant-loop-i l = first_below earlier none (fault_by_spare l.job (laid_of l.l) l.spare (l.p * 4) l.heads l.flows) l.i ≡ none
