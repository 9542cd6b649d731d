-- `time_step::run`: before each turn as many steps are done as turns, and the three rows for the nodes have their 32 entries. Assumes nothing.
use Rattle.std.proofs.Common.{◌≡◌, ◌+◌, length, Ok}
use Rattle.recurrence.specs.Calls.{gathered}
use Rattle.time_step.specs.StepsInRows.{StepsInRows}
use Rattle.time_step.proofs.run.Given as goal

abbrev pub invariant-loop-i : goal.invariant-loop-i
invariant-loop-i l =
    (StepsInRows l.job l.done l.i (gathered l.fn.heads l.fn.flows l.fn.highest l.fn.lowest l.fn.speeds l.fn.inflows l.fn.spare) (gathered l.heads l.flows l.highest l.lowest l.speeds l.inflows l.spare) (Ok (l.done + l.i)))
    × (length l.values ≡ 32) × (length l.nodes ≡ 32) × (length l.entering ≡ 32)
