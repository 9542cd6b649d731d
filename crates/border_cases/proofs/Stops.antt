-- Stops at their border, from demand 3 alone: at step k - 1 the stop of one run, which is computed, is that of the other. At step k two runs stop
-- apart. Assumes nothing.
use mathlib.Core.Path.{refl}
use Prim.Native.Nat.{◌<◌}
use native.Mathlib.Omega.{arith}
use Rattle.recurrence.specs.Scan.{not_finite, parted}
use Rattle.recurrence.proofs.AllDefinitions.{opened}
use Rattle.border_cases.specs.Jobs.{opening, parting, parting_late, parting_low, failing, failing_late, drained, drained_then_high, in_three}
use Rattle.border_cases.specs.Cases.{Edited, Claim, StopsAt, StopCases}
use Rattle.border_cases.proofs.Edits.{rescheduled, edited}

-- ---- the jobs, alike but for the levels of the reservoir

pub late_edited : Edited parting parting_late 0 3
unfolding opened opening rescheduled
late_edited = edited parting parting_late 0 2 (refl, refl) (omega arith) refl ((tt, refl), refl)

failing_edited : Edited failing failing_late 0 3
unfolding opened opening rescheduled
failing_edited = edited failing failing_late 0 2 (refl, refl) (omega arith) refl ((tt, refl), refl)

drained_edited : Edited drained drained_then_high 0 2
unfolding opened opening rescheduled
drained_edited = edited drained drained_then_high 0 1 (refl, refl) (omega arith) refl (tt, refl)

pub low_edited : Edited parting parting_low 0 2
unfolding opened opening rescheduled
low_edited = edited parting parting_low 0 1 (refl, refl) (omega arith) refl (tt, refl)

-- ---- the runs that are computed

parting_stops : StopsAt parting in_three 2 parted 1 2
unfolding opened opening
parting_stops = refl

low_stops : StopsAt parting_low in_three 2 parted 1 0
unfolding opened opening
low_stops = refl

failing_stops : StopsAt failing in_three 2 not_finite 1 2
unfolding opened opening
failing_stops = refl

high_stops : StopsAt drained_then_high in_three 0 parted 0 0
unfolding opened opening
high_stops = refl

-- the step of the stop, against k: written out, so that an error shows both numbers
step_2_of_3 : 2 < 3
step_2_of_3 = omega arith

step_1_of_2 : 1 < 2
step_1_of_2 = omega arith

pub stop_cases : Claim → StopCases
stop_cases claim = record {
  parted_before_k = ((claim parting parting_late 0 3 late_edited in_three).stops 2 parted 1 2 step_2_of_3).0 parting_stops;
  not_finite_before_k = ((claim failing failing_late 0 3 failing_edited in_three).stops 2 not_finite 1 2 step_2_of_3).0 failing_stops;
  at_the_first_step = ((claim drained drained_then_high 0 2 drained_edited in_three).stops 0 parted 0 0 step_1_of_2).1 high_stops;
  edited_from_2 = low_edited;
  unlike_at_k = (parting_stops, low_stops);
}
