-- The new sections of one pipe, whose ends stand in the spare. Inner definitions: no public call cites them.
use Rattle.std.specs.Prelude.{List, ℕ, ◌+◌, Float}
use Rattle.wave.specs.declared.HeadFlow.{HeadFlow}
use Rattle.job.specs.Job.{Laid}
use Rattle.job.specs.Format.{initial_table}
use Rattle.recurrence.specs.Step.{between, end_to_end}
use Rattle.recurrence.specs.Scan.{Fault}
use Rattle.section.specs.Faults.{floor_in, fault_with}
use Rattle.node_sums.specs.FromRows.{along_rows}
use Rattle.spare_ends.specs.Spare.{end_in}

-- the new head and flow at offset i of a laid pipe, whose ends stand in the spare from `at` on
abbrev pub new_by_spare : List ℕ → Laid → List Float → ℕ → List Float → List Float → ℕ → HeadFlow
new_by_spare job l spare at heads flows =
    end_to_end l.pipe.reaches (end_in spare at) (end_in spare (at + 2)) (between (along_rows job heads flows) l)

-- what the section there shows
abbrev pub fault_by_spare : List ℕ → Laid → List Float → ℕ → List Float → List Float → ℕ → Fault
fault_by_spare job l spare at heads flows i =
    let s = l.first_section + i in
    fault_with (floor_in (initial_table job) s) s (new_by_spare job l spare at heads flows i)
