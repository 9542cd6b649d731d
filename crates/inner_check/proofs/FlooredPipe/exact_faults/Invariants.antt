-- After i sections the count is 0 exactly where none of them has a fault: each turn adds two more, worked out from the CP carried to them. Assumes nothing.
use Rattle.std.proofs.Common.{◌≡◌, ◌+◌, ◌-◌, ◌≤◌}
use Rattle.loops.proofs.Counting.{Counting}
use Rattle.inner_sections.specs.InnerSections.{two_cp_at, sound_inner}
use Rattle.inner_sections.specs.CutPipes.{along, section_count}
use Rattle.inner_check.proofs.FlooredPipe.exact_faults.Given as goal

abbrev pub invariant-loop-i : goal.invariant-loop-i
invariant-loop-i l =
    let pipe = l.self.cut in
    Counting (sound_inner l.self.floors.now (along pipe) pipe.s) l.i (l.odd + l.even)
    × (l.cp ≡ two_cp_at (along pipe) pipe.s l.i)
    × (l.i + 3 ≤ section_count pipe)

abbrev pub decreases-loop-i : goal.decreases-loop-i
decreases-loop-i l = section_count l.self.cut - l.i
