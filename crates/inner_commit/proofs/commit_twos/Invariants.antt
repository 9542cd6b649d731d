-- After i sections the rows hold those of the step, and the CP carried are those of the next two by the rows as they were lent. Assumes nothing.
use Rattle.std.proofs.Common.{◌≡◌, ◌+◌, ◌-◌, ◌≤◌, length}
use Rattle.section.proofs.RowLaws.{SteppedTo}
use Rattle.inner_sections.specs.InnerSections.{one_pipe, two_cp_at, inner_at}
use Rattle.inner_commit.proofs.commit_twos.Given as goal

abbrev pub invariant-loop-i : goal.invariant-loop-i
invariant-loop-i l =
    let was = l.initial in
    let w = one_pipe l.friction was.heads was.flows in
    SteppedTo (inner_at w l.s) 1 l.i was.heads was.flows was.highest was.lowest l.heads l.flows l.highest l.lowest
    × (l.cp ≡ two_cp_at w l.s l.i)
    × (l.i + 3 ≤ length was.heads)

abbrev pub decreases-loop-i : goal.decreases-loop-i
decreases-loop-i l = length l.initial.heads - l.i
