-- `step_check::faults` meets its contract: a turn adds the faults of one pipe, of its inner sections and of its ends.
use mathlib.Core.Path.{◌≡◌}
use Prim.Native.Nat.{ℕ, ◌*◌, ◌≤◌}
use lib.Dec.{eqb}
use Rattle.wave.specs.declared.Node.{Node}
use Rattle.loops.specs.Loops.{all_below}
use Rattle.job.specs.Format.{initial_table}
use Rattle.section.specs.Faults.{fault_at, is_sound}
use Rattle.pipe_layout.specs.EachPipe.{Along}
use Rattle.node_sums.specs.FromRows.{new_section}
use Rattle.spare_ends.specs.Spare.{EndsIn}
use Rattle.step_check.proofs.faults.Given as goal

abbrev pub invariant-loop-l : goal.invariant-loop-l
invariant-loop-l v =
    Along v.job v.l-iterator.job.now v.l-iterator.count × (v.bad ≤ v.l-iterator.at.section * 3)
    × ((nodes : ℕ → Node) → EndsIn v.job nodes v.heads v.flows v.spare
    → eqb v.bad 0 ≡ all_below (λ s. is_sound (fault_at (initial_table v.job) (new_section v.job nodes v.heads v.flows) s)) v.l-iterator.at.section)
