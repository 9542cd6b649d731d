-- `chain_heads::judge` meets its contract: the head in hand is the one that the walk carries to the pipe at hand, and every section before it has been
-- asked.
use mathlib.Core.Path.{◌≡◌}
use Rattle.loops.specs.Loops.{all_below}
use Rattle.job.specs.Job.{floor_at}
use Rattle.job.specs.Format.{job_of}
use Rattle.pipe_layout.specs.EachPipe.{Along}
use Rattle.setting.specs.Setting.{head_at, head_fits}
use Rattle.chain_heads.proofs.HeadLaws.{Carried}
use Rattle.chain_heads.proofs.judge.Given as goal

abbrev pub invariant-loop-l : goal.invariant-loop-l
invariant-loop-l v =
    let at = v.l-iterator.at in
    Along v.job v.l-iterator.job.now v.l-iterator.count × Carried (job_of v.job) v.level v.q at.pipe at.section v.head
    × (v.fits ≡ all_below (λ s. head_fits (floor_at (job_of v.job) s) (head_at (job_of v.job) v.level v.q s)) at.section)
