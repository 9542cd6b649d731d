-- `chain_heads::write` meets its contract: the head in hand is the one that the walk carries to the pipe at hand, and both rows are filled up to its
-- first section.
use mathlib.Core.Path.{◌≡◌}
use Prim.Native.Nat.{ℕ}
use Rattle.loops.specs.Fill.{fill}
use Rattle.job.specs.Format.{job_of}
use Rattle.pipe_layout.specs.EachPipe.{Along}
use Rattle.setting.specs.Setting.{head_at}
use Rattle.chain_heads.proofs.HeadLaws.{Carried}
use Rattle.chain_heads.proofs.write.Given as goal

abbrev pub invariant-loop-l : goal.invariant-loop-l
invariant-loop-l v =
    let at = v.l-iterator.at in
    Along v.job v.l-iterator.job.now v.l-iterator.count × Carried (job_of v.job) v.level v.q at.pipe at.section v.head
    × (v.heads ≡ fill (head_at (job_of v.job) v.level v.q) v.fn.heads 0 at.section) × (v.flows ≡ fill (λ (s : ℕ). v.q) v.fn.flows 0 at.section)
