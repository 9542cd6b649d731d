-- `pipe_ends::ends_from_k` meets its contract: the ends of the pipes passed are stored, and the spare is as it was from there on.
use mathlib.Core.Path.{◌≡◌}
use Prim.Native.Nat.{◌*◌}
use lib.ListN.{drop}
use Rattle.pipe_layout.specs.EachPipe.{Along}
use Rattle.spare_ends.specs.Spare.{EndsByKTo}
use Rattle.pipe_ends.proofs.ends_from_k.Given as goal

abbrev pub invariant-loop-l : goal.invariant-loop-l
invariant-loop-l v =
    let p = v.l-iterator.at.pipe in
    Along v.job v.l-iterator.job.now v.l-iterator.count × (EndsByKTo v.job v.nodes v.fn.spare v.spare p) × (drop (p * 4) v.spare ≡ drop (p * 4) v.fn.spare)
