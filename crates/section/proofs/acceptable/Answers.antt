use native.Mathlib.Omega.{arith}
use Rattle.loops.proofs.Counting.{counting_none, counting_more}
use Rattle.section.proofs.Soundness.{floor_finite, acceptable_read}
use Rattle.section.proofs.acceptable.Goals as goal

pub loop-s-init : goal.loop-s-init
loop-s-init c = counting_none _

-- the floor of this section is finite, since question 14 has a yes
pub floor_at-requires : goal.floor_at-requires
floor_at-requires c = (omega arith, floor_finite c.args.initial.now _ (omega arith) c.requires.covered.table_fits)

-- what a turn adds is told by question 22 at this section
pub loop-s-preserved : goal.loop-s-preserved
loop-s-preserved c =
    let a = c.args in
    let one =
    acceptable_read a.initial.now a.heads.now a.flows.now a.highest.now a.lowest.now c.loop-s.s
    (omega arith) (omega arith) (omega arith) (omega arith) c.floor_at.ensures c.unacceptable-bad.ensures.1 in
    counting_more _ c.loop-s.invariant one
