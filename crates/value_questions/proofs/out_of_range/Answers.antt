use Prim.Native.Nat.{◌+◌, ◌*◌}
use native.Mathlib.Omega.{arith}
use lib.Ieee.Scale.{finite}
use Rattle.fields.specs.Bytes.{f64_at}
use Rattle.fields.specs.Finite.{finite_at}
use Rattle.loops.proofs.All.{all_at}
use Rattle.loops.proofs.Counting.{counted_unless, counting_none, counting_more, counting_done}
use Rattle.value_questions.proofs.out_of_range.Goals as goal

pub loop-i-init : goal.loop-i-init
loop-i-init c = counting_none _

pub f64_at-v-requires : goal.f64_at-v-requires
unfolding finite_at
f64_at-v-requires c =
    (omega arith, all_at (λ i. finite (f64_at c.args.schedules.now ((c.args.place + i) * 8))) c.loop-i.i _ c.requires.1 (omega arith))

pub loop-i-preserved : goal.loop-i-preserved
loop-i-preserved c = counting_more _ c.loop-i.invariant (rw (← c.f64_at-v.ensures) (counted_unless _ c.from-out.ensures).1)

pub returns : goal.returns
returns c = counting_done _ c.loop-i.invariant c.loop-i.auto.i-end c.loop-i-test.false
