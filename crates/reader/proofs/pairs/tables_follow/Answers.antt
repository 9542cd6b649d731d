-- `reader::pairs::tables_follow` meets its contract: a turn stops at a table that begins elsewhere, and past the last table the place is the file's end. Assumes
-- nothing.
use Rattle.std.proofs.Common.{◌≡◌, ◌<◌, arith}
use native.Mathlib.Numerals.{add-one}
use borrow.Author.Tests.{eq-eqb, ne_eqb}
use Rattle.loops.proofs.All.{all_none, all_more, all_stop}
use Rattle.job.specs.Format.{pair_count}
use Rattle.job.specs.Questions.{follows, tables_follow}
use Rattle.reader.proofs.pairs.tables_follow.Goals as goal

pub loop-k-init : goal.loop-k-init
loop-k-init c = (all_none _, rw (← c.pair_count-count.ensures.0) c.pairs_end-begin.ensures)

pub returns-then-offset-begin : goal.returns-then-offset-begin
unfolding tables_follow follows
returns-then-offset-begin c =
    let within : c.loop-k.k < pair_count c.args.job.now = rw c.pair_count-count.ensures.0 at c.loop-k-test.true in
    rw (all_stop (follows c.args.job.now) _ _ within (rw (← c.offset_of-offset.ensures.0, ← c.loop-k.invariant.1, ne_eqb _ _ c.if-offset-begin.true)))

pub loop-k-preserved : goal.loop-k-preserved
unfolding follows
loop-k-preserved c = (
  all_more _ c.loop-k.invariant.0 (rw (← c.offset_of-offset.ensures.0, ← c.loop-k.invariant.1, eq-eqb _ _ c.if-offset-begin.false)),
  rw (add-one, ← c.offset_of-offset.ensures.0, ← c.length_of.ensures.0),
)

pub returns : goal.returns
unfolding tables_follow
returns c =
    let last : pair_count c.args.job.now ≡ c.loop-k.k = omega (arith, c.pair_count-count.ensures.0) in
    rw (last, c.loop-k.invariant.0, c.loop-k.invariant.1)
