use Rattle.std.proofs.Common.{◌≡◌, arith, rules}
use Rattle.whole_root.proofs.TableRule.{the_entry}
use Rattle.listing_text.proofs.StoredTexts.{no_lines, next_line, at_front}
use Rattle.table_afresh.specs.TableText.{entry_line}
use Rattle.table_afresh.proofs.afresh.write_table.Goals as goal

pub loop-k-init : goal.loop-k-init
loop-k-init c = record { short = omega (arith, c.new-text.ensures.front); low = omega arith; lines = no_lines entry_line }

pub loop-k-preserved : goal.loop-k-preserved
loop-k-preserved c =
    let l = c.loop-k in
    let root = c.root_from-root in
    let right = the_entry l.k root.result c.loop-k-test.true root.ensures in
    record {
      short = omega (arith, l.invariant.short, c.put_alone.ensures.upper_bound);
      low = omega (arith, root.ensures.low);
      lines = next_line entry_line l.k l.invariant.lines (rw right at c.put_alone.ensures.stored);
    }

pub returns : goal.returns
returns c =
    let l = c.loop-k in
    let held = c.new-text.ensures in
    let all : l.k ≡ 768 = omega (arith, l.auto.k-end) in
    let kept = rw all at l.invariant.lines in
    at_front kept held.front held.held c.count.ensures (search (rules, kept.same_slice, held.same_slice))
