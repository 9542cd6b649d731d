-- Each turn adds two sections, worked out from the CP carried to them, and the one or two that are left are added after the turns. Assumes nothing.
use Rattle.std.proofs.Common.{◌+◌, ◌-◌}
use native.Mathlib.Omega.{arith}
use Rattle.loops.proofs.Counting.{counting_none, counting_more, counting_done, two_counted}
use Rattle.inner_sections.specs.InnerSections.{sound_inner}
use Rattle.inner_sections.specs.CutPipes.{along, section_count}
use Rattle.inner_sections.proofs.CutRows.{first_cp, second_cp, adds}
use Rattle.inner_check.proofs.FlooredPipe.exact_faults.Goals as goal

pub loop-i-init : goal.loop-i-init
loop-i-init c = (counting_none _, c.two_cp-cp.ensures, omega (arith, c.requires))

pub loop-i-preserved : goal.loop-i-preserved
loop-i-preserved c =
    let pipe = c.args.self.now.cut in
    let floors = c.args.self.now.floors.now in
    let w = along pipe in
    let i = c.loop-i.i in
    let inv = c.loop-i.invariant in (
      two_counted (sound_inner floors w pipe.s) c.loop-i.odd c.loop-i.even inv.0
          (adds floors w pipe.s i (first_cp w pipe.s i inv.1) c.fault_one-odd.ensures.1)
          (adds floors w pipe.s (i + 1) (second_cp w pipe.s i inv.1) c.fault_one-even.ensures.1),
      c.two_cp-cp-in-loop-i.ensures,
      omega (arith, c.section_count.ensures, c.loop-i-test.true),
    )

-- the section after the turns, and where another is left that one too
pub returns-then-i-section_count : goal.returns-then-i-section_count
returns-then-i-section_count c =
    let pipe = c.args.self.now.cut in
    let w = along pipe in
    let inv = c.loop-i.invariant in
    let one = counting_more _ inv.0 (adds c.args.self.now.floors.now w pipe.s c.loop-i.i (first_cp w pipe.s c.loop-i.i inv.1) c.fault_one.ensures.1) in
    (omega (arith, one.few), counting_done _ one (omega (arith, c.section_count-2.ensures, c.if-i-section_count.true)) (omega (arith, c.section_count-2.ensures, c.if-i-section_count.true)))

pub returns : goal.returns
returns c =
    let pipe = c.args.self.now.cut in
    let floors = c.args.self.now.floors.now in
    let w = along pipe in
    let i = c.loop-i.i in
    let inv = c.loop-i.invariant in
    let one = counting_more _ inv.0 (adds floors w pipe.s i (first_cp w pipe.s i inv.1) c.fault_one.ensures.1) in
    let two = counting_more _ one (adds floors w pipe.s (i + 1) (second_cp w pipe.s i inv.1) c.fault_one-2.ensures.1) in
    (omega (arith, two.few), counting_done _ two (omega (arith, inv.2, c.section_count.ensures, c.loop-i-test.false, c.section_count-2.ensures, c.if-i-section_count.false)) (omega (arith, inv.2, c.section_count.ensures, c.loop-i-test.false, c.section_count-2.ensures, c.if-i-section_count.false)))
