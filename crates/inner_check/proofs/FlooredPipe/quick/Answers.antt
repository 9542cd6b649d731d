-- Each turn looks at two sections, by the CP carried to them, and the one or two that are left are worked out after the turns. Assumes nothing.
use Rattle.std.proofs.Common.{◌≡◌, sym, ◌∙◌, cond, ℕ, ◌+◌, ◌-◌, Bool}
use native.Mathlib.Nat.{zero-add}
use native.Mathlib.Omega.{arith}
use lib.Dec.{T}
use lib.Ieee.Positive.{positive}
use Rattle.fields.specs.Real.{◌⊞◌}
use Rattle.loops.proofs.Counting.{Counting, counting_more, counting_done}
use Rattle.inner_sections.specs.InnerSections.{sound_inner}
use Rattle.inner_sections.specs.CutPipes.{along, section_count}
use Rattle.inner_sections.proofs.CutRows.{first_cp, second_cp, in_floors, adds}
use Rattle.inner_check.proofs.QuickLook.{clearing_none, two_cleared, looked, clearing_done, great64, above_zero}
use Rattle.inner_check.proofs.FlooredPipe.quick.Goals as goal

-- one more, where none is counted so far
counting_one : (p : ℕ → Bool) {i v : ℕ} → Counting p i 0 → v ≡ cond (p i) 0 1 → Counting p (i + 1) v
counting_one p u e = rw zero-add at (counting_more p u e)

pub loop-i-init : goal.loop-i-init
loop-i-init c = (clearing_none _ _ _, c.two_cp-cp.ensures, omega (arith, c.requires))

pub clear_one-odd-requires : goal.clear_one-odd-requires
clear_one-odd-requires c = in_floors c.args.self.now.floored _ (omega (arith, c.loop-i.invariant.2))

pub clear_one-even-requires : goal.clear_one-even-requires
clear_one-even-requires c = in_floors c.args.self.now.floored _ (omega (arith, c.loop-i.invariant.2))

pub loop-i-preserved : goal.loop-i-preserved
loop-i-preserved c =
    let pipe = c.args.self.now.cut in
    let floors = c.args.self.now.floors.now in
    let w = along pipe in
    let s = pipe.s in
    let usual : T (positive (s ⊞ s)) = above_zero (s ⊞ s) great64 c.if-not-usual.false in
    let i = c.loop-i.i in
    let inv = c.loop-i.invariant in
    let floored = in_floors c.args.self.now.floored in (
      two_cleared (sound_inner floors w s) c.loop-i.odd c.loop-i.even _ _ _ _ inv.0
          (looked floors w s usual i (floored _ (omega (arith, inv.2))).1 (first_cp w s i inv.1) c.cm_at-cm1.ensures c.clear_one-odd.ensures.1)
          (looked floors w s usual (i + 1) (floored _ (omega (arith, inv.2))).1 (second_cp w s i inv.1) c.cm_at-cm2.ensures c.clear_one-even.ensures.1),
      c.two_cp-cp-in-loop-i.ensures,
      omega (arith, c.section_count.ensures, c.loop-i-test.true),
    )

pub returns-then-i-section_count : goal.returns-then-i-section_count
returns-then-i-section_count c h =
    let pipe = c.args.self.now.cut in
    let w = along pipe in
    let i = c.loop-i.i in
    let inv = c.loop-i.invariant in
    let none = clearing_done (sound_inner c.args.self.now.floors.now w pipe.s) inv.0 c.if-finite-odd.false in
    let one = counting_one _ none (adds _ w pipe.s i (first_cp w pipe.s i inv.1) c.fault_one-last.ensures.1) in
    sym (counting_done _ one (omega (arith, c.section_count-2.ensures, c.if-i-section_count.true)) (omega (arith, c.section_count-2.ensures, c.if-i-section_count.true))) ∙ h

pub returns : goal.returns
returns c h =
    let pipe = c.args.self.now.cut in
    let w = along pipe in
    let i = c.loop-i.i in
    let inv = c.loop-i.invariant in
    let none = clearing_done (sound_inner c.args.self.now.floors.now w pipe.s) inv.0 c.if-finite-odd.false in
    let one = counting_one _ none (adds _ w pipe.s i (first_cp w pipe.s i inv.1) c.fault_one-last.ensures.1) in
    let two = counting_more _ one (adds _ w pipe.s (i + 1) (second_cp w pipe.s i inv.1) c.fault_one.ensures.1) in
    sym (counting_done _ two (omega (arith, inv.2, c.section_count.ensures, c.loop-i-test.false, c.section_count-2.ensures, c.if-i-section_count.false)) (omega (arith, inv.2, c.section_count.ensures, c.loop-i-test.false, c.section_count-2.ensures, c.if-i-section_count.false))) ∙ h
