use mathlib.Core.Path.{◌≡◌, sym, ◌∙◌}
use mathlib.Core.Bool.{Bool, true, false, and-true}
use mathlib.Core.List.{List}
use Prim.Native.Nat.{ℕ, ◌+◌, ◌*◌, ◌<◌}
use lib.ListN.{length}
use lib.Dec.{eqb}
use native.Mathlib.Omega.{arith}
use borrow.Author.Tests.{ne_eqb}
use Rattle.loops.specs.Loops.{all_below}
use Rattle.loops.proofs.All.{all_none, all_more, all_stop}
use Rattle.loops.proofs.Tests.{and_false}
use Rattle.job.specs.Format.{node_count, schedule_count, place_of, kind_number, entry_in}
use Rattle.job.specs.Questions.{entry_fits, schedule_fits, schedules_fit, schedules_right}
use Rattle.job.proofs.Places.{ends_before, sum_before_none, sum_before_more}
use Rattle.value_questions.proofs.schedules_right.Goals as goal

-- ---- of the definition

module _ (nodes counts schedules : List ℕ) where
  too_short :
      {node place count : ℕ} → node < node_count nodes → place ≡ place_of nodes counts node → count ≡ schedule_count nodes counts node
      → length schedules < (place + count) * 8 → false ≡ schedules_right nodes counts schedules
  unfolding schedules_right
  too_short l p k h =
      let later = ends_before nodes counts (node_count nodes) l p k in
      rw (ne_eqb (length schedules) (place_of nodes counts (node_count nodes) * 8) (λ e. omega (arith, later)))

  one_no : {node : ℕ} → node < node_count nodes → schedule_fits nodes counts schedules node ≡ false → false ≡ schedules_right nodes counts schedules
  unfolding schedules_right schedules_fit
  one_no l e = rw (all_stop _ _ _ l e) (sym (and_false (eqb (length schedules) (place_of nodes counts (node_count nodes) * 8))))

  all_asked :
      {node place : ℕ} → node ≡ node_count nodes → place ≡ place_of nodes counts node → all_below (schedule_fits nodes counts schedules) node ≡ true
      → eqb (length schedules) (place * 8) ≡ schedules_right nodes counts schedules
  unfolding schedules_right schedules_fit
  all_asked n p e = rw (← n, e, ← p) (sym (and-true _))

  asked :
      (node : ℕ) {place count : ℕ} {v : Bool} → place ≡ place_of nodes counts node → count ≡ schedule_count nodes counts node
      → v ≡ all_below (λ i. entry_fits (kind_number nodes node) (entry_in schedules (place + i))) count → v ≡ schedule_fits nodes counts schedules node
  unfolding schedule_fits
  asked node p k e = rw (← k, ← p) e

-- ---- of the code

pub loop-node-init : goal.loop-node-init
loop-node-init c = (sum_before_none _ _, all_none _)

pub returns-then-schedules-next : goal.returns-then-schedules-next
returns-then-schedules-next c =
    too_short _ _ _ c.loop-node-test.true c.loop-node.invariant.0.sum c.schedule_count-count.ensures.0 c.if-schedules-next.true

pub returns-then-not-schedule_fits : goal.returns-then-not-schedule_fits
returns-then-not-schedule_fits c = one_no _ _ _ c.loop-node-test.true (sym (asked _ _ _ _ c.loop-node.invariant.0.sum c.schedule_count-count.ensures.0 c.schedule_fits.ensures) ∙ c.if-not-schedule_fits.true)

pub loop-node-preserved : goal.loop-node-preserved
loop-node-preserved c =
    let count = c.schedule_count-count.ensures in
    (sum_before_more _ _ c.loop-node.invariant.0 count.0 count.1, all_more _ c.loop-node.invariant.1 (sym (asked _ _ _ _ c.loop-node.invariant.0.sum c.schedule_count-count.ensures.0 c.schedule_fits.ensures) ∙ c.if-not-schedule_fits.false))

pub returns : goal.returns
returns c = all_asked _ _ _ (omega arith) c.loop-node.invariant.0.sum c.loop-node.invariant.1
