-- Four rows of one number a section, the heads, the flows and both envelopes, in which sections are stored upward. Each law is one of a single row that goes
-- by any rule, used for each of the four: what is not stored yet stands as it was, so that a row's own entry is the old one, and sections stored after
-- others are stored with them. Assumes nothing.
use mathlib.Core.Path.{◌≡◌, ap, ap₂, ◌∙◌}
use mathlib.Core.List.{List}
use Prim.Native.Nat.{ℕ, ◌+◌, ◌<◌, ◌≤◌}
use native.Mathlib.Omega.{arith}
use lib.ListN.{length}
use lib.Ieee.{Float}
use Rattle.fields.specs.Real.{zero64}
use Rattle.loops.proofs.Fill.{fill_none, fill_above, fill_cong, fill_join, length-fill}
use Rattle.wave.specs.declared.HeadFlow.{HeadFlow}
use Rattle.recurrence.specs.Step.{raised, lowered}
use Rattle.section.specs.SectionRows.{entry, enveloped, ruled, keep_new, SteppedRows}

-- ---- one row: n numbers from `at` on are stored

module _ (rule : Float → Float → Float) (f : ℕ → Float) (old : List Float) {mid : List Float} (at n : ℕ) (e : mid ≡ ruled rule f old at n) where
  row_long : length mid ≡ length old
  row_long = ap length e ∙ length-fill (enveloped rule f old at) old at n

  row_kept : (j : ℕ) → at + n ≤ j → entry mid j ≡ entry old j
  row_kept j b = rw e (fill_above (enveloped rule f old at) old at zero64 n j b)

  -- and then k more
  row_more : (g : ℕ → Float) {new : List Float} {from : ℕ} (k : ℕ) → from ≡ at + n → ((j : ℕ) → j < k → g j ≡ f (n + j)) → new ≡ ruled rule g mid from k → new ≡ ruled rule f old at (n + k)
  row_more g {from = from} k p h d =
      d
      ∙ fill_cong (enveloped rule g mid from) (λ j. enveloped rule f old at (n + j)) mid from k
      (λ j b. let q : from + j ≡ at + (n + j) = omega arith in ap₂ rule (row_kept (from + j) (omega arith) ∙ ap (entry old) q) (h j b))
      ∙ rw (p, e) (fill_join (enveloped rule f old at) old at n k)

-- ---- four rows

-- `SteppedRows` as a loop keeps it
pub record SteppedTo (f : ℕ → HeadFlow) (at n : ℕ) (heads flows highest lowest newHeads newFlows newHighest newLowest : List Float) : Type 0 where
  pub stepped : SteppedRows f at n heads flows highest lowest newHeads newFlows newHighest newLowest

pub stepped_none : {f : ℕ → HeadFlow} {at : ℕ} {heads flows highest lowest : List Float} → SteppedTo f at 0 heads flows highest lowest heads flows highest lowest
stepped_none {at = at} {heads} {flows} {highest} {lowest} =
    record { stepped = (fill_none _ heads at, fill_none _ flows at, fill_none _ highest at, fill_none _ lowest at) }

module _ {f : ℕ → HeadFlow} {at n : ℕ} {heads flows highest lowest midHeads midFlows midHighest midLowest : List Float}
    (u : SteppedTo f at n heads flows highest lowest midHeads midFlows midHighest midLowest) where
  pub heads_length : length midHeads ≡ length heads
  heads_length = row_long keep_new _ heads at n u.stepped.0

  pub heads_kept : (j : ℕ) → at + n ≤ j → entry midHeads j ≡ entry heads j
  heads_kept = row_kept keep_new _ heads at n u.stepped.0

  pub flows_kept : (j : ℕ) → at + n ≤ j → entry midFlows j ≡ entry flows j
  flows_kept = row_kept keep_new _ flows at n u.stepped.1

  -- k sections more, by a rule that agrees there
  pub stepped_more :
      (g : ℕ → HeadFlow) (k : ℕ) {from : ℕ} {newHeads newFlows newHighest newLowest : List Float} → from ≡ at + n → ((j : ℕ) → j < k → g j ≡ f (n + j))
      → SteppedRows g from k midHeads midFlows midHighest midLowest newHeads newFlows newHighest newLowest
      → SteppedTo f at (n + k) heads flows highest lowest newHeads newFlows newHighest newLowest
  stepped_more g k p h w =
      let head : (j : ℕ) → j < k → (g j).head ≡ (f (n + j)).head = λ j b. ap (λ (t : HeadFlow). t.head) (h j b) in
      let flow : (j : ℕ) → j < k → (g j).flow ≡ (f (n + j)).flow = λ j b. ap (λ (t : HeadFlow). t.flow) (h j b) in
      record {
        stepped = (
          row_more keep_new _ heads at n u.stepped.0 _ k p head w.0,
          row_more keep_new _ flows at n u.stepped.1 _ k p flow w.1,
          row_more raised _ highest at n u.stepped.2 _ k p head w.2,
          row_more lowered _ lowest at n u.stepped.3 _ k p head w.3,
        );
      }

  pub stepped_one_more :
      {x : HeadFlow} {from : ℕ} {newHeads newFlows newHighest newLowest : List Float} → from ≡ at + n → x ≡ f n
      → SteppedRows (λ (k : ℕ). x) from 1 midHeads midFlows midHighest midLowest newHeads newFlows newHighest newLowest
      → SteppedTo f at (n + 1) heads flows highest lowest newHeads newFlows newHighest newLowest
  stepped_one_more {x} p e w = stepped_more (λ (k : ℕ). x) 1 p (λ j b. e ∙ ap f (let q : n ≡ n + j = omega arith in q)) w

  pub stepped_done : (m : ℕ) → m ≡ n → SteppedRows f at m heads flows highest lowest midHeads midFlows midHighest midLowest
  stepped_done m e = rw e u.stepped

-- the same sections by another name
pub stepped_as :
    (at n : ℕ) (heads flows highest lowest : List Float) {f g : ℕ → HeadFlow} {newHeads newFlows newHighest newLowest : List Float} → f ≡ g
    → SteppedRows f at n heads flows highest lowest newHeads newFlows newHighest newLowest → SteppedRows g at n heads flows highest lowest newHeads newFlows newHighest newLowest
stepped_as at n heads flows highest lowest e stored = rw e at stored
