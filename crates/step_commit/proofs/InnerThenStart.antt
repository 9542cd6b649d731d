-- Four rows in which the inner sections of a pipe are stored before the section above them: that is the same as to store upward from that section on. Each
-- law is one of a single row that takes new numbers by a rule, from its own entry and the new number; heads and flows go by the rule that keeps the new
-- number. Assumes nothing.
use mathlib.Core.Path.{◌≡◌, ap, ap₂, ◌∙◌}
use mathlib.Core.List.{List}
use Prim.Native.Nat.{ℕ, suc, ◌+◌, ◌<◌}
use native.Mathlib.Nat.{add-zero}
use native.Mathlib.Omega.{arith}
use lib.ListN.{set}
use lib.Ieee.{Float}
use Rattle.fields.specs.Real.{zero64}
use Rattle.loops.specs.Fill.{fill}
use Rattle.loops.proofs.Fill.{fill_cong, fill_below, fill_front, set-fill}
use Rattle.wave.specs.declared.HeadFlow.{HeadFlow}
use Rattle.section.specs.SectionRows.{entry, enveloped, ruled, keep_new, SteppedRows}
use Rattle.recurrence.specs.Step.{raised, lowered}
use Rattle.section.proofs.RowLaws.{SteppedTo}

-- ---- one row

-- n numbers from the entry below `at` on, and then one at `at`
row_above :
    (rule : Float → Float → Float) (f g : ℕ → Float) (row : List Float) (at n : ℕ) {x : Float} {a b : List Float}
    → x ≡ g 0 → ((i : ℕ) → i < n → f i ≡ g (suc i)) → a ≡ ruled rule f row (at + 1) n → b ≡ ruled rule (λ k. x) a at 1 → b ≡ ruled rule g row at (suc n)
unfolding fill
row_above rule f g row at n {x} {a} {b} ex ef ea eb =
    let h : ℕ → Float = enveloped rule f row (at + 1) in
    let whole : ℕ → Float = enveloped rule g row at in
    let own : rule (entry a (at + 0)) x ≡ whole 0 =
    ap₂ rule (ap (λ (r : List Float). entry r (at + 0)) ea ∙ fill_below h row (at + 1) zero64 n (at + 0) (omega arith)) ex in
    let rest : (i : ℕ) → i < n → h i ≡ whole (suc i) =
    λ i k. ap₂ rule (ap (entry row) (let e : at + 1 + i ≡ at + suc i = omega arith in e)) (ef i k) in
    eb
    ∙ rw (own, ea)
    (set-fill h row (at + 1) n (at + 0) (whole 0) (omega arith)
    ∙ fill_cong h (λ i. whole (suc i)) (set row (at + 0) (whole 0)) (at + 1) n rest
    ∙ ap (λ (j : ℕ). fill (λ i. whole (suc i)) (set row j (whole 0)) (at + 1) n) (add-zero at)
    ∙ fill_front whole row at n)

-- ---- four rows

pub stepped_above :
    (f g : ℕ → HeadFlow) (at n : ℕ) {x : HeadFlow} {heads flows highest lowest midHeads midFlows midHighest midLowest newHeads newFlows newHighest newLowest : List Float}
    → x ≡ g 0 → ((i : ℕ) → i < n → f i ≡ g (suc i))
    → SteppedRows f (at + 1) n heads flows highest lowest midHeads midFlows midHighest midLowest
    → SteppedRows (λ (k : ℕ). x) at 1 midHeads midFlows midHighest midLowest newHeads newFlows newHighest newLowest
    → SteppedTo g at (suc n) heads flows highest lowest newHeads newFlows newHighest newLowest
stepped_above f g at n {heads = heads} {flows} {highest} {lowest} ex ef u w =
    let head = ap (λ (t : HeadFlow). t.head) ex in
    let heads-as : (i : ℕ) → i < n → (f i).head ≡ (g (suc i)).head = λ i k. ap (λ (t : HeadFlow). t.head) (ef i k) in
    record {
      stepped = (
        row_above keep_new (λ i. (f i).head) (λ i. (g i).head) heads at n head heads-as u.0 w.0,
        row_above keep_new (λ i. (f i).flow) (λ i. (g i).flow) flows at n (ap (λ (t : HeadFlow). t.flow) ex) (λ i k. ap (λ (t : HeadFlow). t.flow) (ef i k)) u.1 w.1,
        row_above raised (λ i. (f i).head) (λ i. (g i).head) highest at n head heads-as u.2 w.2,
        row_above lowered (λ i. (f i).head) (λ i. (g i).head) lowest at n head heads-as u.3 w.3,
      );
    }
