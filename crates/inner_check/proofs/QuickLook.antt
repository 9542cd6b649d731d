-- The look at a pipe's inner sections that divides nothing: a section that is above its floor times S + S and below the limit, and whose flow is added to
-- a sum that stays finite, has no fault. So where every section counts, and both sums are finite, none has. Assumes nothing.
use mathlib.Core.Path.{◌≡◌, refl, sym, ◌∙◌}
use mathlib.Core.Bool.{Bool, true, false, not, ◌&&◌, ◌||◌, cond, true≢false}
use mathlib.Core.List.{List}
use Prim.Native.Nat.{ℕ, ◌+◌, ◌*◌, ◌≤◌, zero-le}
use native.Mathlib.Nat.{lt_of_le_of_lt}
use native.Mathlib.Omega.{arith}
use borrow.Author.Tests.{ltb-true, eqb-true}
use lib.Dec.{T, eqb, lt→ltb}
use lib.Ieee.{Float, nan, inf, fin, binary64, up, down, of_bits, lt, eq, fits}
use lib.Ieee.Fits.{add-fits, sub-fits}
use lib.Ieee.Bits.{of_bits-fits}
use lib.Ieee.Scale.{finite}
use lib.Ieee.Positive.{positive, first_pos}
use Rattle.fields.specs.Real.{◌⊞◌, ◌⊟◌, ◌⊠◌, ◌⊘◌, zero64, two64}
use Rattle.fields.specs.Bytes.{u64_at, f64_at}
use Rattle.loops.specs.Loops.{all_below}
use Rattle.loops.proofs.All.{all_none, all_more}
use Rattle.loops.proofs.Counting.{Counting}
use Rattle.wave.specs.Wave.{inner}
use Rattle.recurrence.specs.Step.{AlongPipes}
use Rattle.loops.proofs.Tests.{both}
use Rattle.section.specs.Faults.{floor_in, sound_with}
use Rattle.section.proofs.Differences.{both_finite}
use Rattle.section.proofs.Soundness.{sound_is}
use Rattle.inner_sections.specs.InnerSections.{cp_at, cm_at, sound_inner}
use Rattle.inner_check.proofs.NoDivision.{no_division, halved, added_finite}

-- the great number of the code, 2 ^ 1000
abbrev pub great64 : Float
great64 = of_bits binary64 0x7e70_0000_0000_0000

great_positive : T (positive great64)
unfolding of_bits
great_positive = tt

-- S + S as the code has it
pub above_zero : (w y : Float) → lt zero64 w && lt w y ≡ true → T (positive w)
unfolding lt of_bits
above_zero nan y h = absurd (true≢false (sym h))
above_zero (inf true) y h = absurd (true≢false (sym h))
above_zero (inf false) nan h = absurd (true≢false (sym h))
above_zero (inf false) (inf t) h = absurd (true≢false (sym h))
above_zero (inf false) (fin t m e) h = absurd (true≢false (sym h))
above_zero (fin true n k) y h = absurd (true≢false (sym h))
above_zero (fin false n k) y h =
    let p = ltb-true (0 * down k) (n * up k * 1) (both _ (lt (fin false n k) y) h).0 in
    lt→ltb 0 n (first_pos n (up k) (first_pos (n * up k) 1 (lt_of_le_of_lt zero-le p)))

half_of : (x : Float) → finite x ≡ true → T (fits binary64 x) → finite (x ⊘ two64) ≡ true
unfolding of_bits
half_of x a t = halved binary64 x a t

floor_fits : (floors : List ℕ) (s : ℕ) → T (fits binary64 (floor_in floors s))
unfolding f64_at
floor_fits floors s = of_bits-fits binary64 (u64_at floors (s * 24 + 16))

-- ---- one section

all_three : {a b c : Bool} → a ≡ true → b ≡ true → c ≡ false → (a && b) && not c ≡ true
all_three p q r = rw (p, q, r)

module _ (floors : List ℕ) (S : Float) (usual : T (positive (S ⊞ S))) where
  clears : (s : ℕ) (cp cm : Float) → finite (floor_in floors s) ≡ true
      → lt (floor_in floors s ⊠ (S ⊞ S)) (cp ⊟ cm) && lt (cp ⊟ cm) (great64 ⊠ (S ⊞ S)) ≡ true → finite (cp ⊞ cm) ≡ true
      → sound_with (floor_in floors s) (inner S cp cm) ≡ true
  unfolding inner
  clears s cp cm a h k =
      let F = floor_in floors s in
      let w = S ⊞ S in
      let d = cp ⊟ cm in
      let x = both (lt (F ⊠ w) d) (lt d (great64 ⊠ w)) h in
      let y = no_division binary64 F w d great64 a usual great_positive (floor_fits floors s) (sub-fits binary64 cp cm) (of_bits-fits binary64 0x7e70_0000_0000_0000) x.0 x.1 in
      sound_is F (d ⊘ w) ((cp ⊞ cm) ⊘ two64) 0 ∙ all_three y.0 (half_of (cp ⊞ cm) k (add-fits binary64 cp cm)) y.1

one_if : {v : ℕ} (b : Bool) → v ≡ cond b 1 0 → v ≡ 1 → b ≡ true
one_if true e h = refl
one_if false e h = absurd (omega (arith, e, h))

at_most_one : (b : Bool) → cond b 1 0 ≤ 1
at_most_one true = omega arith
at_most_one false = omega arith

-- the test of the code for section i + 1
abbrev pub is_clear : List ℕ → Float → ℕ → Float → Bool
is_clear floors w i d = lt (floor_in floors (i + 1) ⊠ w) d && lt d (great64 ⊠ w)

-- what a section adds to its count, and to its sum where that is x
pub record Looked (p : Bool) (v : ℕ) (x : Float) : Type 0 where
  pub one : v ≤ 1
  pub clear : v ≡ 1 → finite x ≡ true → p ≡ true

pub looked :
    (floors : List ℕ) (w : AlongPipes) (S : Float) → T (positive (S ⊞ S)) → (i : ℕ) {cp cm : Float} {v : ℕ} → finite (floor_in floors (i + 1)) ≡ true
    → cp ≡ cp_at w S i → cm ≡ cm_at w S i → v ≡ cond (is_clear floors (S ⊞ S) i (cp ⊟ cm)) 1 0 → Looked (sound_inner floors w S i) v (cp ⊞ cm)
looked floors w S usual i {cp} {cm} a e d h = record {
  one = rw h (at_most_one (is_clear floors (S ⊞ S) i (cp ⊟ cm)));
  clear = λ is_one k. rw (← e, ← d) (clears floors S usual (i + 1) cp cm a (one_if (is_clear floors (S ⊞ S) i (cp ⊟ cm)) h is_one) k);
}

-- ---- the loop: i are looked at

neither : (a b : Bool) → not a || not b ≡ false → (a ≡ true) × (b ≡ true)
neither true true h = (refl, refl)
neither true false h = absurd (true≢false h)
neither false b h = absurd (true≢false h)

pub record Clearing (p : ℕ → Bool) (i count : ℕ) (odd-sum even_sum : Float) : Type 0 where
  pub few : count ≤ i
  pub all_clear : count ≡ i → finite odd-sum ≡ true → finite even_sum ≡ true → all_below p i ≡ true

module _ (p : ℕ → Bool) where
  pub clearing_none : (odd-sum even_sum : Float) → Clearing p 0 0 odd-sum even_sum
  clearing_none odd-sum even_sum = record { few = omega arith; all_clear = λ z a b. all_none p }

  pub two_cleared :
      {i : ℕ} (odd even : ℕ) {v u : ℕ} (odd-sum even_sum x y : Float) → Clearing p i (odd + even) odd-sum even_sum
      → Looked (p i) v x → Looked (p (i + 1)) u y → Clearing p (i + 2) (odd + v + (even + u)) (odd-sum ⊞ x) (even_sum ⊞ y)
  two_cleared {i} odd even {v} {u} odd-sum even_sum x y c first second = record {
    few = omega (arith, c.few, first.one, second.one);
    all_clear = λ z a b.
        let s : i + 2 ≡ i + 1 + 1 = omega arith in
        let j = added_finite binary64 odd-sum x a in
        let k = added_finite binary64 even_sum y b in
        let so_far = c.all_clear (omega (arith, z, c.few, first.one, second.one)) j.0 k.0 in
        rw s (all_more p (all_more p so_far (first.clear (omega (arith, z, c.few, first.one, second.one)) j.1)) (second.clear (omega (arith, z, c.few, first.one, second.one)) k.1));
  }

  -- by the test of the code after the turns: none of those that it looked at has a fault
  pub clearing_done :
      {i count : ℕ} {odd-sum even_sum : Float} → Clearing p i count odd-sum even_sum
      → not (eq (odd-sum ⊟ odd-sum) (even_sum ⊟ even_sum)) || not (eqb count i) ≡ false → Counting p i 0
  clearing_done {i} {count} {odd-sum} {even_sum} c h =
      let t = neither (eq (odd-sum ⊟ odd-sum) (even_sum ⊟ even_sum)) (eqb count i) h in
      let f = both (finite odd-sum) (finite even_sum) (sym (both_finite odd-sum even_sum) ∙ t.0) in
      record { few = omega arith; told = sym (c.all_clear (eqb-true count i t.1) f.0 f.1) }
