-- A part of a row or of a table, `&s[a..e]`, holds from its first entry on what the whole holds from a on. Assumes nothing.
use mathlib.Core.Path.{◌≡◌, ap, ◌∙◌}
use mathlib.Core.Bool.{true}
use mathlib.Core.List.{List}
use Prim.Native.Nat.{ℕ, ◌+◌, ◌*◌, ◌≤◌, ◌<◌}
use native.Mathlib.Omega.{arith}
use lib.ListN.{length, get_or, take, drop}
use lib.Ieee.{binary64, of_bits}
use lib.Ieee.Scale.{finite}
use Rattle.loops.specs.Loops.{all_below}
use Rattle.loops.proofs.All.{all_of}
use Rattle.loops.proofs.Parts.{part_length, part_at}
use Rattle.fields.specs.Bytes.{u64_at, f64_at}
use Rattle.job.specs.Format.{r_in}
use Rattle.job.specs.Questions.{initial_fits}
use Rattle.section.specs.Faults.{floor_in}
use Rattle.section.proofs.Soundness.{floor_finite}
use Rattle.inner_sections.specs.InnerSections.{Floored}

module _ (l : List ℕ) (a k at : ℕ) (h : at + 8 ≤ k) where
  byte : (j : ℕ) → j < 8 → get_or (take k (drop a l)) (at + j) 0 ≡ get_or l (a + at + j) 0
  byte j b = part_at l a k (at + j) 0 (omega arith) ∙ ap (λ (i : ℕ). get_or l i 0) (let e : a + (at + j) ≡ a + at + j = omega arith in e)

  pub u64_part : u64_at (take k (drop a l)) at ≡ u64_at l (a + at)
  unfolding u64_at
  u64_part =
      rw (
        part_at l a k at 0 (omega arith),
        byte 1 (omega arith),
        byte 2 (omega arith),
        byte 3 (omega arith),
        byte 4 (omega arith),
        byte 5 (omega arith),
        byte 6 (omega arith),
        byte 7 (omega arith),
      )

  pub f64_part : f64_at (take k (drop a l)) at ≡ f64_at l (a + at)
  unfolding f64_at
  f64_part = ap (of_bits binary64) u64_part

-- R of reach i of a part of table 3 that begins with reach r
pub r_part : (friction : List ℕ) (a k r i : ℕ) → a ≡ r * 8 → i * 8 + 8 ≤ k → r_in (take k (drop a friction)) i ≡ r_in friction (r + i)
r_part friction a k r i e h =
    f64_part friction a k (i * 8) h ∙ ap (f64_at friction) (let p : a + i * 8 ≡ (r + i) * 8 = omega arith in p)

-- each R of such a part of n reaches is finite, where it is in the whole
pub r_part_finite :
    (friction : List ℕ) (a k r n : ℕ) → a ≡ r * 8 → n * 8 ≤ k → ((i : ℕ) → i < n → finite (r_in friction (r + i)) ≡ true)
    → all_below (λ i. finite (r_in (take k (drop a friction)) i)) n ≡ true
r_part_finite friction a k r n e h fits = all_of (λ i. finite (r_in (take k (drop a friction)) i)) n (λ i l. rw (r_part friction a k r i e (omega arith)) (fits i l))

-- the floor of section i of a part of table 4 that begins with section s
pub floor_part : (initial : List ℕ) (a k s i : ℕ) → a ≡ s * 24 → i * 24 + 24 ≤ k → floor_in (take k (drop a initial)) i ≡ floor_in initial (s + i)
floor_part initial a k s i e h =
    f64_part initial a k (i * 24 + 16) (omega arith) ∙ ap (f64_at initial) (let p : a + (i * 24 + 16) ≡ (s + i) * 24 + 16 = omega arith in p)

-- such a part of n sections, where question 14 has a yes
pub floored_part :
    (initial : List ℕ) (a k s n : ℕ) → a ≡ s * 24 → n * 24 ≤ k → a + k ≤ length initial → initial_fits initial ≡ true → Floored (take k (drop a initial)) n
floored_part initial a k s n e h b fits =
    record {
      floors_long = omega (arith, part_length initial a k b);
      floors_finite =
          all_of (λ i. finite (floor_in (take k (drop a initial)) i)) n
          (λ i l. rw (floor_part initial a k s i e (omega arith)) (floor_finite initial (s + i) (omega arith) fits));
    }
