-- What the yes to questions 13 and 14 says of a reach and of a section. Assumes nothing.
use mathlib.Core.Path.{◌≡◌, refl, ◌∙◌}
use mathlib.Core.Bool.{Bool, true, false, ◌&&◌}
use mathlib.Core.List.{List}
use Prim.Native.Nat.{ℕ, zero, suc, ◌+◌, ◌*◌, ◌/◌, ◌<◌}
use native.Mathlib.Nat.{zero-add}
use native.Mathlib.Omega.{arith}
use lib.ListN.{length}
use lib.Ieee.Scale.{finite}
use Rattle.fields.specs.Bytes.{f64_at}
use Rattle.loops.specs.Loops.{all_below}
use Rattle.loops.proofs.All.{all_at, all_both, all_cong}
use Rattle.job.specs.Job.{Initial}
use Rattle.job.specs.Format.{r_in, friction_in, section_in, initial_in}
use Rattle.job.specs.TableEntries.{r_of, initial_of}
use Rattle.job.specs.Questions.{not_below_zero, r_fits, friction_fits, finite_section, section_fits, initial_fits}
use Rattle.job.specs.QuestionParts.{numbers_finite, each_finite, none_below_zero, sections_finite, not_below_floor, none_below_floor}
use Rattle.loops.proofs.Tests.{both}
use Rattle.loops.proofs.Listed.{get_or-listed}

pub record FiniteSection (i : Initial) : Type 0 where
  pub head : finite i.head ≡ true
  pub flow : finite i.flow ≡ true
  pub floor : finite i.floor ≡ true

pub finite_section_lem : (i : Initial) → finite_section i ≡ true → FiniteSection i
unfolding finite_section
finite_section_lem i h =
    let hq-z = both (finite i.head && finite i.flow) (finite i.floor) h in
    let h-q = both (finite i.head) (finite i.flow) hq-z.0 in
    record { head = h-q.0; flow = h-q.1; floor = hq-z.1 }

-- numbers from the first on
pub from_first : (bytes : List ℕ) (n : ℕ) → numbers_finite bytes 0 n ≡ all_below (λ k. finite (f64_at bytes (k * 8))) n
from_first bytes n = all_cong n (λ k. finite (f64_at bytes ((0 + k) * 8))) (λ k. finite (f64_at bytes (k * 8))) (λ k l. rw (zero-add k))

regroup : (p a b c : Bool) → ((p && a) && b) && c ≡ p && (a && b && c)
regroup true a b c = refl
regroup false a b c = refl

module _ (initial : List ℕ) where
  pub section_fits_lem : initial_fits initial ≡ true → (s : ℕ) → s < length initial / 24 → section_fits (section_in initial s) ≡ true
  unfolding initial_fits
  section_fits_lem h s l = all_at (λ k. section_fits (section_in initial k)) s (length initial / 24) h l

  pub section_finite : initial_fits initial ≡ true → (s : ℕ) → s < length initial / 24 → FiniteSection (section_in initial s)
  unfolding section_fits
  section_finite h s l = finite_section_lem _ (both (finite_section (section_in initial s)) _ (section_fits_lem h s l)).0

  -- question 14 by its two halves; a section has three numbers
  pub initial_halves : initial_fits initial ≡ sections_finite initial && none_below_floor initial
  unfolding initial_fits section_fits
  initial_halves = all_both (λ s. finite_section (section_in initial s)) (λ s. not_below_floor (section_in initial s)) (length initial / 24)

  three_of : (n : ℕ) → finite_section (section_in initial n)
      ≡ finite (f64_at initial (n * 24)) && finite (f64_at initial (n * 24 + 8)) && finite (f64_at initial (n * 24 + 16))
  unfolding finite_section
  three_of n = refl

  three_each : (n : ℕ) → all_below (λ k. finite (f64_at initial (k * 8))) (n * 3) ≡ all_below (λ s. finite_section (section_in initial s)) n
  unfolding all_below
  three_each zero = refl
  three_each (suc n) =
      let p : suc n * 3 ≡ suc (suc (suc (n * 3))) = omega arith in
      let a : n * 3 * 8 ≡ n * 24 = omega arith in
      let b : suc (n * 3) * 8 ≡ n * 24 + 8 = omega arith in
      let c : suc (suc (n * 3)) * 8 ≡ n * 24 + 16 = omega arith in
      rw (p, a, b, c, three_each n, three_of n) (
      regroup (all_below (λ s. finite_section (section_in initial s)) n) (finite (f64_at initial (n * 24))) (finite (f64_at initial (n * 24 + 8)))
      (finite (f64_at initial (n * 24 + 16)))
      )

  pub three_finite : (n : ℕ) → numbers_finite initial 0 (n * 3) ≡ all_below (λ s. finite_section (section_in initial s)) n
  three_finite n = from_first initial (n * 3) ∙ three_each n

  pub section_is : (s : ℕ) → s < length initial / 24 → initial_of initial s ≡ section_in initial s
  unfolding initial_in
  section_is s l = get_or-listed (length initial / 24) (section_in initial) s _ l

module _ (friction : List ℕ) where
  pub r_fits_lem : friction_fits friction ≡ true → (r : ℕ) → r < length friction / 8 → r_fits friction r ≡ true
  unfolding friction_fits
  r_fits_lem h r l = all_at (r_fits friction) r (length friction / 8) h l

  pub r_finite : friction_fits friction ≡ true → (r : ℕ) → r < length friction / 8 → finite (r_in friction r) ≡ true
  unfolding r_fits
  r_finite h r l = (both (finite (r_in friction r)) _ (r_fits_lem h r l)).0

  -- question 13 by its two halves
  pub friction_halves : friction_fits friction ≡ each_finite friction && none_below_zero friction
  unfolding friction_fits r_fits
  friction_halves = all_both (λ r. finite (r_in friction r)) (λ r. not_below_zero (r_in friction r)) (length friction / 8)

  pub r_is : (r : ℕ) → r < length friction / 8 → r_of friction r ≡ r_in friction r
  unfolding friction_in
  r_is r l = get_or-listed (length friction / 8) (r_in friction) r _ l
