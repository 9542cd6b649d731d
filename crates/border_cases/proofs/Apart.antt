-- Two mains that nothing joins. A path stays in its main, since neighbours and ends at one node lie in one main; so demand 3 alone tells that each main
-- holds the same at every m, whatever the other's levels. Assumes nothing.
use mathlib.Core.Path.{◌≡◌, refl, sym}
use mathlib.Core.Logic.{◌↔◌}
use mathlib.Core.List.{List}
use mathlib.Core.Option.{some, some-injective, some-ne-none}
use Prim.Native.Nat.{ℕ, zero, suc, ◌+◌, ◌*◌, ◌≤◌, ◌<◌}
use native.Mathlib.Omega.{arith}
use lib.ListN.{get_elem?}
use Rattle.job.specs.Job.{Laid, laid, sections}
use Rattle.job.specs.Format.{job_of}
use Rattle.recurrence.specs.Run.{steps_done}
use Rattle.recurrence.specs.Paths.{EndAt, starts_at, finishes_at, Beside, down, up, PathTo, begins, along, across, NoPath}
use Rattle.recurrence.proofs.AllDefinitions.{opened}
use Rattle.border_cases.specs.Jobs.{two_mains, mains_level, first_higher, second_higher, in_three}
use Rattle.border_cases.specs.Cases.{Edited, Claim, SameAt, ApartCases}
use Rattle.border_cases.proofs.Edits.{rescheduled, edited}
use Rattle.border_cases.proofs.Unlike.{pattern, unlike}

-- a path stays among sections that neighbours and ends at one node do not leave
stays : (ls : List Laid) (from among : ℕ → Type 0) → ((s : ℕ) → from s → among s) → ((r s t : ℕ) → Beside ls r s t → among s → among t)
    → ((y s t : ℕ) → EndAt ls y s → EndAt ls y t → among s → among t) → (s e : ℕ) → PathTo ls from s e → among s
stays ls from among b n a s e (begins {s = s'} h) = b s' h
stays ls from among b n a s e (along {r = r} {s = s'} {t = t} {d = d} h p) = n r s' t h (stays ls from among b n a s' d p)
stays ls from among b n a s e (across {y = y} {s = s'} {t = t} {d = d} h k p) = a y s' t h k (stays ls from among b n a s' d p)

-- ---- the two mains as they are laid

abbrev mains : List Laid
mains = laid (job_of mains_level)

-- pipe p of the two: nodes and sections 2·p and 2·p + 1
pub record OneOfTwo (p : ℕ) (l : Laid) : Type 0 where
  pub start : l.pipe.start ≡ 2 * p
  pub finish : l.pipe.finish ≡ 2 * p + 1
  pub reaches : l.pipe.reaches ≡ 1
  pub first : l.first_section ≡ 2 * p
  pub two : p < 2

one_of_two : (p : ℕ) (l : Laid) → get_elem? mains p ≡ some l → OneOfTwo p l
unfolding opened two_mains
one_of_two zero l e = rw (← (some-injective _ _ e)) record { start = refl; finish = refl; reaches = refl; first = refl; two = omega arith }
one_of_two (suc zero) l e = rw (← (some-injective _ _ e)) record { start = refl; finish = refl; reaches = refl; first = refl; two = omega arith }
one_of_two (suc (suc p)) l e = absurd (some-ne-none l (sym e))

-- two sections, or a node and a section, of one main
abbrev SameMain : ℕ → ℕ → Type 0
SameMain s t = (s < 2) ↔ (t < 2)

beside_same : (r s t : ℕ) → Beside mains r s t → SameMain s t
beside_same r s t (down p l i e h q a b) = (λ v. omega (arith, one_of_two p l e), λ v. omega (arith, one_of_two p l e))
beside_same r s t (up p l i e h q a b) = (λ v. omega (arith, one_of_two p l e), λ v. omega (arith, one_of_two p l e))

-- a pipe end lies in the main of its node
end_same : (y s : ℕ) → EndAt mains y s → SameMain y s
end_same y s (starts_at p l e q h) = (λ v. omega (arith, one_of_two p l e), λ v. omega (arith, one_of_two p l e))
end_same y s (finishes_at p l e q h) = (λ v. omega (arith, one_of_two p l e), λ v. omega (arith, one_of_two p l e))

-- from node 0 a path leads to sections of the first main only, from node 2 to none of them
from_0 : (s e : ℕ) → PathTo mains (EndAt mains 0) s e → s < 2
from_0 =
    stays mains (EndAt mains 0) (λ s. s < 2) (λ s h. (end_same 0 s h).0 (omega arith)) (λ r s t h. (beside_same r s t h).0)
    (λ y s t a b h. (end_same y t b).0 ((end_same y s a).1 h))

from_2 : (s e : ℕ) → PathTo mains (EndAt mains 2) s e → ¬ (s < 2)
from_2 =
    stays mains (EndAt mains 2) (λ s. ¬ (s < 2)) (λ s h v. omega (arith, (end_same 2 s h).1 v)) (λ r s t h n v. n ((beside_same r s t h).1 v))
    (λ y s t a b n v. n ((end_same y s a).0 ((end_same y t b).1 v)))

pub unjoined_second : (s : ℕ) → 2 ≤ s → NoPath mains (EndAt mains 0) s
unfolding NoPath
unjoined_second s h e p = omega (arith, from_0 s e p)

unjoined_first : (s : ℕ) → s < 2 → NoPath mains (EndAt mains 2) s
unfolding NoPath
unjoined_first s h e p = from_2 s e p h

-- ---- the runs

first_edited : Edited mains_level first_higher 0 1
unfolding opened two_mains rescheduled
first_edited = edited mains_level first_higher 0 0 (refl, refl) (omega arith) refl tt

second_edited : Edited mains_level second_higher 2 1
unfolding opened two_mains rescheduled
second_edited = edited mains_level second_higher 2 0 (refl, refl) (omega arith) refl tt

four_sections : sections (job_of mains_level) ≡ 4
unfolding opened two_mains
four_sections = refl

ten_done : (steps_done (job_of mains_level) in_three ≡ 10) × (steps_done (job_of first_higher) in_three ≡ 10)
unfolding opened two_mains
ten_done = (refl, refl)

edited_unlike : ¬ SameAt mains_level first_higher in_three 0
unfolding opened two_mains pattern
edited_unlike = unlike (λ p. p.head) mains_level first_higher in_three 0 (λ e. omega (arith, e))

pub apart_cases : Claim → ApartCases
apart_cases claim = record {
  no_path_from_0 = unjoined_second;
  no_path_from_2 = unjoined_first;
  second_main = λ calls d s h l. (claim mains_level first_higher 0 1 first_edited calls).apart s d (omega (arith, four_sections)) (unjoined_second s h);
  first_main = λ calls d s h. (claim mains_level second_higher 2 1 second_edited calls).apart s d (omega (arith, four_sections)) (unjoined_first s h);
  both_done = ten_done;
  edited_main = edited_unlike;
}
