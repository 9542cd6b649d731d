-- A path from one pipe into the next: a section's distance from node 0 is bounded by its level, which at a pipe end is the number of the node there and
-- rises by one along a reach. That the last section is alike is taken from demand 3 alone; that it is so no longer is computed. Assumes nothing.
use mathlib.Core.Path.{◌≡◌, refl, sym, ap, ◌∙◌}
use mathlib.Core.List.{List}
use mathlib.Core.Option.{some, some-injective, some-ne-none}
use Prim.Native.Nat.{ℕ, zero, suc, ◌+◌, ◌-◌, ◌≤◌}
use native.Mathlib.Omega.{arith}
use lib.ListN.{get_elem?}
use Rattle.job.specs.Job.{Laid, laid, sections}
use Rattle.job.specs.Format.{job_of}
use Rattle.recurrence.specs.Run.{steps_done}
use Rattle.recurrence.specs.Paths.{EndAt, starts_at, finishes_at, Beside, down, up, AtLeast}
use Rattle.recurrence.proofs.AllDefinitions.{opened}
use Rattle.recurrence.proofs.Sharp.{by_levels}
use Rattle.border_cases.specs.Jobs.{in_series, series_level, series_higher, after_refusal}
use Rattle.border_cases.specs.Cases.{Edited, Claim, SameAt, AcrossCases}
use Rattle.border_cases.proofs.Edits.{rescheduled, edited}
use Rattle.border_cases.proofs.Unlike.{pattern, unlike}

-- ---- distances

abbrev series : List Laid
series = laid (job_of series_level)

level : ℕ → ℕ
level zero = 0
level (suc zero) = 1
level (suc (suc zero)) = 1
level (suc (suc (suc s))) = 2

-- a pipe of one reach, from its node to the next
record OneReach (l : Laid) : Type 0 where
  pub reaches : l.pipe.reaches ≡ 1
  pub at_the_start : level l.first_section ≡ l.pipe.start
  pub at_the_finish : level (l.first_section + 1) ≡ l.pipe.finish
  pub next : l.pipe.finish ≡ suc l.pipe.start

one_reach : (p : ℕ) (l : Laid) → get_elem? series p ≡ some l → OneReach l
unfolding opened in_series level
one_reach zero l e = rw (← (some-injective _ _ e)) record { reaches = refl; at_the_start = refl; at_the_finish = refl; next = refl }
one_reach (suc zero) l e = rw (← (some-injective _ _ e)) record { reaches = refl; at_the_start = refl; at_the_finish = refl; next = refl }
one_reach (suc (suc p)) l e = absurd (some-ne-none l (sym e))

-- the level of a section of a pipe, by which end it is
start_level : (l : Laid) (s : ℕ) → OneReach l → s ≡ l.first_section → level s ≡ l.pipe.start
start_level l s o h = ap level h ∙ o.at_the_start

finish_level : (l : Laid) (s : ℕ) → OneReach l → s ≡ l.first_section + 1 → level s ≡ l.pipe.finish
finish_level l s o h = ap level h ∙ o.at_the_finish

end_level : (y s : ℕ) → EndAt series y s → level s ≡ y
end_level y s (starts_at p l e q h) = start_level l s (one_reach p l e) h ∙ q
end_level y s (finishes_at p l e q h) = let o = one_reach p l e in finish_level l s o (omega (arith, o.reaches)) ∙ q

beside_level : (r s t : ℕ) → Beside series r s t → level t ≤ suc (level s)
beside_level r s t (down p l i e h q a b) =
    let o = one_reach p l e in
    omega (arith, start_level l s o (omega (arith, o.reaches)), finish_level l t o (omega (arith, o.reaches)), o.next)
beside_level r s t (up p l i e h q a b) =
    let o = one_reach p l e in
    omega (arith, finish_level l s o (omega (arith, o.reaches)), start_level l t o (omega (arith, o.reaches)), o.next)

last_level : level 3 ≡ 2
unfolding level
last_level = refl

two_off : AtLeast series (EndAt series 0) 3 2
unfolding AtLeast
two_off e p =
    let least = by_levels series (EndAt series 0) level (end_level 0) beside_level (λ y s t a b. omega (arith, end_level y s a, end_level y t b)) 3 e p in
    omega (arith, least, last_level)

-- ---- the runs

series_edited : Edited series_level series_higher 0 1
unfolding opened in_series rescheduled
series_edited = edited series_level series_higher 0 0 (refl, refl) (omega arith) refl tt

four_sections : sections (job_of series_level) ≡ 4
unfolding opened in_series
four_sections = refl

both_do_2 : (steps_done (job_of series_level) (after_refusal 2) ≡ 2) × (steps_done (job_of series_higher) (after_refusal 2) ≡ 2)
unfolding opened in_series
both_do_2 = (refl, refl)

bound : steps_done (job_of series_level) (after_refusal 2) ≤ 1 + 2 - 1
bound = omega (arith, both_do_2.0)

unlike_after_3 : ¬ SameAt series_level series_higher (after_refusal 3) 3
unfolding opened in_series pattern
unlike_after_3 = unlike (λ p. p.flow) series_level series_higher (after_refusal 3) 3 (λ e. omega (arith, e))

pub across_cases : Claim → AcrossCases
across_cases claim = record {
  two_off = two_off;
  through_the_node =
      (claim series_level series_higher 0 1 series_edited (after_refusal 2)).near 2 3 (both_do_2.0 ∙ sym both_do_2.1) (omega (arith, four_sections)) two_off
      bound;
  through_the_node_no_longer = unlike_after_3;
}
