-- Where questions 1 to 4 have a yes, the pairs and each table lie within the file. Assumes nothing.
use mathlib.Core.Path.{◌≡◌, refl}
use mathlib.Core.Bool.{Bool, true, false, cond, ◌&&◌}
use mathlib.Core.List.{List, []}
use Prim.Native.Nat.{ℕ, zero, suc, ◌+◌, ◌-◌, ◌<◌, ◌≤◌}
use native.Mathlib.Omega.{arith}
use native.Mathlib.Nat.{le_refl}
use lib.ListN.{length, take, drop, length-take, length-drop}
use lib.Dec.{leb, ltb}
use borrow.Author.Tests.{leb-true, eqb-true, lt-ltb, le-ltb}
use Rattle.loops.specs.Loops.{all_below}
use Rattle.loops.proofs.All.{all_at}
use Rattle.loops.proofs.Tests.{both}
use Rattle.job.specs.Format.{pair_count, least_pairs, most_pairs, pairs_end, offset_of, length_of, table}
use Rattle.job.specs.Questions.{begin_of, follows, size_fits, pairs_fit, tables_follow, steps_fit, pair_questions, first_no}
use Rattle.job.proofs.FirstNo.{yes}

pub record PairsRight (job : List ℕ) : Type 0 where
  pub size : size_fits job ≡ true
  pub pairs : pairs_fit job ≡ true
  pub tables : tables_follow job ≡ true
  pub steps : steps_fit job ≡ true

pub pairs_right : (job : List ℕ) → first_no pair_questions job ≡ 0 → PairsRight job
unfolding pair_questions first_no
pairs_right job h =
    let q1 = yes (size_fits job) 0 _ h in
    let q2 = yes (pairs_fit job) 1 _ q1.1 in
    let q3 = yes (tables_follow job) 2 _ q2.1 in
    let q4 = yes (steps_fit job) 3 _ q3.1 in
    record { size = q1.0; pairs = q2.0; tables = q3.0; steps = q4.0 }

pub size_least : (job : List ℕ) → size_fits job ≡ true → pairs_end least_pairs ≤ length job
unfolding size_fits
size_least job h = leb-true _ _ (both (leb (pairs_end least_pairs) (length job)) _ h).0

pub size_most : (job : List ℕ) → size_fits job ≡ true → length job ≤ 32768
unfolding size_fits
size_most job h = leb-true _ _ (both (leb (pairs_end least_pairs) (length job)) _ h).1

pub pairs_least : (job : List ℕ) → pairs_fit job ≡ true → least_pairs ≤ pair_count job
unfolding pairs_fit
pairs_least job h =
    let admitted = (both (leb least_pairs (pair_count job) && leb (pair_count job) most_pairs) _ h).0 in
    leb-true _ _ (both (leb least_pairs (pair_count job)) _ admitted).0

pub pairs_within : (job : List ℕ) → pairs_fit job ≡ true → pairs_end (pair_count job) ≤ length job
unfolding pairs_fit
pairs_within job h = leb-true _ _ (both (leb least_pairs (pair_count job) && leb (pair_count job) most_pairs) _ h).1

-- the pairs of a short file are few
pub count_short : (job : List ℕ) → PairsRight job → pair_count job < 65536
count_short job right = omega (arith, pairs_within job right.pairs, size_most job right.size)

-- tables that follow one another: each begins no later than the last ends
climb :
    (offset long begin : ℕ → ℕ) (n : ℕ) → ((k : ℕ) → k < n → offset k ≡ begin k) → ((k : ℕ) → begin (suc k) ≡ offset k + long k)
    → (d k : ℕ) → k + d ≡ n → begin k ≤ begin n
climb offset long begin n follow next zero k e = let h : k ≡ n = omega arith in rw h (le_refl _)
climb offset long begin n follow next (suc d) k e =
    let rest = climb offset long begin n follow next d (suc k) (omega arith) in
    omega (arith, rest, next k, follow k (omega arith))

module _ (job : List ℕ) (right : PairsRight job) where
  follow : (k : ℕ) → k < pair_count job → offset_of job k ≡ begin_of job k
  unfolding tables_follow follows
  follow k l = eqb-true _ _ (all_at (follows job) k (pair_count job) (both _ _ right.tables).0 l)

  last : begin_of job (pair_count job) ≡ length job
  unfolding tables_follow
  last = eqb-true _ _ (both (all_below (follows job) (pair_count job)) _ right.tables).1

  pub table_ends : (k : ℕ) → k < pair_count job → offset_of job k + length_of job k ≤ length job
  table_ends k l =
      let rises = climb (offset_of job) (length_of job) (begin_of job) (pair_count job) follow (λ i. refl) (pair_count job - suc k) (suc k) (omega arith) in
      rw (← last) rises

-- a table that has a pair, and one that has none
pub table_is : (job : List ℕ) (k : ℕ) → k < pair_count job → table job k ≡ take (length_of job k) (drop (offset_of job k) job)
unfolding table
table_is job k l = rw (lt-ltb k (pair_count job) l)

pub table_none : (job : List ℕ) (k : ℕ) → pair_count job ≤ k → table job k ≡ []
unfolding table
table_none job k l = rw (le-ltb k (pair_count job) l)

pub table_short : (job : List ℕ) → size_fits job ≡ true → (k : ℕ) → length (table job k) ≤ 32768
unfolding table
table_short job h k = go (ltb k (pair_count job))
  where
    go : (z : Bool) → length (cond z (take (length_of job k) (drop (offset_of job k) job)) []) ≤ 32768
    go true = rw (length-take, length-drop) (omega (arith, size_most job h))
    go false = omega arith
