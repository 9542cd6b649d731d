-- What a commit in place works out from rows whose first inner sections it has overwritten: what it reads still stands as it was, and CP was carried, so
-- that the sections that it stores are the pipe's own. Assumes nothing.
use mathlib.Core.Path.{◌≡◌, ap}
use mathlib.Core.List.{List}
use Prim.Native.Nat.{ℕ, zero, suc, ◌+◌, ◌<◌, ◌≤◌}
use native.Mathlib.Omega.{arith}
use lib.Ieee.{Float}
use Rattle.section.specs.SectionRows.{two_of, SteppedRows}
use Rattle.section.proofs.RowLaws.{SteppedTo, stepped_more, stepped_one_more, heads_kept, flows_kept}
use Rattle.inner_sections.specs.declared.TwoCp.{TwoCp}
use Rattle.inner_sections.specs.InnerSections.{one_pipe, cp_at, cm_at, two_cp_at, by_cp, two_by_cp, inner_at}

module _ (friction : List ℕ) (S : Float) {heads flows highest lowest nowHeads nowFlows nowHighest nowLowest : List Float} {n : ℕ}
    (u : SteppedTo (inner_at (one_pipe friction heads flows) S) 1 n heads flows highest lowest nowHeads nowFlows nowHighest nowLowest) where
  -- of a section that is not overwritten yet: its CP, and itself by the CP carried to it
  same_cp : (i : ℕ) → 1 + n ≤ i → cp_at (one_pipe friction nowHeads nowFlows) S i ≡ cp_at (one_pipe friction heads flows) S i
  unfolding cp_at
  same_cp i b = rw (heads_kept u i b, flows_kept u i b)

  own : (i : ℕ) {cp : Float} → n ≤ i → cp ≡ cp_at (one_pipe friction heads flows) S i → by_cp (one_pipe friction nowHeads nowFlows) S cp i ≡ inner_at (one_pipe friction heads flows) S i
  unfolding cm_at
  own i b e = rw (e, heads_kept u (i + 2) (omega arith), flows_kept u (i + 2) (omega arith))

  -- one section more
  pub one_more :
      {cp : Float} {newHeads newFlows newHighest newLowest : List Float} → cp ≡ cp_at (one_pipe friction heads flows) S n
      → SteppedRows (λ (k : ℕ). by_cp (one_pipe friction nowHeads nowFlows) S cp n) (n + 1) 1 nowHeads nowFlows nowHighest nowLowest newHeads newFlows newHighest newLowest
      → SteppedTo (inner_at (one_pipe friction heads flows) S) 1 (n + 1) heads flows highest lowest newHeads newFlows newHighest newLowest
  one_more e w = stepped_one_more u (omega arith) (own n (omega arith) e) w

  -- two sections more, and the CP of the two after them
  two_own :
      (cp : TwoCp) → cp ≡ two_cp_at (one_pipe friction heads flows) S n → (j : ℕ) → j < 2
      → two_by_cp (one_pipe friction nowHeads nowFlows) S cp n j ≡ inner_at (one_pipe friction heads flows) S (n + j)
  unfolding two_of
  two_own cp e zero b =
      let p : n + 0 ≡ n = omega arith in
      rw p (own n (omega arith) (ap (λ (t : TwoCp). t.first) e))
  two_own cp e (suc j) b =
      let p : n + suc j ≡ n + 1 = omega arith in
      rw p (own (n + 1) (omega arith) (ap (λ (t : TwoCp). t.second) e))

  pub two_more :
      {cp : TwoCp} {newHeads newFlows newHighest newLowest : List Float} → cp ≡ two_cp_at (one_pipe friction heads flows) S n
      → SteppedRows (two_by_cp (one_pipe friction nowHeads nowFlows) S cp n) (n + 1) 2 nowHeads nowFlows nowHighest nowLowest newHeads newFlows newHighest newLowest
      → SteppedTo (inner_at (one_pipe friction heads flows) S) 1 (n + 2) heads flows highest lowest newHeads newFlows newHighest newLowest
  two_more {cp} e w = stepped_more u _ 2 (omega arith) (two_own cp e) w

  pub next_cp : {next : TwoCp} → next ≡ two_cp_at (one_pipe friction nowHeads nowFlows) S (n + 2) → next ≡ two_cp_at (one_pipe friction heads flows) S (n + 2)
  next_cp h = rw (← same_cp (n + 2) (omega arith), ← same_cp (n + 2 + 1) (omega arith)) h
