-- Paths and distances, counted in reaches. Definitions only.
-- Document 01: "Neighbouring sections are one reach apart; ends at one node are no reach apart. Distances are counted so."
use Rattle.std.specs.Prelude.{◌≡◌, List, ℕ, suc, ◌+◌, ◌≤◌, ◌<◌}
use Rattle.std.proofs.Math.Option.{some}
use Rattle.std.proofs.Math.ListN.{get_elem?}
use Rattle.job.specs.Job.{Laid}

-- section s is a pipe end at node y; l is the pipe numbered p
pub data EndAt (ls : List Laid) (y s : ℕ) : Type 0 where
  starts_at : (p : ℕ) (l : Laid) → get_elem? ls p ≡ some l → l.pipe.start ≡ y → s ≡ l.first_section → EndAt ls y s
  finishes_at : (p : ℕ) (l : Laid) → get_elem? ls p ≡ some l → l.pipe.finish ≡ y → s ≡ l.first_section + l.pipe.reaches → EndAt ls y s

-- reach r lies between the neighbours s and t, whichever of the two is above
pub data Beside (ls : List Laid) (r s t : ℕ) : Type 0 where
  down : (p : ℕ) (l : Laid) (i : ℕ) → get_elem? ls p ≡ some l → i < l.pipe.reaches → r ≡ l.first_reach + i → s ≡ l.first_section + i → t ≡ l.first_section + suc i → Beside ls r s t
  up : (p : ℕ) (l : Laid) (i : ℕ) → get_elem? ls p ≡ some l → i < l.pipe.reaches → r ≡ l.first_reach + i → s ≡ l.first_section + suc i → t ≡ l.first_section + i → Beside ls r s t

-- A path of d reaches to section s. "A path from a node begins at any of its pipe ends and goes on through such neighbours and ends, either way,
-- adding up their reaches": `from` has the sections where it may begin.
pub data PathTo (ls : List Laid) (from : ℕ → Type 0) : ℕ → ℕ → Type 0 where
  begins : {s : ℕ} → from s → PathTo ls from s 0
  along : {r s t d : ℕ} → Beside ls r s t → PathTo ls from s d → PathTo ls from t (suc d)
  across : {y s t d : ℕ} → EndAt ls y s → EndAt ls y t → PathTo ls from s d → PathTo ls from t d

-- section s is at least d reaches off by every path
unfoldable pub AtLeast : List Laid → (ℕ → Type 0) → ℕ → ℕ → Type 0
AtLeast ls from s d = (e : ℕ) → PathTo ls from s e → d ≤ e

-- no path joins section s
unfoldable pub NoPath : List Laid → (ℕ → Type 0) → ℕ → Type 0
NoPath ls from s = (e : ℕ) → PathTo ls from s e → ⊥
