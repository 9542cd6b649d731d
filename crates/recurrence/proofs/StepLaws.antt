-- The points and drives of a step, as a sweep over the pipes works them out: by pipe and offset, and the sums one pipe at a time; and what overwrites
-- what came before it, one at a time. Assumes nothing.
use mathlib.Core.Path.{◌≡◌, refl}
use mathlib.Core.Bool.{Bool, true, false, cond}
use mathlib.Core.List.{List, [], ◌∷◌}
use mathlib.Core.Option.{some}
use Prim.Native.Nat.{ℕ, zero, suc, ◌<◌}
use lib.Dec.{eqb}
use lib.ListN.{length, get_elem?, take}
use lib.Ieee.{Float}
use Rattle.fields.specs.Real.{◌⊞◌}
use Rattle.wave.specs.Wave.{sum_from}
use Rattle.job.specs.Job.{Job, Laid, laid, sections}
use Rattle.recurrence.specs.State.{State, no_point, no_drive, point_at, drive_at}
use Rattle.recurrence.specs.Step.{along_pipes, last_that, value_at, nodes_with, new_drive, ends_of, new_point, advanced}
use Rattle.loops.proofs.Listed.{get_or-listed}

-- ---- the new points

module _ (j : Job) (n : ℕ) (st : State) where
  pub advanced_at : (s : ℕ) → s < sections j → point_at (advanced j n st) s ≡ new_point (laid j) (along_pipes j st) (nodes_with j (value_at j n st)) st s
  unfolding advanced point_at
  advanced_at s h = get_or-listed (sections j) (new_point (laid j) (along_pipes j st) (nodes_with j (value_at j n st)) st) s no_point h

  pub driven_at_lem : (y : ℕ) → y < length j.nodes → drive_at (advanced j n st) y ≡ new_drive j (laid j) (along_pipes j st) (value_at j n st) y
  unfolding advanced drive_at
  driven_at_lem y h = get_or-listed (length j.nodes) (new_drive j (laid j) (along_pipes j st) (value_at j n st)) y no_drive h

-- ---- a walk that overwrites: the last that passes

pub last_next :
    {T A : Type 0} (passes : T → Bool) (of : T → A) (x : A) (ts : List T) (p : ℕ) (t : T) → get_elem? ts p ≡ some t
    → last_that passes of x (take (suc p) ts) ≡ cond (passes t) (of t) (last_that passes of x (take p ts))
unfolding last_that
last_next passes of x [] p t e = cc
last_next passes of x (o ∷ ts) zero t e = let w : o ≡ t = cc in rw w
last_next passes of x (o ∷ ts) (suc p) t e = last_next passes of (cond (passes o) (of o) x) ts p t e

-- ---- a node's sums

-- what pipe l adds to the sum x at node y
unfoldable pub with_pipe : (Laid → Float) → (Laid → Float) → ℕ → Laid → Float → Float
with_pipe a b y l x = cond (eqb l.pipe.start y) (x ⊞ a l) (cond (eqb l.pipe.finish y) (x ⊞ b l) x)

pub sum_next : (a b : Laid → Float) (y : ℕ) (ls : List Laid) (p : ℕ) (l : Laid) (x : Float) → get_elem? ls p ≡ some l
    → sum_from x (ends_of a b y (take (suc p) ls)) ≡ with_pipe a b y l (sum_from x (ends_of a b y (take p ls)))
unfolding ends_of with_pipe sum_from
sum_next a b y [] p l x e = cc
sum_next a b y (o ∷ ls) zero l x e = let w : o ≡ l = cc in rw (← w) (go (eqb o.pipe.start y) (eqb o.pipe.finish y))
  where
    go : (c d : Bool) → sum_from x (cond c (a o ∷ []) (cond d (b o ∷ []) [])) ≡ cond c (x ⊞ a o) (cond d (x ⊞ b o) x)
    go true d = refl
    go false true = refl
    go false false = refl
sum_next a b y (o ∷ ls) (suc p) l x e =
    go (eqb o.pipe.start y) (eqb o.pipe.finish y) (ends_of a b y (take (suc p) ls)) (ends_of a b y (take p ls)) (λ z. sum_next a b y ls p l z e)
  where
    go : (c d : Bool) (more less : List Float) → ((z : Float) → sum_from z more ≡ with_pipe a b y l (sum_from z less))
        → sum_from x (cond c (a o ∷ more) (cond d (b o ∷ more) more)) ≡ with_pipe a b y l (sum_from x (cond c (a o ∷ less) (cond d (b o ∷ less) less)))
    go true d more less h = h (x ⊞ a o)
    go false true more less h = h (x ⊞ b o)
    go false false more less h = h x
