-- In rows cut to a pipe: what a read of a reach and of a floor asks for, CP from what the section above held, the CP of either section of a turn, and what a
-- section adds to the count of the faults. -- Assumes nothing.
use mathlib.Core.Path.{◌≡◌, ap, ◌∙◌}
use mathlib.Core.Bool.{true, cond}
use mathlib.Core.List.{List}
use Prim.Native.Nat.{ℕ, ◌+◌, ◌-◌, ◌*◌, ◌≤◌, ◌<◌}
use native.Mathlib.Omega.{arith}
use lib.ListN.{length}
use lib.Ieee.{Float}
use lib.Ieee.Scale.{finite}
use Rattle.loops.proofs.All.{all_at}
use Rattle.wave.specs.declared.HeadFlow.{HeadFlow}
use Rattle.wave.specs.Wave.{from_above}
use Rattle.job.specs.Format.{r_in}
use Rattle.recurrence.specs.Step.{AlongPipes}
use Rattle.section.specs.Faults.{floor_in, counted}
use Rattle.inner_sections.specs.declared.TwoCp.{TwoCp}
use Rattle.inner_sections.specs.InnerSections.{cp_at, two_cp_at, by_cp, sound_inner, CutToPipe, Floored}

pub in_reach :
    {friction : List ℕ} {count flowsLong : ℕ} → CutToPipe friction count flowsLong
    → (i : ℕ) → i + 1 < count → (i * 8 + 8 ≤ length friction) × (finite (r_in friction i) ≡ true)
in_reach {friction} {count} c i l = (omega arith, all_at (λ i. finite (r_in friction i)) i (count - 1) c.friction_finite (omega arith))

pub in_floors : {floors : List ℕ} {count : ℕ} → Floored floors count → (i : ℕ) → i < count → (i * 24 + 24 ≤ length floors) × (finite (floor_in floors i) ≡ true)
in_floors {floors} {count} c i l = (omega arith, all_at (λ i. finite (floor_in floors i)) i count c.floors_finite l)

-- CP along reach i, from what the section above held
pub cp_from : (w : AlongPipes) (S : Float) (i : ℕ) {cp : Float} {x : HeadFlow} → x ≡ w.old i → cp ≡ from_above S (w.friction i) x.head x.flow → cp ≡ cp_at w S i
unfolding cp_at
cp_from w S i e h = h ∙ ap (λ (x : HeadFlow). from_above S (w.friction i) x.head x.flow) e

module _ (w : AlongPipes) (S : Float) (i : ℕ) {cp : TwoCp} (e : cp ≡ two_cp_at w S i) where
  pub first_cp : cp.first ≡ cp_at w S i
  first_cp = ap (λ (t : TwoCp). t.first) e

  pub second_cp : cp.second ≡ cp_at w S (i + 1)
  second_cp = ap (λ (t : TwoCp). t.second) e

-- what a section adds to the count of the faults that is worked out from its own CP
pub adds :
    (floors : List ℕ) (w : AlongPipes) (S : Float) (i : ℕ) {cp : Float} {v : ℕ} → cp ≡ cp_at w S i → v ≡ counted (floor_in floors (i + 1)) (by_cp w S cp i)
    → v ≡ cond (sound_inner floors w S i) 0 1
adds floors w S i e h = h ∙ ap (λ (cp : Float). counted (floor_in floors (i + 1)) (by_cp w S cp i)) e
