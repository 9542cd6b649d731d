-- The first fault of a step, looked for pipe by pipe: the first of two pieces side by side is that of the first piece, or else that of the second. Assumes
-- nothing.
use mathlib.Core.Path.{◌≡◌, refl, sym, ap, ◌∙◌}
use mathlib.Core.List.{List}
use Prim.Native.Nat.{ℕ, zero, suc, ◌+◌, ◌-◌, ◌*◌, ◌≤◌}
use native.Mathlib.Nat.{add-zero, add-suc}
use native.Mathlib.Omega.{arith}
use lib.Ieee.{Float}
use Rattle.std.specs.Prelude.{Ok, Err, ⊤}
use Rattle.wave.specs.declared.Node.{Node}
use Rattle.loops.specs.Loops.{first_below}
use Rattle.wave.specs.declared.HeadFlow.{HeadFlow}
use Rattle.job.specs.Job.{Laid}
use Rattle.job.specs.Format.{initial_table}
use Rattle.recurrence.specs.Scan.{Fault, none, fault, earlier}
use Rattle.loops.proofs.First.{first_cong}
use Rattle.section.specs.declared.Fault as Code
use Rattle.section.specs.Faults.{floor_in, fault_with, fault_at, found_fault}
use Rattle.section.proofs.Soundness.{stays}
use Rattle.pipe_layout.specs.Layout.{LaidAt}
use Rattle.node_sums.specs.FromRows.{new_section}
use Rattle.spare_ends.specs.Spare.{EndsIn}
use Rattle.step_check.specs.BySpare.{new_by_spare, fault_by_spare}
use Rattle.step_check.proofs.BySpare.{by_spare}

earlier_none : (a : Fault) → a ≡ earlier a none
unfolding earlier
earlier_none none = refl
earlier_none (fault c s) = refl

earlier_assoc : (a b c : Fault) → earlier (earlier a b) c ≡ earlier a (earlier b c)
unfolding earlier
earlier_assoc none b c = refl
earlier_assoc (fault d s) b c = refl

first_join : (v : ℕ → Fault) (a n : ℕ) → first_below earlier none v (a + n) ≡ earlier (first_below earlier none v a) (first_below earlier none (λ i. v (a + i)) n)
unfolding first_below
first_join v a zero = rw (add-zero a) (earlier_none (first_below earlier none v a))
first_join v a (suc n) = rw (add-suc a n, first_join v a n) (earlier_assoc (first_below earlier none v a) (first_below earlier none (λ i. v (a + i)) n) (v (a + n)))

-- no fault so far: what the n sections from a on show
module _ (v : ℕ → Fault) (a n : ℕ) (clear : first_below earlier none v a ≡ none) where
  pub after : {f : Fault} → f ≡ first_below earlier none (λ i. v (a + i)) n → first_below earlier none v (a + n) ≡ f
  unfolding earlier
  after piece = first_join v a n ∙ rw (clear, piece)

  -- what no fault comes before is that of all sections
  pub found : {f : Fault} → f ≡ first_below earlier none (λ i. v (a + i)) n → (m : ℕ) → a + n ≤ m → ((b : Fault) → earlier f b ≡ f)
      → f ≡ first_below earlier none v m
  found piece m h last =
      let all : a + n + (m - (a + n)) ≡ m = omega arith in
      sym (ap (first_below earlier none v) (sym all) ∙ first_join v (a + n) (m - (a + n)) ∙ rw (after piece) (last _))

  pub first_after : {x : ⊤} → found_fault (Ok x) ≡ first_below earlier none (λ i. v (a + i)) n → first_below earlier none v (a + n) ≡ none
  unfolding found_fault
  first_after piece = after piece

  pub first_found : (e : Code.Fault) → found_fault (Err e) ≡ first_below earlier none (λ i. v (a + i)) n → {m : ℕ} → a + n ≤ m
      → found_fault (Err e) ≡ first_below earlier none v m
  first_found e piece {m} h = found piece m h (stays e)

-- what a section of a pipe whose ends stand in the spare shows, by what the code has of it
pub fault_by_spare_lem :
    (job : List ℕ) (l : Laid) (spare : List Float) (at : ℕ) (heads flows : List Float) (i : ℕ) {f : Fault} {floor : Float} {x : HeadFlow}
    → f ≡ fault_with floor (l.first_section + i) x → floor ≡ floor_in (initial_table job) (l.first_section + i) → x ≡ new_by_spare job l spare at heads flows i
    → f ≡ fault_by_spare job l spare at heads flows i
fault_by_spare_lem job l spare at heads flows i ef ez ex = ef ∙ rw (ez, ex)

-- the first fault of a pipe whose ends stand in the spare, where those are the ends of a step, and the walk is at the pipe's first section
pub pipe_searched :
    (job : List ℕ) (nodes : ℕ → Node) (heads flows spare : List Float) → EndsIn job nodes heads flows spare → (p : ℕ) (l : Laid) → LaidAt job p l
    → {first : ℕ} → l.first_section ≡ first → {f : Fault} → f ≡ first_below earlier none (fault_by_spare job l spare (p * 4) heads flows) (l.pipe.reaches + 1)
    → f ≡ first_below earlier none (λ i. fault_at (initial_table job) (new_section job nodes heads flows) (first + i)) (l.pipe.reaches + 1)
unfolding fault_at
pipe_searched job nodes heads flows spare ends p l is e ef =
    ef
    ∙ rw (← e)
    (first_cong earlier none (l.pipe.reaches + 1) _ _
    (λ i b.
    let s = l.first_section + i in
    ap (fault_with (floor_in (initial_table job) s) s) (by_spare job nodes heads flows spare ends p l is i (omega arith))))
