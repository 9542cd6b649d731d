-- The heads of a chain as a walk over its pipes comes to them: what is left of the list of heads begins with the head that is carried. Assumes nothing.
use mathlib.Core.Path.{◌≡◌, refl, sym, ap, ap₂, ◌∙◌}
use mathlib.Core.Bool.{Bool, ◌&&◌}
use mathlib.Core.List.{List, ◌++◌}
use mathlib.Core.Option.{some}
use Prim.Native.Nat.{ℕ, suc, ◌+◌, ◌-◌, ◌≤◌, ◌<◌}
use native.Mathlib.Numerals.{add-one}
use native.Mathlib.Omega.{arith}
use lib.ListN.{get_elem?, get_or, drop, get_or-append}
use lib.Seq.{get_or-drop, drop-drop, drop_at}
use lib.Ieee.{Float}
use Rattle.fields.specs.Real.{zero64}
use Rattle.loops.specs.Loops.{all_below, listed}
use Rattle.loops.specs.Fill.{fill}
use Rattle.loops.proofs.All.{all_next, all_join, all_cong}
use Rattle.loops.proofs.Fill.{fill_cong, filled_more}
use Rattle.loops.proofs.Listed.{length-listed, get_or-listed}
use Rattle.job.specs.Job.{Job, Laid, laid, sections, friction_at, initial_at, floor_at}
use Rattle.job.specs.Format.{friction_table, initial_table, job_of}
use Rattle.job.specs.TableEntries.{r_of, initial_of}
use Rattle.job.specs.Questions.{Accepted}
use Rattle.job.proofs.Accepted.{pipe_limits}
use Rattle.job.proofs.WalkLaws.{left_from, sections_reaches}
use Rattle.setting.specs.Setting.{head_after, head_along, head_in, heads_from, heads_of, head_at, head_fits}

-- ---- along a pipe

pub along_none : (S : Float) (R : ℕ → Float) (Q H : Float) → H ≡ head_along S R Q H 0
unfolding head_along
along_none S R Q H = refl

pub along_more :
    (S : Float) (R : ℕ → Float) (Q H : Float) {head next : Float} (i : ℕ) → head ≡ head_along S R Q H i → next ≡ head_after S (R i) Q head
    → next ≡ head_along S R Q H (i + 1)
unfolding head_along
along_more S R Q H i h n = rw (add-one i) (n ∙ rw h)

-- the heads before offset i, and the one there
pub asked_more :
    (floor at : ℕ → Float) {head : Float} {a b : Bool} (i : ℕ) → head ≡ at i → a ≡ all_below (λ k. head_fits (floor k) (at k)) i → b ≡ head_fits (floor i) head
    → a && b ≡ all_below (λ k. head_fits (floor k) (at k)) (i + 1)
asked_more floor at i h e d = all_next (λ k. head_fits (floor k) (at k)) i e (d ∙ ap (head_fits (floor i)) h)

-- ---- R and the floors, as they are read from the tables

module _ (job : List ℕ) where
  along_is :
      {friction : List ℕ} → friction ≡ friction_table job → (l : Laid) (Q H : Float)
      → head_along l.pipe.S (λ i. r_of friction (l.first_reach + i)) Q H ≡ head_in (job_of job) Q l H
  unfolding head_in friction_at job_of
  along_is e l Q H = rw e

  floors_are : {initial : List ℕ} → initial ≡ initial_table job → (λ s. (initial_of initial s).floor) ≡ floor_at (job_of job)
  unfolding floor_at initial_at job_of
  floors_are e = rw e

  -- an accepted job has a section
  pub section_least : Accepted job → 1 ≤ sections (job_of job)
  unfolding sections
  section_least ok = omega (arith, sections_reaches (job_of job).pipes, (pipe_limits job ok).0)

-- ---- from pipe to pipe

module _ (j : Job) (L Q : Float) where
  -- A walk that has come to pipe p and section s has this head in hand: with it the heads that are left begin, and where a section is passed it is the last
  -- one's.
  pub record Carried (p s : ℕ) (head : Float) : Type 0 where
    pub left : drop s (heads_of j L Q) ≡ heads_from j Q head (drop p (laid j))
    pub last : 1 ≤ s → head ≡ head_at j L Q (s - 1)

  pub carried_none : Carried 0 0 L
  unfolding heads_of
  carried_none = record { left = refl; last = λ h. absurd (omega arith) }

  module _ {p s : ℕ} {head : Float} (c : Carried p s head) (l : Laid) (is : get_elem? (laid j) p ≡ some l) where
    -- the heads that are left, cut after this pipe
    cut : drop s (heads_of j L Q)
        ≡ listed (suc l.pipe.reaches) (head_in j Q l head) ++ heads_from j Q (head_in j Q l head l.pipe.reaches) (drop (p + 1) (laid j))
    unfolding heads_from
    cut = c.left ∙ ap (heads_from j Q head) (left_from (laid j) p is)

    -- the heads of this pipe
    here : (i : ℕ) → i < suc l.pipe.reaches → head_at j L Q (s + i) ≡ head_in j Q l head i
    unfolding head_at
    here i h =
        let own = listed (suc l.pipe.reaches) (head_in j Q l head) in
        sym (get_or-drop s (heads_of j L Q) i zero64)
        ∙ ap (λ (x : List Float). get_or x i zero64) cut
        ∙ get_or-append own _ zero64 i (omega (arith, length-listed (suc l.pipe.reaches) (head_in j Q l head)))
        ∙ get_or-listed (suc l.pipe.reaches) (head_in j Q l head) i zero64 h

    -- past this pipe
    carried_more : Carried (p + 1) (s + l.pipe.reaches + 1) (head_in j Q l head l.pipe.reaches)
    carried_more = record {
      left =
          let n : s + l.pipe.reaches + 1 ≡ s + suc l.pipe.reaches = omega arith in
          rw n (sym (drop-drop (suc l.pipe.reaches) s (heads_of j L Q)) ∙ ap (drop (suc l.pipe.reaches)) cut
          ∙ drop_at (listed (suc l.pipe.reaches) (head_in j Q l head)) _ (suc l.pipe.reaches) (length-listed (suc l.pipe.reaches) (head_in j Q l head)));
      last = λ h. let n : s + l.pipe.reaches + 1 - 1 ≡ s + l.pipe.reaches = omega arith in rw n (sym (here l.pipe.reaches (omega arith)));
    }

    -- a test of the heads up to this pipe, and of this pipe's
    tests_more :
        (floor : ℕ → Float) {a b : Bool} → a ≡ all_below (λ k. head_fits (floor k) (head_at j L Q k)) s
        → b ≡ all_below (λ i. head_fits (floor (s + i)) (head_in j Q l head i)) (suc l.pipe.reaches)
        → a && b ≡ all_below (λ k. head_fits (floor k) (head_at j L Q k)) (s + l.pipe.reaches + 1)
    tests_more floor e d =
        let n : s + l.pipe.reaches + 1 ≡ s + suc l.pipe.reaches = omega arith in
        rw (n, e, d)
        (ap (λ (t : Bool). all_below (λ k. head_fits (floor k) (head_at j L Q k)) s && t)
        (all_cong (suc l.pipe.reaches) (λ i. head_fits (floor (s + i)) (head_in j Q l head i)) (λ i. head_fits (floor (s + i)) (head_at j L Q (s + i)))
        (λ i h. ap (head_fits (floor (s + i))) (sym (here i h))))
        ∙ sym (all_join (λ k. head_fits (floor k) (head_at j L Q k)) s (suc l.pipe.reaches)))

    -- this pipe's heads, stored one after the other
    stored_here : (row : List Float) → fill (head_in j Q l head) row s (l.pipe.reaches + 1) ≡ fill (λ i. head_at j L Q (s + i)) row s (l.pipe.reaches + 1)
    stored_here row = fill_cong _ _ row s (l.pipe.reaches + 1) (λ i h. sym (here i (omega arith)))

-- ---- past a pipe, as the code has it in hand

-- a row filled up to a pipe, and then with this pipe's entries
pub filled_pipe :
    (f : ℕ → Float) (row : List Float) (s n : ℕ) {from : ℕ} {old new : List Float} → from ≡ s → old ≡ fill f row 0 s
    → new ≡ fill (λ i. f (s + i)) old from (n + 1) → new ≡ fill f row 0 (s + n + 1)
filled_pipe f row s n b e d = let m : s + n + 1 ≡ s + (n + 1) = omega arith in rw m (filled_more f row s (n + 1) b e d)

module _ (job : List ℕ) (L Q : Float) {friction : List ℕ} (table-3 : friction ≡ friction_table job) (l : Laid) where
  abbrev j : Job
  j = job_of job

  -- whether section k passes
  abbrev test : ℕ → Bool
  test k = head_fits (floor_at j k) (head_at j L Q k)

  -- the heads of this pipe
  abbrev along : Float → ℕ → Float
  along head = head_along l.pipe.S (λ i. r_of friction (l.first_reach + i)) Q head

  module _ {p s : ℕ} {head : Float} (c : Carried j L Q p s head) (is : get_elem? (laid j) p ≡ some l) (first : l.first_section ≡ s) where
    pub carried_on : {next : Float} → next ≡ along head l.pipe.reaches → Carried j L Q (p + 1) (s + l.pipe.reaches + 1) next
    carried_on e = rw (e ∙ ap (λ (f : ℕ → Float). f l.pipe.reaches) (along_is job table-3 l Q head)) (carried_more j L Q c l is)

    pub tested_on :
        {initial : List ℕ} → initial ≡ initial_table job → {a b : Bool} → a ≡ all_below test s
        → b ≡ all_below (λ i. head_fits (initial_of initial (l.first_section + i)).floor (along head i)) (suc l.pipe.reaches)
        → a && b ≡ all_below test (s + l.pipe.reaches + 1)
    tested_on {initial} table-4 e d =
        tests_more j L Q c l is (floor_at j) e
        (d ∙ ap (λ (from : ℕ). all_below (λ i. head_fits (initial_of initial (from + i)).floor (along head i)) (suc l.pipe.reaches)) first
        ∙ ap₂ (λ (f g : ℕ → Float). all_below (λ i. head_fits (f (s + i)) (g i)) (suc l.pipe.reaches)) (floors_are job table-4) (along_is job table-3 l Q head))

    pub heads_on :
        (row : List Float) {old new : List Float} → old ≡ fill (head_at j L Q) row 0 s → new ≡ fill (along head) old l.first_section (l.pipe.reaches + 1)
        → new ≡ fill (head_at j L Q) row 0 (s + l.pipe.reaches + 1)
    heads_on row {old} e d =
        filled_pipe (head_at j L Q) row s l.pipe.reaches refl e
        (d ∙ ap₂ (λ (f : ℕ → Float) (from : ℕ). fill f old from (l.pipe.reaches + 1)) (along_is job table-3 l Q head) first ∙ stored_here j L Q c l is old)
