-- The spare, pipe by pipe: what is stored for a pipe leaves the pipes before it and all that comes after it as they were. Assumes nothing.
use mathlib.Core.Path.{◌≡◌, ◌∙◌}
use mathlib.Core.Logic.{⊎_elim}
use mathlib.Core.List.{List}
use Prim.Native.Nat.{ℕ, ◌+◌, ◌-◌, ◌*◌, ◌≤◌, ◌<◌}
use native.Mathlib.Nat.{not-suc-le-zero, eq-or-lt_of_le}
use native.Mathlib.Omega.{arith}
use lib.ListN.{length, get_or, set, drop, length-set}
use lib.Seq.{get_or-set_same, get_or-set_other, get_or-drop, drop-drop, drop-set-lt}
use lib.Ieee.{Float, nan}
use Rattle.wave.specs.declared.HeadFlow.{HeadFlow}
use Rattle.wave.specs.declared.Node.{Node}
use Rattle.job.specs.Job.{Laid}
use Rattle.job.specs.Questions.{Accepted}
use Rattle.recurrence.specs.Step.{k_at_start, k_at_finish, at_start, at_finish}
use Rattle.pipe_layout.specs.Layout.{LaidAt}
use Rattle.pipe_layout.proofs.Acceptance.{within}
use Rattle.node_sums.specs.FromRows.{along_rows, OverNodes, node_head_at}
use Rattle.spare_ends.specs.Spare.{end_in, with_ends, EachPipe, KTo, KIn, start_by, finish_by, EndsByKTo, EndsByK, EndsIn}

-- ---- laws of any list, and of any fact of the first numbers

-- of no pipe, and of one pipe more: what is told of pipe m holds of it alone
none_of : (job : List ℕ) (fact : ℕ → Laid → Type 0) → EachPipe job 0 fact
none_of job fact p h = absurd (not-suc-le-zero h)

one_more : (job : List ℕ) (fact : ℕ → Laid → Type 0) (m : ℕ) → EachPipe job m fact → (l : Laid) → LaidAt job m l → fact m l → EachPipe job (m + 1) fact
one_more job fact m so l is here p h o at =
    let k : p ≤ m = omega arith in
    ⊎_elim (λ e. let same : o ≡ l = only e at in rw (e, same) here) (λ low. so p low o at) (eq-or-lt_of_le k)
  where
    only : p ≡ m → LaidAt job p o → o ≡ l
    only e at = let w : LaidAt job m o = rw e at at in cc (w, is)

module _ {A : Type 0} (old new : List A) (m : ℕ) (same : drop m new ≡ drop m old) where
  -- lists that are alike from m on are alike from any later place on
  drop_later : (n : ℕ) → m ≤ n → drop n new ≡ drop n old
  drop_later n h =
      let e : n ≡ m + (n - m) = omega arith in
      rw (e, ← drop-drop (n - m) m new, same) (drop-drop (n - m) m old)

  read_later : (i : ℕ) (d : A) → get_or new (m + i) d ≡ get_or old (m + i) d
  read_later i d = rw (← get_or-drop m new i d, same) (get_or-drop m old i d)

-- ---- K of a pipe's two ends

module _ (l : List Float) (at : ℕ) (x y : Float) where
  abbrev with_k : List Float
  with_k = set (set l (at + 1) x) (at + 3) y

  k_before : (j : ℕ) → j < at → get_or with_k j nan ≡ get_or l j nan
  k_before j h = get_or-set_other (set l (at + 1) x) (at + 3) j y nan (λ e. omega arith) ∙ get_or-set_other l (at + 1) j x nan (λ e. omega arith)

  k_after : (n : ℕ) → at + 4 ≤ n → drop n with_k ≡ drop n l
  k_after n h = drop-set-lt n (set l (at + 1) x) (at + 3) y (omega arith) ∙ drop-set-lt n l (at + 1) x (omega arith)

  module _ (h : at + 4 ≤ length l) where
    k_start : get_or with_k (at + 1) nan ≡ x
    k_start = get_or-set_other (set l (at + 1) x) (at + 3) (at + 1) y nan (λ e. omega arith) ∙ get_or-set_same l (at + 1) x nan (omega arith)

    k_finish : get_or with_k (at + 3) nan ≡ y
    k_finish = get_or-set_same (set l (at + 1) x) (at + 3) y nan (simp length-set (omega arith))

module _ (job : List ℕ) (heads flows : List Float) where
  pub k_none : (spare : List Float) → KTo job heads flows spare 0
  k_none spare = record { at_the_start = none_of job _; at_the_finish = none_of job _ }

  pub k_more :
      (spare : List Float) (m : ℕ) (l : Laid) (x y : Float) → m * 4 + 4 ≤ length spare → KTo job heads flows spare m → LaidAt job m l
      → x ≡ k_at_start (along_rows job heads flows) l → y ≡ k_at_finish (along_rows job heads flows) l → KTo job heads flows (with_k spare (m * 4) x y) (m + 1)
  k_more spare m l x y room u is ex ey =
      record {
        at_the_start =
            one_more job _ m (λ p h o at. k_before spare (m * 4) x y (p * 4 + 1) (omega arith) ∙ u.at_the_start p h o at) l is (k_start spare (m * 4) x y room ∙ ex);
        at_the_finish =
            one_more job _ m (λ p h o at. k_before spare (m * 4) x y (p * 4 + 3) (omega arith) ∙ u.at_the_finish p h o at) l is (k_finish spare (m * 4) x y room ∙ ey);
      }

pub k_rest : (before spare : List Float) (m : ℕ) (x y : Float) → drop (m * 4) spare ≡ drop (m * 4) before
    → drop ((m + 1) * 4) (with_k spare (m * 4) x y) ≡ drop ((m + 1) * 4) before
k_rest before spare m x y same =
    k_after spare (m * 4) x y ((m + 1) * 4) (omega arith) ∙ drop_later before spare (m * 4) same ((m + 1) * 4) (omega arith)

-- ---- head and flow at a pipe's two ends

module _ (l : List Float) (at : ℕ) (start finish : HeadFlow) where
  ends_before : (j : ℕ) → j < at → get_or (with_ends l at start finish) j nan ≡ get_or l j nan
  ends_before j h =
      let a = set l at start.head in
      let b = set a (at + 1) start.flow in
      let c = set b (at + 2) finish.head in
      get_or-set_other c (at + 3) j finish.flow nan (λ e. omega arith)
      ∙ get_or-set_other b (at + 2) j finish.head nan (λ e. omega arith)
      ∙ get_or-set_other a (at + 1) j start.flow nan (λ e. omega arith)
      ∙ get_or-set_other l at j start.head nan (λ e. omega arith)

  end_before : (j : ℕ) → j + 1 < at → end_in (with_ends l at start finish) j ≡ end_in l j
  end_before j h =
      let a = ends_before j (omega arith) in
      let b = ends_before (j + 1) (omega arith) in
      λ i. record { head = a i; flow = b i }

  ends_after : (n : ℕ) → at + 4 ≤ n → drop n (with_ends l at start finish) ≡ drop n l
  ends_after n h =
      let a = set l at start.head in
      let b = set a (at + 1) start.flow in
      let c = set b (at + 2) finish.head in
      drop-set-lt n c (at + 3) finish.flow (omega arith)
      ∙ drop-set-lt n b (at + 2) finish.head (omega arith)
      ∙ drop-set-lt n a (at + 1) start.flow (omega arith)
      ∙ drop-set-lt n l at start.head (omega arith)

  module _ (room : at + 4 ≤ length l) where
    start_is : end_in (with_ends l at start finish) at ≡ start
    start_is =
        let a = set l at start.head in
        let b = set a (at + 1) start.flow in
        let c = set b (at + 2) finish.head in
        let h : get_or (with_ends l at start finish) at nan ≡ start.head =
        get_or-set_other c (at + 3) at finish.flow nan (λ e. omega arith)
        ∙ get_or-set_other b (at + 2) at finish.head nan (λ e. omega arith)
        ∙ get_or-set_other a (at + 1) at start.flow nan (λ e. omega arith)
        ∙ get_or-set_same l at start.head nan (omega arith) in
        let q : get_or (with_ends l at start finish) (at + 1) nan ≡ start.flow =
        get_or-set_other c (at + 3) (at + 1) finish.flow nan (λ e. omega arith)
        ∙ get_or-set_other b (at + 2) (at + 1) finish.head nan (λ e. omega arith)
        ∙ get_or-set_same a (at + 1) start.flow nan (simp length-set (omega arith)) in
        λ i. record { head = h i; flow = q i }

    finish_is : end_in (with_ends l at start finish) (at + 2) ≡ finish
    finish_is =
        let a = set l at start.head in
        let b = set a (at + 1) start.flow in
        let c = set b (at + 2) finish.head in
        let last : at + 2 + 1 ≡ at + 3 = omega arith in
        let h : get_or (with_ends l at start finish) (at + 2) nan ≡ finish.head =
        get_or-set_other c (at + 3) (at + 2) finish.flow nan (λ e. omega arith)
        ∙ get_or-set_same b (at + 2) finish.head nan (simp length-set (omega arith)) in
        let q : get_or (with_ends l at start finish) (at + 2 + 1) nan ≡ finish.flow =
        rw last (get_or-set_same c (at + 3) finish.flow nan (simp length-set (omega arith))) in
        λ i. record { head = h i; flow = q i }

module _ (job : List ℕ) (nodes before : List Float) where
  pub ends_none : (spare : List Float) → EndsByKTo job nodes before spare 0
  ends_none spare = record { at_the_start = none_of job _; at_the_finish = none_of job _ }

  module _ (spare : List Float) (m : ℕ) (l : Laid) {new : List Float} (same : drop (m * 4) spare ≡ drop (m * 4) before)
      (is : new ≡ with_ends spare (m * 4) (start_by nodes spare m l) (finish_by nodes spare m l)) where
    -- K of the pipe is read as it was before the first pipe
    pub ends_more : m * 4 + 4 ≤ length spare → LaidAt job m l → EndsByKTo job nodes before spare m → EndsByKTo job nodes before new (m + 1)
    ends_more room here u =
        let start = start_by nodes spare m l in
        let finish = finish_by nodes spare m l in
        rw is
        (record {
          at_the_start =
              one_more job _ m (λ p h o at. end_before spare (m * 4) start finish (p * 4) (omega arith) ∙ u.at_the_start p h o at) l here
              (start_is spare (m * 4) start finish room ∙ rw (read_later before spare (m * 4) same 1 nan));
          at_the_finish =
              one_more job _ m (λ p h o at. end_before spare (m * 4) start finish (p * 4 + 2) (omega arith) ∙ u.at_the_finish p h o at) l here
              (finish_is spare (m * 4) start finish room ∙ rw (read_later before spare (m * 4) same 3 nan));
        })

    pub ends_rest : drop ((m + 1) * 4) new ≡ drop ((m + 1) * 4) before
    ends_rest =
        rw is
        (ends_after spare (m * 4) (start_by nodes spare m l) (finish_by nodes spare m l) ((m + 1) * 4) (omega arith)
        ∙ drop_later before spare (m * 4) same ((m + 1) * 4) (omega arith))

-- ---- the ends by K and the heads of the nodes are the recurrence's

pub ends_in :
    (job : List ℕ) (ok : Accepted job) (nodes : ℕ → Node) (heads flows : List Float) {row before after : List Float}
    → OverNodes job (node_head_at job nodes heads flows) row → KIn job heads flows before → EndsByK job row before after → EndsIn job nodes heads flows after
unfolding at_start at_finish
ends_in job ok nodes heads flows is ks ends =
    let head = is.at in
    record {
      at_the_start = λ p l at.
          let here = within job ok p l at in
          ends.at_the_start p here.present l at ∙ rw (ks.at_the_start p here.present l at, head l.pipe.start here.joined.start_present);
      at_the_finish = λ p l at.
          let here = within job ok p l at in
          ends.at_the_finish p here.present l at ∙ rw (ks.at_the_finish p here.present l at, head l.pipe.finish here.joined.finish_present);
    }
