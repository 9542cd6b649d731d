-- The sums of the nodes, one pipe at a time: a pipe's two ends are added to the sums of the pipes before it. Assumes nothing.
use mathlib.Core.Path.{◌≡◌, refl, sym, ap, ◌∙◌}
use mathlib.Core.Bool.{Bool, true, false, cond}
use mathlib.Core.List.{List, [], ◌∷◌}
use Prim.Native.Nat.{ℕ, zero, suc, ◌+◌, ◌<◌}
use native.Mathlib.Numerals.{add-one}
use lib.Dec.{eqb, eqb-zero-suc, eqb-suc-zero, eqb-suc-suc}
use lib.ListN.{get_or, set, take, replicate}
use lib.Ieee.{Float}
use borrow.Author.Tests.{eqb-true, eqb-false}
use Rattle.fields.specs.Real.{◌⊞◌, zero64}
use Rattle.wave.specs.declared.Sums.{Sums}
use Rattle.wave.specs.Wave.{sum_from, sums_of}
use Rattle.wave.specs.Adding.{no_sums, with_k, with_s}
use Rattle.loops.specs.Loops.{listed}
use Rattle.loops.proofs.Listed.{get_or-listed, listed_cong}
use Rattle.job.specs.Job.{Laid, laid}
use Rattle.job.specs.Format.{job_of, pipe_table, pipe_count}
use Rattle.job.specs.Questions.{Accepted}
use Rattle.recurrence.specs.Step.{k_at_start, k_at_finish, ends_of, sums_at}
use Rattle.recurrence.proofs.StepLaws.{with_pipe, sum_next}
use Rattle.pipe_layout.specs.Layout.{LaidAt}
use Rattle.pipe_layout.proofs.Acceptance.{laid_all, within}
use Rattle.node_sums.specs.FromRows.{along_rows, constant_sums, node_sums}

-- a list given by a function, with one entry stored
pub set-listed : {A : Type 0} (n : ℕ) (f : ℕ → A) (i : ℕ) (v : A) → set (listed n f) i v ≡ listed n (λ k. cond (eqb i k) v (f k))
unfolding listed
set-listed zero f i v = refl
set-listed (suc n) f zero v = ap (λ r. v ∷ r) (listed_cong n _ _ (λ k _. rw (eqb-zero-suc k)))
set-listed (suc n) f (suc i) v =
    rw (eqb-suc-zero i)
    (ap (λ r. f 0 ∷ r) (set-listed n (λ k. f (suc k)) i v ∙ listed_cong n _ _ (λ k _. rw (eqb-suc-suc i k))))

module _ {A : Type 0} (add : A → Float → A) where
  -- an entry of the list added to
  add_at : (n : ℕ) (g : ℕ → A) (s : ℕ) (x : Float) (d : A) → s < n
      → set (listed n g) s (add (get_or (listed n g) s d) x) ≡ listed n (λ k. cond (eqb s k) (add (g k) x) (g k))
  add_at n g s x d h =
      rw (get_or-listed n g s d h) (set-listed n g s (add (g s) x) ∙ listed_cong n _ _ (λ k _. go k (eqb s k) refl))
    where
      go : (k : ℕ) (c : Bool) → eqb s k ≡ c → cond c (add (g s) x) (g k) ≡ cond c (add (g k) x) (g k)
      go k true e = rw (eqb-true s k e)
      go k false e = refl

  -- two ends apart: a node has one of them at most
  ends_apart : (v : A) (s f k : ℕ) (x y : Float) → eqb s f ≡ false
      → cond (eqb f k) (add (cond (eqb s k) (add v x) v) y) (cond (eqb s k) (add v x) v) ≡ cond (eqb s k) (add v x) (cond (eqb f k) (add v y) v)
  ends_apart v s f k x y h = go (eqb s k) refl (eqb f k) refl
    where
      go : (a : Bool) → eqb s k ≡ a → (b : Bool) → eqb f k ≡ b
          → cond b (add (cond a (add v x) v) y) (cond a (add v x) v) ≡ cond a (add v x) (cond b (add v y) v)
      go true p true q = absurd (eqb-false s f h (eqb-true s k p ∙ sym (eqb-true f k q)))
      go true p false q = refl
      go false p b q = refl

-- a row of 32 nodes, where the entry of each has the sum over its ends
module _ {A : Type 0} (entry : ℕ → Float → A) (a b : Laid → Float) where
  unfoldable pub summed : List Laid → List A
  summed ls = listed 32 (λ node. entry node (sum_from zero64 (ends_of a b node ls)))

  module _ (job : List ℕ) (ok : Accepted job) (p : ℕ) where
    -- with the ends of the next pipe l
    pub sums_more :
        (add : A → Float → A) → ((node : ℕ) (x k : Float) → add (entry node x) k ≡ entry node (x ⊞ k)) → (d : A) (l : Laid) → LaidAt job p l
        → {sums : List A} {u v : A} {x y : Float} → sums ≡ summed (take p (laid (job_of job)))
        → u ≡ add (get_or sums l.pipe.start d) x → v ≡ add (get_or (set sums l.pipe.start u) l.pipe.finish d) y → x ≡ a l → y ≡ b l
        → set (set sums l.pipe.start u) l.pipe.finish v ≡ summed (take (p + 1) (laid (job_of job)))
    unfolding summed with_pipe
    sums_more add adds d l is {x = x} {y = y} e eu ev ex ey =
        let here = within job ok p l is in
        let ls = laid (job_of job) in
        let X : ℕ → Float = λ k. sum_from zero64 (ends_of a b k (take p ls)) in
        let g : ℕ → A = λ k. entry k (X k) in
        let s = l.pipe.start in
        let f = l.pipe.finish in
        rw (ev, eu, e, add_at add 32 g s x d here.start_low)
        (add_at add 32 (λ k. cond (eqb s k) (add (g k) x) (g k)) f y d here.finish_low
        ∙ listed_cong 32 _ _
        (λ k _. ends_apart add (g k) s f k x y here.apart
        ∙ go k (X k) (eqb s k) (eqb f k)
        ∙ rw (add-one p, ex, ey) (ap (entry k) (sym (sum_next a b k ls p l zero64 is)))))
      where
        go : (k : ℕ) (z : Float) (c d : Bool) → cond c (add (entry k z) x) (cond d (add (entry k z) y) (entry k z)) ≡ entry k (cond c (z ⊞ x) (cond d (z ⊞ y) z))
        go k z true d = adds k z x
        go k z false true = adds k z y
        go k z false false = refl

    -- after every pipe
    pub sums_all : {sums : List A} → sums ≡ summed (take p (laid (job_of job))) → pipe_count (pipe_table job) ≡ p → sums ≡ summed (laid (job_of job))
    sums_all h e = h ∙ rw (← e, laid_all job ok)

-- ---- T with +0 for B, and then B

-- T of a node, and the sums of a node that has it
abbrev pub t_of : List ℕ → ℕ → Float
t_of job node = sum_from zero64 (ends_of (λ l. l.pipe.S) (λ l. l.pipe.S) node (laid (job_of job)))

abbrev pub only_t : ℕ → Float → Sums
only_t node T = record { b = zero64; t = T }

abbrev pub with_t : List ℕ → ℕ → Float → Sums
with_t job node B = record { b = B; t = t_of job node }

pub t_adds : (node : ℕ) (x S : Float) → with_s (only_t node x) S ≡ only_t node (x ⊞ S)
unfolding with_s
t_adds node x S = refl

pub b_adds : (job : List ℕ) (node : ℕ) (x K : Float) → with_k (with_t job node x) K ≡ with_t job node (x ⊞ K)
unfolding with_k
b_adds job node x K = refl

-- before any pipe each sum is +0
pub t_none : replicate 32 no_sums ≡ summed only_t (λ l. l.pipe.S) (λ l. l.pipe.S) []
unfolding summed ends_of sum_from listed no_sums
t_none = refl

pub t_all : (job : List ℕ) → summed only_t (λ l. l.pipe.S) (λ l. l.pipe.S) (laid (job_of job)) ≡ constant_sums job
unfolding summed constant_sums sums_of sum_from
t_all job = refl

-- before any pipe B of each node is +0
pub b_none : (job : List ℕ) (a b : Laid → Float) → constant_sums job ≡ summed (with_t job) a b []
unfolding summed constant_sums sums_of ends_of sum_from
b_none job a b = refl

pub b_all :
    (job : List ℕ) (heads flows : List Float)
    → summed (with_t job) (k_at_start (along_rows job heads flows)) (k_at_finish (along_rows job heads flows)) (laid (job_of job)) ≡ node_sums job heads flows
unfolding summed node_sums sums_at sums_of
b_all job heads flows = refl
