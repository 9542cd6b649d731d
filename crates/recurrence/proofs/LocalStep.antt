-- A step carries a difference over one reach at most: what it works out at a section turns on what stands beside it. Assumes nothing.
use mathlib.Core.Path.{◌≡◌, refl, ap₂}
use mathlib.Core.List.{List, [], ◌∷◌}
use mathlib.Core.Option.{some}
use Prim.Native.Nat.{ℕ, zero, suc, pred, ◌+◌, ◌≤◌, ◌<◌}
use native.Mathlib.Omega.{arith}
use lib.Dec.{eqb}
use lib.ListN.{get_elem?}
use lib.Ieee.{Float}
use borrow.Author.Tests.{eqb-true, eqb-false}
use Rattle.wave.specs.Wave.{from_above, from_below, finish_k, start_k}
use Rattle.job.specs.Job.{Laid}
use Rattle.wave.specs.declared.Node.{Node}
use Rattle.recurrence.specs.Step.{AlongPipes, along, cp_after, cm_before, k_at_finish, k_at_start, ends_of, sums_at, head_at, located, Place, place, nowhere, at_finish, at_start, between, end_to_end, new_in, new_at}
use Rattle.recurrence.specs.Paths.{EndAt, starts_at, finishes_at, Beside, down, up}
use Rattle.loops.proofs.Tests.{cond_cong}
use Rattle.recurrence.proofs.LaidPipes.{Found, FoundAt, located_found}

-- What two steps over one layout have alike, of what the sections of `near` read.
pub record Local (ls : List Laid) (w x : AlongPipes) (nodes others : ℕ → Node) (near : ℕ → Type 0) : Type 0 where
  pub whole : (p : ℕ) (l : Laid) → get_elem? ls p ≡ some l → 1 ≤ l.pipe.reaches
  pub beside : (r s t : ℕ) → near s → Beside ls r s t → w.old t ≡ x.old t
  pub reach : (r s t : ℕ) → near s → Beside ls r s t → w.friction r ≡ x.friction r
  pub across : (y s t : ℕ) → near s → EndAt ls y s → EndAt ls y t → near t
  pub node : (y s : ℕ) → near s → EndAt ls y s → nodes y ≡ others y

-- What the ends at a node give turns on those ends alone.
pub record SameEnds {A : Type 0} (a a' b b' : Laid → A) (y : ℕ) (ls : List Laid) : Type 0 where
  pub starts : (p : ℕ) (l : Laid) → get_elem? ls p ≡ some l → l.pipe.start ≡ y → a l ≡ a' l
  pub finishes : (p : ℕ) (l : Laid) → get_elem? ls p ≡ some l → l.pipe.finish ≡ y → b l ≡ b' l

pub ends_alike : {A : Type 0} (a a' b b' : Laid → A) (y : ℕ) (ls : List Laid) → SameEnds a a' b b' y ls → ends_of a b y ls ≡ ends_of a' b' y ls
unfolding ends_of
ends_alike a a' b b' y [] h = refl
ends_alike a a' b b' y (l ∷ ls) h =
    let e = ends_alike a a' b b' y ls record { starts = λ p. h.starts (suc p); finishes = λ p. h.finishes (suc p) } in
    cond_cong (eqb l.pipe.start y)
    (λ t. ap₂ ◌∷◌ (h.starts 0 l refl (eqb-true _ _ t)) e)
    (λ _. cond_cong (eqb l.pipe.finish y) (λ t. ap₂ ◌∷◌ (h.finishes 0 l refl (eqb-true _ _ t)) e) (λ _. e))

module _ (ls : List Laid) (w x : AlongPipes) (nodes others : ℕ → Node) (near : ℕ → Type 0) (c : Local ls w x nodes others near) where
  along_alike : (q : Float → Float → Float → Float → Float) (l : Laid) (i s o : ℕ) → near s → Beside ls (l.first_reach + i) s (l.first_section + o)
      → along q w l i o ≡ along q x l i o
  unfolding along
  along_alike q l i s o n b = cc (c.beside _ _ _ n b, c.reach _ _ _ n b)

  above : (q : Float → Float → Float → Float → Float) (p : ℕ) (l : Laid) (i s : ℕ) → get_elem? ls p ≡ some l → i < l.pipe.reaches
      → s ≡ l.first_section + suc i → near s → along q w l i i ≡ along q x l i i
  above q p l i s e h at n = along_alike q l i s i n (up p l i e h refl at refl)

  below : (q : Float → Float → Float → Float → Float) (p : ℕ) (l : Laid) (i s : ℕ) → get_elem? ls p ≡ some l → i < l.pipe.reaches
      → s ≡ l.first_section + i → near s → along q w l i (suc i) ≡ along q x l i (suc i)
  below q p l i s e h at n = along_alike q l i s (suc i) n (down p l i e h refl at refl)

  start_k_lem : (p : ℕ) (l : Laid) (s : ℕ) → get_elem? ls p ≡ some l → s ≡ l.first_section → near s → k_at_start w l ≡ k_at_start x l
  unfolding k_at_start
  start_k_lem p l s e q n = let some-reach = c.whole p l e in below start_k p l 0 s e (omega arith) (omega arith) n

  finish_k_lem : (p : ℕ) (l : Laid) (s : ℕ) → get_elem? ls p ≡ some l → s ≡ l.first_section + l.pipe.reaches → near s → k_at_finish w l ≡ k_at_finish x l
  unfolding k_at_finish
  finish_k_lem p l s e q n = let some-reach = c.whole p l e in above finish_k p l (pred l.pipe.reaches) s e (omega arith) (omega arith) n

  -- a node's sums, where each of its ends is near
  pub sums_near : (y : ℕ) → ((t : ℕ) → EndAt ls y t → near t) → sums_at ls w y ≡ sums_at ls x y
  unfolding sums_at
  sums_near y n =
      let e =
      ends_alike (k_at_start w) (k_at_start x) (k_at_finish w) (k_at_finish x) y ls record {
        starts = λ p l e q. start_k_lem p l l.first_section e refl (n _ (starts_at p l e q refl));
        finishes = λ p l e q. finish_k_lem p l (l.first_section + l.pipe.reaches) e refl (n _ (finishes_at p l e q refl));
      } in
      rw e

  pub sums_alike : (y s : ℕ) → near s → EndAt ls y s → sums_at ls w y ≡ sums_at ls x y
  sums_alike y s n a = sums_near y (λ t b. c.across y s t n a b)

  head_alike : (y s : ℕ) → near s → EndAt ls y s → head_at ls w nodes y ≡ head_at ls x others y
  unfolding head_at
  head_alike y s n a = cc (c.node y s n a, sums_alike y s n a)

  new_in_lem : (l : Laid) (i s : ℕ) → near s → Found ls s l i → new_in ls w nodes l i ≡ new_in ls x others l i
  unfolding new_in end_to_end at_start at_finish between cp_after cm_before
  new_in_lem l zero s n h =
      let p = h.number in
      let q : s ≡ l.first_section = omega arith in
      cc (start_k_lem p l s h.listed q n, head_alike l.pipe.start s n (starts_at p l h.listed refl q))
  new_in_lem l (suc i) s n h =
      let p = h.number in
      cond_cong (eqb (suc i) l.pipe.reaches)
      (λ t. let r : suc i ≡ l.pipe.reaches = eqb-true _ _ t in
      let q : s ≡ l.first_section + l.pipe.reaches = omega arith in
      cc (finish_k_lem p l s h.listed q n, head_alike l.pipe.finish s n (finishes_at p l h.listed refl q)))
      (λ t. let r : ¬ (suc i ≡ l.pipe.reaches) = eqb-false _ _ t in
      cc (above from_above p l i s h.listed (omega arith) h.stands n, below from_below p l (suc i) s h.listed (omega arith) h.stands n))

  new_at_lem : (o : Place) (s : ℕ) → near s → FoundAt ls s o → new_at ls w nodes o ≡ new_at ls x others o
  unfolding new_at
  new_at_lem nowhere s n h = refl
  new_at_lem (place l i) s n h = new_in_lem l i s n h

  pub new_alike : (s : ℕ) → near s → new_at ls w nodes (located ls s) ≡ new_at ls x others (located ls s)
  new_alike s n = new_at_lem (located ls s) s n (located_found ls s)
