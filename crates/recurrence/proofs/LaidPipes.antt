-- Each section below the count stands in one laid pipe, where the definitions look for it. Assumes nothing.
use mathlib.Core.Path.{◌≡◌, refl, ap}
use mathlib.Core.Bool.{Bool, true, false, cond, ◌&&◌}
use mathlib.Core.List.{List, [], ◌∷◌}
use mathlib.Core.Option.{some}
use Prim.Native.Nat.{ℕ, zero, suc, ◌+◌, ◌-◌, ◌≤◌, ◌<◌}
use native.Mathlib.Numerals.{add-one}
use native.Mathlib.Omega.{arith}
use lib.Dec.{leb}
use lib.ListN.{length, get_elem?, take}
use borrow.Author.Tests.{leb-true, le-leb, lt-leb}
use Rattle.job.specs.Job.{Job, Pipe, Laid, laid_from, laid, sections_of, sections}
use Rattle.job.specs.Format.{reaches_of}
use Rattle.recurrence.specs.Step.{Place, place, nowhere, located}
use Rattle.loops.proofs.Tests.{both}

-- section s stands at offset i of the laid pipe l
pub record Found (ls : List Laid) (s : ℕ) (l : Laid) (i : ℕ) : Type 0 where
  pub number : ℕ
  pub listed : get_elem? ls number ≡ some l
  pub stands : s ≡ l.first_section + i
  pub within : i ≤ l.pipe.reaches

abbrev pub FoundAt : List Laid → ℕ → Place → Type 0
FoundAt ls s nowhere = Unit {0}
FoundAt ls s (place l i) = Found ls s l i

-- ---- where a section is found, it stands

pub located_found : (ls : List Laid) (s : ℕ) → FoundAt ls s (located ls s)
unfolding located
located_found [] s = tt
located_found (l ∷ ls) s =
    go (leb l.first_section s && leb s (l.first_section + l.pipe.reaches)) (both (leb l.first_section s) (leb s (l.first_section + l.pipe.reaches))) (located ls s) (located_found ls s)
  where
    later : (o : Place) → FoundAt ls s o → FoundAt (l ∷ ls) s o
    later nowhere t = tt
    later (place l' i) h = record { number = suc h.number; listed = h.listed; stands = h.stands; within = h.within }

    go : (b : Bool) → (b ≡ true → (leb l.first_section s ≡ true) × (leb s (l.first_section + l.pipe.reaches) ≡ true)) → (o : Place) → FoundAt ls s o
        → FoundAt (l ∷ ls) s (cond b (place l (s - l.first_section)) o)
    go true t o h =
        let lo : l.first_section ≤ s = leb-true _ _ (t refl).0 in
        let hi : s ≤ l.first_section + l.pipe.reaches = leb-true _ _ (t refl).1 in
        record { number = 0; listed = refl; stands = omega arith; within = omega arith }
    go false t o h = later o h

-- ---- the laid pipes lie one after another

-- The sections and the reaches of pipe p, among qs laid from section b and reach r on: it is one of qs, it begins where those before it end, and it
-- ends before those after it.
pub record Spanned (b r : ℕ) (qs : List Pipe) (p : ℕ) (l : Laid) : Type 0 where
  pub pipe_is : get_elem? qs p ≡ some l.pipe
  pub first_is : l.first_section ≡ b + sections_of (take p qs)
  pub next_is : l.first_section + suc l.pipe.reaches ≡ b + sections_of (take (p + 1) qs)
  pub sections_end : l.first_section + l.pipe.reaches < b + sections_of qs
  pub reaches_end : l.first_reach + l.pipe.reaches ≤ r + reaches_of qs

pub spanned : (b r : ℕ) (qs : List Pipe) (p : ℕ) (l : Laid) → get_elem? (laid_from b r qs) p ≡ some l → Spanned b r qs p l
unfolding laid_from sections_of reaches_of
spanned b r [] p l e = let z : ◌≡◌ {A = ℕ} 0 1 = cc in absurd (omega arith)
spanned b r (q ∷ qs) zero l e =
    let f : l.first_section ≡ b = cc in
    let g : l.first_reach ≡ r = cc in
    let n : l.pipe.reaches ≡ q.reaches = cc in
    record { pipe_is = cc; first_is = omega arith; next_is = omega arith; sections_end = omega arith; reaches_end = omega arith }
spanned b r (q ∷ qs) (suc p) l e =
    let h = spanned (b + suc q.reaches) (r + q.reaches) qs p l e in
    let next : sections_of (take (suc p + 1) (q ∷ qs)) ≡ suc q.reaches + sections_of (take (p + 1) qs) = rw (add-one (suc p), add-one p) in
    record { pipe_is = h.pipe_is; first_is = omega arith; next_is = omega arith; sections_end = omega arith; reaches_end = omega arith }

pub laid_length : (b r : ℕ) (qs : List Pipe) → length (laid_from b r qs) ≡ length qs
unfolding laid_from
laid_length b r [] = refl
laid_length b r (q ∷ qs) = ap suc (laid_length (b + suc q.reaches) (r + q.reaches) qs)

-- each pipe is laid
laid_from_some : (b r : ℕ) (qs : List Pipe) (p : ℕ) (q : Pipe) → get_elem? qs p ≡ some q → (l : Laid) × (get_elem? (laid_from b r qs) p ≡ some l) × (l.pipe ≡ q)
unfolding laid_from
laid_from_some b r [] p q e = let z : ◌≡◌ {A = ℕ} 0 1 = cc in absurd (omega arith)
laid_from_some b r (o ∷ qs) zero q e = (record { pipe = o; first_section = b; first_reach = r }, refl, cc)
laid_from_some b r (o ∷ qs) (suc p) q e = laid_from_some (b + suc o.reaches) (r + o.reaches) qs p q e

-- ---- a laid pipe's section i is found there

found_from : (b r : ℕ) (qs : List Pipe) (p : ℕ) (l : Laid) (i : ℕ) → get_elem? (laid_from b r qs) p ≡ some l → i ≤ l.pipe.reaches
    → located (laid_from b r qs) (l.first_section + i) ≡ place l i
unfolding laid_from located
found_from b r [] p l i e h = let z : ◌≡◌ {A = ℕ} 0 1 = cc in absurd (omega arith)
found_from b r (q ∷ qs) zero l i e h =
    let f : l.first_section ≡ b = cc in
    let n : l.pipe.reaches ≡ q.reaches = cc in
    let w : record { pipe = q; first_section = b; first_reach = r } ≡ l = cc in
    let d : l.first_section + i - b ≡ i = omega arith in
    rw (le-leb b (l.first_section + i) (omega arith), le-leb (l.first_section + i) (b + q.reaches) (omega arith)) cc
found_from b r (q ∷ qs) (suc p) l i e h =
    let s = spanned (b + suc q.reaches) (r + q.reaches) qs p l e in
    rw (le-leb b (l.first_section + i) (omega arith), lt-leb (l.first_section + i) (b + q.reaches) (omega arith))
    (found_from (b + suc q.reaches) (r + q.reaches) qs p l i e h)

module _ (j : Job) where
  pub laid_located : (p : ℕ) (l : Laid) (i : ℕ) → get_elem? (laid j) p ≡ some l → i ≤ l.pipe.reaches → located (laid j) (l.first_section + i) ≡ place l i
  unfolding laid
  laid_located p l i e h = found_from 0 0 j.pipes p l i e h

  pub laid_some : (p : ℕ) (q : Pipe) → get_elem? j.pipes p ≡ some q → (l : Laid) × (get_elem? (laid j) p ≡ some l) × (l.pipe ≡ q)
  unfolding laid
  laid_some p q e = laid_from_some 0 0 j.pipes p q e

  pub laid_spanned : (p : ℕ) (l : Laid) → get_elem? (laid j) p ≡ some l → Spanned 0 0 j.pipes p l
  unfolding laid
  laid_spanned p l e = spanned 0 0 j.pipes p l e

  pub laid_below : (p : ℕ) (l : Laid) → get_elem? (laid j) p ≡ some l → l.first_section + l.pipe.reaches < sections j
  unfolding sections
  laid_below p l e = omega (arith, laid_spanned p l e)
