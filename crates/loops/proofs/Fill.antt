-- A loop that stores f 0, f 1, .. at `at`, at + 1, .. of a list l, one a turn: after n turns the list is `fill f l at n`.
-- In a loop:  fill_none   before the first turn the list is l
--             fill_step   a turn stores f n at at + n
-- Of the result:  length-fill; fill_in, what stands in the range; fill_below, fill_above and drop-fill, what stands outside it; take_filled, the range as a list.
-- Of several fills:  fill_cong   the same entries, the same list;  fill_join   one after the other is one;  fill_front   the first entry, and the rest;
--                    set-fill   a store below the range;  fill_part   a part filled and put back is the whole filled from there
--                    filled_more   up to a place, and then more;  filled_whole   the whole list;  filled_same   one value
-- Assumes nothing.
use mathlib.Core.Path.{◌≡◌, refl, sym, ◌∙◌, ap, ap₂}
use mathlib.Core.Logic.{⊎_elim}
use mathlib.Core.List.{List, [], ◌∷◌, ◌++◌}
use Prim.Native.Nat.{ℕ, zero, suc, ◌+◌, ◌<◌, ◌≤◌}
use native.Mathlib.Nat.{le_of_suc-le-suc, not-suc-le-zero, eq-or-lt_of_le, add_assoc, add-suc, add-zero, suc-add, zero-add}
use native.Mathlib.Numerals.{add-one}
use native.Mathlib.Omega.{arith}
use Rattle.loops.specs.Loops.{listed}
use Rattle.loops.specs.Fill.{fill}
use Rattle.loops.proofs.Listed.{listed_cong, listed_same, take-listed}
use lib.ListN.{length, get_or, set, take, drop, replicate, length-set, length-drop, take-append-drop}
use lib.Seq.{get_or-set_same, get_or-set_other, drop-set-lt, set-append_left, length-take-le}

module _ {A : Type 0} (f : ℕ → A) (l : List A) (at : ℕ) where
  pub fill_none : l ≡ fill f l at 0
  unfolding fill
  fill_none = refl

  pub fill_step : {m : List A} {n i : ℕ} {v : A} → m ≡ fill f l at n → i ≡ at + n → v ≡ f n → set m i v ≡ fill f l at (n + 1)
  unfolding fill
  fill_step {m} {n} {i} {v} e p q = rw (add-one n, e, p, q)

  pub length-fill : (n : ℕ) → length (fill f l at n) ≡ length l
  unfolding fill
  length-fill zero = refl
  length-fill (suc n) = length-set (fill f l at n) (at + n) (f n) ∙ length-fill n

  pub fill_below : (d : A) (n k : ℕ) → k < at → get_or (fill f l at n) k d ≡ get_or l k d
  unfolding fill
  fill_below d zero k h = refl
  fill_below d (suc n) k h = get_or-set_other (fill f l at n) (at + n) k (f n) d (λ e. omega arith) ∙ fill_below d n k h

  pub fill_above : (d : A) (n k : ℕ) → at + n ≤ k → get_or (fill f l at n) k d ≡ get_or l k d
  unfolding fill
  fill_above d zero k h = refl
  fill_above d (suc n) k h = get_or-set_other (fill f l at n) (at + n) k (f n) d (λ e. omega arith) ∙ fill_above d n k (omega arith)

  pub fill_in : (d : A) (n k : ℕ) → at + n ≤ length l → k < n → get_or (fill f l at n) (at + k) d ≡ f k
  unfolding fill
  fill_in d zero k b h = absurd (not-suc-le-zero h)
  fill_in d (suc n) k b h =
      ⊎_elim
      (λ e. rw e (get_or-set_same (fill f l at n) (at + n) (f n) d (omega (arith, length-fill n))))
      (λ o. get_or-set_other (fill f l at n) (at + n) (at + k) (f n) d (λ e. omega arith) ∙ fill_in d n k (omega arith) o)
      (eq-or-lt_of_le (le_of_suc-le-suc h))

  pub drop-fill : (n m : ℕ) → at + n ≤ m → drop m (fill f l at n) ≡ drop m l
  unfolding fill
  drop-fill zero m h = refl
  drop-fill (suc n) m h = drop-set-lt m (fill f l at n) (at + n) (f n) (omega arith) ∙ drop-fill n m (omega arith)

-- ---- several fills

-- the same entries
pub fill_cong : {A : Type 0} (f g : ℕ → A) (l : List A) (at n : ℕ) → ((i : ℕ) → i < n → f i ≡ g i) → fill f l at n ≡ fill g l at n
unfolding fill
fill_cong f g l at zero h = refl
fill_cong f g l at (suc n) h = rw (fill_cong f g l at n (λ i b. h i (omega arith)), h n (omega arith))

module _ {A : Type 0} (f : ℕ → A) where
  -- from a on, after a
  pub fill_join : (l : List A) (at a n : ℕ) → fill (λ i. f (a + i)) (fill f l at a) (at + a) n ≡ fill f l at (a + n)
  unfolding fill
  fill_join l at a zero = rw (add-zero a)
  fill_join l at a (suc n) = rw (fill_join l at a n, add-suc a n, add_assoc at a n)

  -- the first entry, and the rest
  pub fill_front : (l : List A) (at n : ℕ) → fill (λ i. f (suc i)) (set l at (f 0)) (at + 1) n ≡ fill f l at (suc n)
  unfolding fill
  fill_front l at zero = let e : at + 0 ≡ at = omega arith in rw e
  fill_front l at (suc n) = let e : at + 1 + n ≡ at + suc n = omega arith in rw (fill_front l at n, e)

-- ---- lists put together

module _ {A : Type 0} where
  -- a store within the middle one of three lists
  set_middle : (xs ys zs : List A) (i : ℕ) (v : A) → i < length ys → xs ++ (set ys i v ++ zs) ≡ set (xs ++ (ys ++ zs)) (length xs + i) v
  set_middle [] ys zs i v h = rw (zero-add i) (sym (set-append_left ys zs i v h))
  set_middle (x ∷ xs) ys zs i v h = rw (suc-add (length xs) i) (ap (λ (l : List A). x ∷ l) (set_middle xs ys zs i v h))

  -- k entries of w from a on, lent, filled from `at` on and come back: w filled from a + at on
  pub fill_part :
      (f : ℕ → A) (w : List A) (a k at n : ℕ) → at + n ≤ k → a + k ≤ length w
      → take a w ++ (fill f (take k (drop a w)) at n ++ drop k (drop a w)) ≡ fill f w (a + at) n
  unfolding fill
  fill_part f w a k at zero h b = ap (λ (l : List A). take a w ++ l) (take-append-drop k (drop a w)) ∙ take-append-drop a w
  fill_part f w a k at (suc n) h b =
      let part = take k (drop a w) in
      let long : length part ≡ k = length-take-le k (drop a w) (rw (length-drop a w) (omega arith)) in
      let front : length (take a w) ≡ a = length-take-le a w (omega arith) in
      set_middle (take a w) (fill f part at n) (drop k (drop a w)) (at + n) (f n) (rw (length-fill f part at n, long) (omega arith))
      ∙ rw (front, fill_part f w a k at n (omega arith) b, add_assoc a at n)

-- ---- stores that do not meet

pub set_swap : {A : Type 0} (l : List A) (i j : ℕ) (a b : A) → i < j → set (set l j b) i a ≡ set (set l i a) j b
set_swap [] i j a b h = refl
set_swap (x ∷ l) i zero a b h = absurd (not-suc-le-zero h)
set_swap (x ∷ l) zero (suc j) a b h = refl
set_swap {A} (x ∷ l) (suc i) (suc j) a b h = ap (λ (r : List A). x ∷ r) (set_swap l i j a b (le_of_suc-le-suc h))

pub set-fill : {A : Type 0} (f : ℕ → A) (l : List A) (at n i : ℕ) (v : A) → i < at → set (fill f l at n) i v ≡ fill f (set l i v) at n
unfolding fill
set-fill f l at zero i v h = refl
set-fill f l at (suc n) i v h = set_swap (fill f l at n) i (at + n) v (f n) (omega arith) ∙ rw (set-fill f l at n i v h)

-- the entries that a loop has filled, from the first on
pub take_filled : {A : Type 0} (d : A) (n : ℕ) (g : ℕ → A) (l : List A) → n ≤ length l → take n (fill g l 0 n) ≡ listed n g
take_filled d n g l h =
    take-listed d n (fill g l 0 n) (omega (arith, length-fill g l 0 n))
    ∙ listed_cong n _ g (λ s b. rw (zero-add s) at (fill_in g l 0 d n s (omega arith) b))

-- a list filled from its first entry on, as a list
pub filled_whole : {A : Type 0} (d : A) (f : ℕ → A) (l : List A) (n : ℕ) → n ≤ length l → fill f l 0 n ≡ listed n f ++ drop n l
filled_whole d f l n h = sym (take-append-drop n (fill f l 0 n)) ∙ ap₂ ◌++◌ (take_filled d n f l h) (drop-fill f l 0 n n (omega arith))

-- the same value into the first n entries, as `fill` of a slice leaves them
pub filled_same : {A : Type 0} (v : A) (l : List A) (n : ℕ) → n ≤ length l → replicate (length (take n l)) v ++ drop n l ≡ fill (λ (s : ℕ). v) l 0 n
filled_same v l n h = rw (length-take-le n l h, ← listed_same n v) (sym (filled_whole v (λ (s : ℕ). v) l n h))

-- a list filled up to s, and then n entries more
pub filled_more :
    {A : Type 0} (f : ℕ → A) (l : List A) (s n : ℕ) {from : ℕ} {old new : List A} → from ≡ s → old ≡ fill f l 0 s → new ≡ fill (λ i. f (s + i)) old from n
    → new ≡ fill f l 0 (s + n)
filled_more f l s n b e d = d ∙ rw (b, e) (rw (zero-add s) at (fill_join f l 0 s n))
