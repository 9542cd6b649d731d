-- A list given by a function of the place: its length and its entries; entry s turns on f s alone. Assumes nothing.
use mathlib.Core.Path.{◌≡◌, refl, sym, ap, ◌∙◌}
use mathlib.Core.Option.{some}
use mathlib.Core.List.{List, ◌∷◌, map}
use Prim.Native.Nat.{ℕ, zero, suc, ◌<◌, ◌≤◌, zero-le, suc-le-suc}
use native.Mathlib.Nat.{not-suc-le-zero, le_of_suc-le-suc}
use native.Mathlib.Omega.{arith}
use lib.ListN.{length, get_or, get_elem?, take, replicate, length-replicate, get_or-replicate}
use lib.Seq.{ext_get_or, get_or-take, length-take-le}
use Rattle.loops.specs.Loops.{listed}

module _ {A : Type 0} where
  pub length-listed : (n : ℕ) (f : ℕ → A) → length (listed n f) ≡ n
  unfolding listed
  length-listed zero f = refl
  length-listed (suc n) f = ap suc (length-listed n (λ k. f (suc k)))

  pub get_or-listed : (n : ℕ) (f : ℕ → A) (k : ℕ) (d : A) → k < n → get_or (listed n f) k d ≡ f k
  unfolding listed
  get_or-listed zero f k d l = absurd (not-suc-le-zero l)
  get_or-listed (suc n) f zero d l = refl
  get_or-listed (suc n) f (suc k) d l = get_or-listed n (λ i. f (suc i)) k d (le_of_suc-le-suc l)

  pub at_listed : (n : ℕ) (f : ℕ → A) (k : ℕ) → k < n → get_elem? (listed n f) k ≡ some (f k)
  unfolding listed
  at_listed zero f k l = absurd (not-suc-le-zero l)
  at_listed (suc n) f zero l = refl
  at_listed (suc n) f (suc k) l = at_listed n (λ i. f (suc i)) k (le_of_suc-le-suc l)

  pub listed_some : (n : ℕ) (f : ℕ → A) (k : ℕ) (a : A) → get_elem? (listed n f) k ≡ some a → (k < n) × (f k ≡ a)
  unfolding listed
  listed_some zero f k a e = let z : ◌≡◌ {A = ℕ} 0 1 = cc in (absurd (omega arith), cc)
  listed_some (suc n) f zero a e = (omega arith, cc)
  listed_some (suc n) f (suc k) a e = let h = listed_some n (λ i. f (suc i)) k a e in (omega arith, h.1)

  -- what holds of each entry and of the value past the end holds wherever the list is read
  pub get_or_all : (P : A → Type 0) (n : ℕ) (f : ℕ → A) (d : A) → ((k : ℕ) → k < n → P (f k)) → P d → (k : ℕ) → P (get_or (listed n f) k d)
  unfolding listed
  get_or_all P zero f d h e k = e
  get_or_all P (suc n) f d h e zero = h 0 (omega arith)
  get_or_all P (suc n) f d h e (suc k) = get_or_all P n (λ i. f (suc i)) d (λ i l. h (suc i) (omega arith)) e k

  -- also past the end
  pub get_or_listed_cong : (n : ℕ) (f g : ℕ → A) (s : ℕ) (d : A) → f s ≡ g s → get_or (listed n f) s d ≡ get_or (listed n g) s d
  unfolding listed
  get_or_listed_cong zero f g s d h = refl
  get_or_listed_cong (suc n) f g zero d h = h
  get_or_listed_cong (suc n) f g (suc s) d h = get_or_listed_cong n (λ t. f (suc t)) (λ t. g (suc t)) s d h

  pub listed_cong : (n : ℕ) (f g : ℕ → A) → ((s : ℕ) → s < n → f s ≡ g s) → listed n f ≡ listed n g
  unfolding listed
  listed_cong zero f g h = refl
  listed_cong (suc n) f g h =
      let e = listed_cong n (λ s. f (suc s)) (λ s. g (suc s)) (λ s l. h (suc s) (suc-le-suc l)) in
      let o = h 0 (suc-le-suc zero-le) in
      cc

pub map-listed : {A B : Type 0} (g : A → B) (n : ℕ) (f : ℕ → A) → map g (listed n f) ≡ listed n (λ s. g (f s))
unfolding listed
map-listed g zero f = refl
map-listed g (suc n) f = ap (λ r. g (f 0) ∷ r) (map-listed g n (λ s. f (suc s)))

-- the first n entries of a list, entry by entry
pub take-listed : {A : Type 0} (d : A) (n : ℕ) (l : List A) → n ≤ length l → take n l ≡ listed n (λ s. get_or l s d)
take-listed d n l h =
    ext_get_or d (take n l) (listed n (λ s. get_or l s d)) (length-take-le n l h ∙ sym (length-listed n (λ s. get_or l s d)))
    (λ s q. let b : s < n = omega (arith, length-take-le n l h) in get_or-take n l s d b ∙ sym (get_or-listed n (λ s. get_or l s d) s d b))

pub listed_same : {A : Type 0} (n : ℕ) (v : A) → listed n (λ s. v) ≡ replicate n v
listed_same n v =
    ext_get_or v (listed n (λ s. v)) (replicate n v) (length-listed n (λ s. v) ∙ sym (length-replicate n v))
    (λ s q. let b : s < n = omega (arith, length-listed n (λ (s : ℕ). v)) in get_or-listed n (λ s. v) s v b ∙ sym (get_or-replicate n s v v b))
