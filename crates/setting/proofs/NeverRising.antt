-- The heads of a chain never rise: a reach takes off ((R·Q)·|Q|)/S, which is not below zero, and h less what is not below zero is not above h, since rounding keeps
-- the order; a node takes nothing off. Assumes nothing.
use mathlib.Core.Path.{◌≡◌, refl, sym, subst}
use mathlib.Core.Bool.{true, false}
use mathlib.Core.List.{List, [], ◌∷◌, ◌++◌}
use mathlib.Core.Option.{some}
use Prim.Native.Nat.{ℕ, zero, suc, ◌+◌, ◌<◌}
use native.Mathlib.Nat.{add-zero, add-suc}
use native.Mathlib.Omega.{arith}
use lib.Dec.{T}
use lib.ListN.{length, get_elem?, get_or}
use lib.Ieee.{Float, fin, binary64, of_bits, fits, lt}
use lib.Ieee.Fits.{sub-fits}
use lib.Ieee.Scale.{finite}
use Rattle.fields.specs.Real.{◌⊠◌, ◌⊘◌, zero64}
use Rattle.fields.proofs.Signs.{above_zero, not_below_zero_lem}
use Rattle.fields.proofs.Lessened.{not_above, drop_not_below, not_above_trans, not_above_itself}
use Rattle.loops.specs.Loops.{listed}
use Rattle.wave.specs.Wave.{magnitude}
use Rattle.job.specs.Job.{Pipe, Job, laid_from, friction_at}
use Rattle.setting.specs.Setting.{head_after, head_along, head_in, heads_from}

-- a list whose first is not above h, and each next not above the one before it
abbrev pub NotRising : Float → List Float → Type 0
NotRising h [] = Unit {0}
NotRising h (x ∷ xs) = (lt h x ≡ false) × NotRising x xs

-- the same, with k as the last
abbrev NotRisingTo : Float → List Float → Float → Type 0
NotRisingTo h [] k = h ≡ k
NotRisingTo h (x ∷ xs) k = (lt h x ≡ false) × NotRisingTo x xs k

not_rising_on : (h k : Float) (xs ys : List Float) → NotRisingTo h xs k → NotRising k ys → NotRising h (xs ++ ys)
not_rising_on h k [] ys e f = subst (λ (x : Float). NotRising x ys) (sym e) f
not_rising_on h k (x ∷ xs) ys e f = (e.0, not_rising_on x k xs ys e.1 f)

not_rising_listed : (n : ℕ) (f : ℕ → Float) (h : Float) → lt h (f 0) ≡ false → ((i : ℕ) → i < n → lt (f i) (f (suc i)) ≡ false) → NotRisingTo h (listed (suc n) f) (f n)
unfolding listed
not_rising_listed zero f h e s = (e, refl)
not_rising_listed (suc n) f h e s = (e, not_rising_listed n (λ i. f (suc i)) (f 0) (s 0 (omega arith)) (λ i l. s (suc i) (omega arith)))

-- ---- along a pipe

module _ (Q : Float) (flow : lt zero64 Q ≡ true) where
  -- |Q| is Q
  own_magnitude : magnitude Q ≡ Q
  unfolding magnitude of_bits
  own_magnitude = rw (not_below_zero_lem Q (above_zero Q flow))

  reach_not_rising : (S R h : Float) → lt zero64 S ≡ true → lt R zero64 ≡ false → T (fits binary64 h) → lt h (head_after S R Q h) ≡ false
  unfolding head_after of_bits
  reach_not_rising S R h s r t = rw own_magnitude (not_above binary64 h (((R ⊠ Q) ⊠ Q) ⊘ S) t (drop_not_below R Q S r flow s))

  along_fits : (S : Float) (R : ℕ → Float) (h : Float) → T (fits binary64 h) → (i : ℕ) → T (fits binary64 (head_along S R Q h i))
  unfolding head_along head_after
  along_fits S R h t zero = t
  along_fits S R h t (suc i) = sub-fits binary64 _ _

  -- ---- from pipe to pipe

  module _ (j : Job) (friction : (r : ℕ) → lt (friction_at j r) zero64 ≡ false) where
    pub heads_not_rising :
        (ps : List Pipe) (s r : ℕ) (h : Float) → ((p : ℕ) (q : Pipe) → get_elem? ps p ≡ some q → lt zero64 q.S ≡ true) → T (fits binary64 h)
        → NotRising h (heads_from j Q h (laid_from s r ps))
    unfolding heads_from laid_from head_in head_along
    heads_not_rising [] s r h c t = tt
    heads_not_rising (q ∷ ps) s r h c t =
        let R : ℕ → Float = λ i. friction_at j (r + i) in
        not_rising_on h (head_along q.S R Q h q.reaches) (listed (suc q.reaches) (head_along q.S R Q h)) _
        (not_rising_listed q.reaches (head_along q.S R Q h) h (not_above_itself h)
        (λ i l. reach_not_rising q.S (R i) (head_along q.S R Q h i) (c 0 q refl) (friction (r + i)) (along_fits q.S R h t i)))
        (heads_not_rising ps _ _ _ (λ p x e. c (suc p) x e) (along_fits q.S R h t q.reaches))

-- ---- any two

next_not_above : (xs : List Float) (h : Float) → NotRising h xs → (s : ℕ) → suc s < length xs → lt (get_or xs s zero64) (get_or xs (suc s) zero64) ≡ false
next_not_above [] h f s l = absurd (omega arith)
next_not_above (x ∷ []) h f s l = absurd (omega arith)
next_not_above (x ∷ y ∷ xs) h f zero l = f.1.0
next_not_above (x ∷ y ∷ xs) h f (suc s) l = next_not_above (y ∷ xs) x f.1 s (omega arith)

pub any_two :
    (xs : List Float) (h : Float) → NotRising h xs → ((s : ℕ) → s < length xs → finite (get_or xs s zero64) ≡ true) → (s n : ℕ) → s + n < length xs
    → lt (get_or xs s zero64) (get_or xs (s + n) zero64) ≡ false
any_two xs h f a s zero l = rw (add-zero s) (not_above_itself (get_or xs s zero64))
any_two xs h f a s (suc n) l =
    rw (add-suc s n)
    (not_above_trans (get_or xs s zero64) (get_or xs (s + n) zero64) (get_or xs (suc (s + n)) zero64) (a (s + n) (omega arith))
    (any_two xs h f a s n (omega arith)) (next_not_above xs h f (s + n) (omega arith)))
