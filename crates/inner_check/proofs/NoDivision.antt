-- A head that is held to its floor without a division. Where the floor times w is below d, rounded, d over w is not below the floor: rounding keeps the
-- order, and it leaves the floor and d as they are. So too with a great number in place of the floor, which says that d over w is finite. Assumes nothing.
use mathlib.Core.Path.{◌≡◌, refl, sym, ap, ◌∙◌}
use mathlib.Core.Bool.{Bool, true, false, true≢false}
use Prim.Native.Nat.{ℕ, ◌*◌, ◌≤◌, ◌<◌}
use native.Mathlib.Nat.{le_trans, le_of_eq, le_of_lt, mul-one, mul_comm, mul_assoc, mul_left_comm, mul-pos, mul-le-mul_left}
use native.Mathlib.Omega.{arith}
use borrow.Author.Tests.{ne_eqb}
use lib.IntN.{ℤ, pos}
use lib.Dec.{T, ltb→lt}
use lib.Ieee.{Float, nan, inf, fin, Format, up, down, round, neg, fits, lt, add, mul, div}
use lib.Ieee.Fits.{up_pos, down_pos, neg-fits}
use lib.Ieee.Scale.{finite}
use lib.Ieee.Positive.{positive}
use Rattle.fields.proofs.Signs.{Signed, round_sign, not_under}
use Rattle.fields.proofs.Rounding.{round_neg, lt-neg, at_least, at_most, less, more}

-- ---- signs

finite_neg : (x : Float) → finite (neg x) ≡ finite x
unfolding neg
finite_neg nan = refl
finite_neg (inf s) = refl
finite_neg (fin s m e) = refl

-- what a finite value is not below is finite
bounded : (x : Float) (m : ℕ) (e : ℤ) → Signed false x → lt (fin false m e) x ≡ false → finite x ≡ true
unfolding lt
bounded nan m e s h = absurd s
bounded (inf true) m e s h = absurd (true≢false s)
bounded (inf false) m e s h = absurd (true≢false h)
bounded (fin t a b) m e s h = refl

-- ---- M / E times N / K against P / G, and P / G over N / K against M / E

module _ (M E N K P G : ℕ) where
  one_side : M * N * G ≡ M * (N * G)
  one_side = mul_assoc M N G

  other_side : P * (E * K) ≡ P * K * E
  other_side = simp (mul_assoc, mul_comm, mul_left_comm)

  up_to : M * N * G < P * (E * K) → M * (N * G) ≤ P * K * E
  up_to h = le_trans (le_of_eq (sym one_side)) (le_trans (le_of_lt h) (le_of_eq other_side))

  down_to : P * (E * K) < M * N * G → P * K * E ≤ M * (N * G)
  down_to h = le_trans (le_of_eq (sym other_side)) (le_trans (le_of_lt h) (le_of_eq one_side))

module _ (f : Format) (n : ℕ) (k : ℤ) (above_zero : 0 < n) where
  abbrev N : ℕ
  N = n * up k

  abbrev K : ℕ
  K = down k

  n_pos : 0 < N
  n_pos = mul-pos above_zero (up_pos k)

  abbrev w : Float
  w = fin false n k

  product : (s : Bool) (m : ℕ) (e : ℤ) → mul f (fin s m e) w ≡ round f s (m * up e * N) (down e * K)
  unfolding mul
  product true m e = refl
  product false m e = refl

  quotient : (s : Bool) (p : ℕ) (g : ℤ) → div f (fin s p g) w ≡ round f s (p * up g * K) (N * down g)
  unfolding div
  quotient true p g = rw (ne_eqb n 0 (λ z. omega arith)) refl
  quotient false p g = rw (ne_eqb n 0 (λ z. omega arith)) refl

  -- p / g over w, with the sign clear, where m / e times w is below it, and where it is above it
  module _ (m : ℕ) (e : ℤ) (M-fits : T (fits f (fin false m e))) (p : ℕ) (g : ℤ) (P-fits : T (fits f (fin false p g))) where
    abbrev times : Float
    times = round f false (m * up e * N) (down e * K)

    abbrev over : Float
    over = round f false (p * up g * K) (N * down g)

    from_below_lem : lt times (fin false p g) ≡ true → lt over (fin false m e) ≡ false
    from_below_lem h =
        at_least f m e M-fits (p * up g * K) (N * down g) (mul-pos n_pos (down_pos g))
        (up_to (m * up e) (down e) N K (p * up g) (down g) (less f p g P-fits (m * up e * N) (down e * K) (mul-pos (down_pos e) (down_pos k)) h))

    from_above_lem : lt (fin false p g) times ≡ true → lt (fin false m e) over ≡ false
    from_above_lem h =
        at_most f m e M-fits (p * up g * K) (N * down g) (mul-pos n_pos (down_pos g))
        (down_to (m * up e) (down e) N K (p * up g) (down g) (more f p g P-fits (m * up e * N) (down e * K) (mul-pos (down_pos e) (down_pos k)) h))

  abbrev Held : Float → Float → Type 0
  Held F d = (finite (div f d w) ≡ true) × (lt (div f d w) F ≡ false)

  held : (s t : Bool) (m : ℕ) (e : ℤ) (p : ℕ) (g : ℤ) (c : ℕ) (h : ℤ)
      → T (fits f (fin s m e)) → T (fits f (fin t p g)) → T (fits f (fin false c h))
      → lt (mul f (fin s m e) w) (fin t p g) ≡ true → lt (fin t p g) (mul f (fin false c h) w) ≡ true → Held (fin s m e) (fin t p g)
  unfolding neg
  held false false m e p g c h a b l x y =
      rw (quotient false p g) (
        bounded (over m e a p g b) c h (round_sign f false (p * up g * K) (N * down g)) (from_above_lem c h l p g b (rw (← product false c h) y)),
        from_below_lem m e a p g b (rw (← product false m e) x),
      )
  held false true m e p g c h a b l x y =
      let q = round f false (m * up e * N) (down e * K) in
      let n = not_under q (fin true p g) (round_sign f false (m * up e * N) (down e * K)) refl in
      absurd (true≢false (sym x ∙ ap (λ z. lt z (fin true p g)) (product false m e) ∙ n))
  held true false m e p g c h a b l x y =
      let r = over m e (neg-fits f (fin true m e) a) p g b in
      let r-sign = round_sign f false (p * up g * K) (N * down g) in
      rw (quotient false p g) (
        bounded r c h r-sign (from_above_lem c h l p g b (rw (← product false c h) y)),
        not_under r (fin true m e) r-sign refl,
      )
  held true true m e p g c h a b l x y =
      let F-fits = neg-fits f (fin true m e) a in
      let d-fits = neg-fits f (fin true p g) b in
      let r = round f false (p * up g * K) (N * down g) in
      let q = round f false (m * up e * N) (down e * K) in
      let under : lt (fin false p g) q ≡ true = sym (lt-neg q p g) ∙ ap (λ z. lt z (fin true p g)) (sym (round_neg f (m * up e * N) (down e * K)) ∙ sym (product true m e)) ∙ x in
      let n = from_above_lem m e F-fits p g d-fits under in
      rw (quotient true p g, round_neg f (p * up g * K) (N * down g)) (
        finite_neg r ∙ bounded r m e (round_sign f false (p * up g * K) (N * down g)) n,
        lt-neg r m e ∙ n,
      )

-- ---- the law

-- no infinity and no NaN lies between two values
no_nan : (x : Float) → lt x nan ≡ false
unfolding lt
no_nan nan = refl
no_nan (inf s) = refl
no_nan (fin s m e) = refl

no_lower : (x : Float) → lt x (inf true) ≡ false
unfolding lt
no_lower nan = refl
no_lower (inf true) = refl
no_lower (inf false) = refl
no_lower (fin s m e) = refl

no_higher : (x : Float) → lt (inf false) x ≡ false
unfolding lt
no_higher nan = refl
no_higher (inf s) = refl
no_higher (fin s m e) = refl

between : (x d y : Float) → lt x d ≡ true → lt d y ≡ true → finite d ≡ true
between x nan y a b = absurd (true≢false (sym a ∙ no_nan x))
between x (inf true) y a b = absurd (true≢false (sym a ∙ no_lower x))
between x (inf false) y a b = absurd (true≢false (sym b ∙ no_higher y))
between x (fin s m e) y a b = refl

module _ (f : Format) where
  over_floor : (F w d C : Float) → finite F ≡ true → finite d ≡ true → T (positive w) → T (positive C) → T (fits f F) → T (fits f d) → T (fits f C)
      → lt (mul f F w) d ≡ true → lt d (mul f C w) ≡ true → (finite (div f d w) ≡ true) × (lt (div f d w) F ≡ false)
  over_floor nan w d C a b p q = absurd (true≢false (sym a))
  over_floor (inf s) w d C a b p q = absurd (true≢false (sym a))
  over_floor (fin s m e) nan d C a b p q = absurd p
  over_floor (fin s m e) (inf t) d C a b p q = absurd p
  over_floor (fin s m e) (fin true n k) d C a b p q = absurd p
  over_floor (fin s m e) (fin false n k) nan C a b p q = absurd (true≢false (sym b))
  over_floor (fin s m e) (fin false n k) (inf t) C a b p q = absurd (true≢false (sym b))
  over_floor (fin s m e) (fin false n k) (fin t v g) nan a b p q = absurd q
  over_floor (fin s m e) (fin false n k) (fin t v g) (inf u) a b p q = absurd q
  over_floor (fin s m e) (fin false n k) (fin t v g) (fin true c h) a b p q = absurd q
  over_floor (fin s m e) (fin false n k) (fin t v g) (fin false c h) a b p q = held f n k (ltb→lt 0 n p) s t m e v g c h

  pub no_division : (F w d C : Float) → finite F ≡ true → T (positive w) → T (positive C) → T (fits f F) → T (fits f d) → T (fits f C)
      → lt (mul f F w) d ≡ true → lt d (mul f C w) ≡ true → (finite (div f d w) ≡ true) × (lt (div f d w) F ≡ false)
  no_division F w d C a p q u v z x y = over_floor F w d C a (between (mul f F w) d (mul f C w) x y) p q u v z x y

  -- a half is finite where the whole is
  module _ (p : ℕ) (g : ℤ) (t : T (fits f (fin false p g))) where
    abbrev half : Bool → Float
    half s = round f s (p * up g * 1) (2 * down g)

    half_clear : finite (half false) ≡ true
    half_clear =
        let P = p * up g in
        let G = down g in
        let h : P * 1 * G ≤ P * (2 * G) = le_trans (le_of_eq (ap (λ x. x * G) (mul-one P))) (mul-le-mul_left P (omega arith)) in
        bounded (half false) p g (round_sign f false (P * 1) (2 * G)) (at_most f p g t (P * 1) (2 * G) (mul-pos (omega arith) (down_pos g)) h)

    half_finite : (s : Bool) → finite (half s) ≡ true
    half_finite false = half_clear
    half_finite true = ap finite (round_neg f (p * up g * 1) (2 * down g)) ∙ finite_neg (half false) ∙ half_clear

  pub halved : (x : Float) → finite x ≡ true → T (fits f x) → finite (div f x (fin false 1 (pos 1))) ≡ true
  unfolding div neg
  halved nan a t = a
  halved (inf s) a t = absurd (true≢false (sym a))
  halved (fin true p g) a t = half_finite p g (neg-fits f (fin true p g) t) true
  halved (fin false p g) a t = half_finite p g t false

  -- a sum is finite only where both numbers are
  pub added_finite : (x y : Float) → finite (add f x y) ≡ true → (finite x ≡ true) × (finite y ≡ true)
  unfolding add
  added_finite nan y h = absurd (true≢false (sym h))
  added_finite (inf s) nan h = absurd (true≢false (sym h))
  added_finite (inf true) (inf true) h = absurd (true≢false (sym h))
  added_finite (inf true) (inf false) h = absurd (true≢false (sym h))
  added_finite (inf false) (inf true) h = absurd (true≢false (sym h))
  added_finite (inf false) (inf false) h = absurd (true≢false (sym h))
  added_finite (inf s) (fin t n d) h = absurd (true≢false (sym h))
  added_finite (fin s m e) nan h = absurd (true≢false (sym h))
  added_finite (fin s m e) (inf t) h = absurd (true≢false (sym h))
  added_finite (fin s m e) (fin t n d) h = (refl, refl)
