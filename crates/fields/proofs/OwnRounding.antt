-- A value that fits rounds to itself: it is m * 2 ^ place of the format's smallest value with an m of no more digits than the format keeps, so `round`
-- leaves its sign and its size, and no two values that fit have the same sign and size. So x - (+0) is x, -0 included. Assumes nothing.
use mathlib.Core.Path.{◌≡◌, refl, sym, ap, ◌∙◌, subst}
use mathlib.Core.Bool.{Bool, true, false, ◌&&◌, cond}
use Prim.Native.Nat.{ℕ, zero, suc, ◌+◌, ◌-◌, ◌*◌, ◌/◌, ◌%◌, ◌^◌, ◌≤◌, ◌<◌, zero-le}
use native.Mathlib.Nat.{le_of_eq, lt_of_lt_of_le, not-le_of_lt, add-zero, sub-zero, zero-mul, mul-one, mul_comm, mul_assoc, mul_right_comm, eq_of_mul-eq-mul_right, mul-lt-mul_of_pos_right, lt_of_mul-lt-mul_right}
use native.Mathlib.Omega.{arith}
use borrow.Author.Tests.{le-ltb}
use lib.IntN.{ℤ, pos, negsuc}
use lib.Dec.{T, ltb, leb, eqb, ltb→lt, leb→le}
use lib.Pow.{pow-add, pow_pos, pow-lt}
use lib.Ieee.{Float, nan, inf, fin, Format, prec, emax, low, up, down, size, round, hid, top, sum, sub, fits, of_bits, to_bits}
use lib.Ieee.Digits.{back}
use lib.Ieee.Fits.{and_l, and_r, down_pos, round-fits}
use lib.Ieee.Bits.{of_bits-to_bits}
use lib.Ieee.Exact.{HasValue, round_exact}
use lib.Ieee.Nearest.{div_same}

-- ---- a finite value that fits, as so many of the smallest value

pub record Placed (f : Format) (m : ℕ) (e : ℤ) : Type 0 where
  pub place : ℕ
  pub value : m * up e * 2 ^ low f ≡ m * 2 ^ place * down e
  pub below : m * 2 ^ place < 2 ^ (low f + suc (emax f))
  pub short : m < 2 ^ prec f

pow_back : {a b : ℕ} → 2 ^ a ≤ 2 ^ b → a ≤ b
pow_back {a} {b} h =
    let n : b < a → ⊥ = λ l. not-le_of_lt (pow-lt l) h in
    omega (arith, n)

places : (l : ℕ) (e : ℤ) → down e ≤ 2 ^ l → (j : ℕ) × ((m : ℕ) → m * up e * 2 ^ l ≡ m * 2 ^ j * down e)
places l (pos k) h = (k + l, λ m. mul_assoc m (2 ^ k) (2 ^ l) ∙ ap (λ (x : ℕ). m * x) (sym (pow-add 2 k l)) ∙ sym (mul-one (m * 2 ^ (k + l))))
places l (negsuc k) h =
    let s : suc k ≤ l = pow_back h in (
      l - suc k,
      λ m.
          ap (λ (x : ℕ). x * 2 ^ l) (mul-one m)
          ∙ ap (λ (x : ℕ). m * x) (ap (λ (x : ℕ). 2 ^ x) (sym (back l (suc k) s)) ∙ pow-add 2 (l - suc k) (suc k))
          ∙ sym (mul_assoc m (2 ^ (l - suc k)) (2 ^ suc k)),
    )

-- A / a is u / 2 ^ l, and A / a is below 2 ^ c
under : (A a u l c : ℕ) → A * 2 ^ l ≡ u * a → A < 2 ^ c * a → u < 2 ^ (l + c)
under A a u l c e h =
    lt_of_mul-lt-mul_right a
    (lt_of_lt_of_le (subst (λ (x : ℕ). x < 2 ^ c * a * 2 ^ l) e (mul-lt-mul_of_pos_right h (pow_pos l)))
    (le_of_eq (mul_right_comm (2 ^ c) a (2 ^ l) ∙ ap (λ (x : ℕ). x * a) (mul_comm (2 ^ c) (2 ^ l) ∙ sym (pow-add 2 l c)))))

pub placed : (f : Format) (s : Bool) (m : ℕ) (e : ℤ) → T (fits f (fin s m e)) → Placed f m e
unfolding fits
placed f s zero e t = record {
  place = 0;
  value = ap (λ (x : ℕ). x * 2 ^ low f) (zero-mul (up e)) ∙ zero-mul (2 ^ low f) ∙ sym (zero-mul (down e));
  below = pow_pos (low f + suc (emax f));
  short = pow_pos (prec f);
}
placed f s (suc m) e t =
    let A = eqb (suc m % 2) 1 in
    let B = ltb (suc m) (2 ^ prec f) in
    let C = leb (down e) (2 ^ low f) in
    let D = ltb (suc m * up e) (2 ^ suc (emax f) * down e) in
    let less : suc m * up e < 2 ^ suc (emax f) * down e = ltb→lt (suc m * up e) (2 ^ suc (emax f) * down e) (and_r (A && B && C) D t) in
    let p = places (low f) e (leb→le (down e) (2 ^ low f) (and_r (A && B) C (and_l (A && B && C) D t))) in record {
      place = p.0;
      value = p.1 (suc m);
      below = under (suc m * up e) (down e) (suc m * 2 ^ p.0) (low f) (suc (emax f)) (p.1 (suc m)) less;
      short = ltb→lt (suc m) (2 ^ prec f) (and_r A B (and_l (A && B) C (and_l (A && B && C) D t)));
    }

-- ---- a sign and a size belong to one value that fits: they decide its pattern

abbrev pattern : Format → Bool → ℕ → ℕ
pattern f s n = let k = size n - prec f in cond s (top f) 0 + k * hid f + n / 2 ^ k

to_bits_is : (f : Format) (s : Bool) (m : ℕ) (e : ℤ) → to_bits f (fin s m e) ≡ pattern f s (m * up e * 2 ^ low f / down e)
unfolding to_bits
to_bits_is f s m e = refl

-- A / p and B / q are a / c, so both are as many of 1 / L
as_many : (A p B q a c L : ℕ) → 0 < p → 0 < q → 0 < c → A * c ≡ a * p → B * c ≡ a * q → A * L / p ≡ B * L / q
as_many A p B q a c L P Q C v w =
    let same : A * q ≡ B * p =
    eq_of_mul-eq-mul_right c C (A * q) (B * p)
    (mul_right_comm A q c ∙ ap (λ (x : ℕ). x * q) v ∙ mul_right_comm a p q ∙ ap (λ (x : ℕ). x * p) (sym w) ∙ mul_right_comm B c p) in
    div_same (A * L) p (B * L) q P Q (mul_right_comm A L q ∙ ap (λ (x : ℕ). x * L) same ∙ mul_right_comm B p L)

pub one_value : (f : Format) (x y : Float) (s : Bool) (a c : ℕ) → 0 < c → T (fits f x) → T (fits f y) → HasValue x s a c → HasValue y s a c → x ≡ y
one_value f nan y s a c C p q v w = absurd v
one_value f (inf t) y s a c C p q v w = absurd v
one_value f (fin t m e) nan s a c C p q v w = absurd w
one_value f (fin t m e) (inf u) s a c C p q v w = absurd w
one_value f (fin t m e) (fin u n d) s a c C p q v w =
    let L = 2 ^ low f in
    let same : pattern f t (m * up e * L / down e) ≡ pattern f u (n * up d * L / down d) =
    rw (v.0, w.0) (ap (pattern f s) (as_many (m * up e) (down e) (n * up d) (down d) a c L (down_pos e) (down_pos d) C v.1 w.1)) in
    sym (of_bits-to_bits f (fin t m e) p) ∙ ap (of_bits f) (to_bits_is f t m e ∙ same ∙ sym (to_bits_is f u n d)) ∙ of_bits-to_bits f (fin u n d) q

-- ---- the law

pub round_own : (f : Format) (s : Bool) (m : ℕ) (e : ℤ) → T (fits f (fin s m e)) → round f s (m * up e) (down e) ≡ fin s m e
round_own f s m e t =
    let p = placed f s m e t in
    one_value f (round f s (m * up e) (down e)) (fin s m e) s (m * up e) (down e) (down_pos e) (round-fits f s (m * up e) (down e)) t
    (round_exact f s (m * up e) (down e) m p.place (down_pos e) p.short p.below p.value)
    (refl, refl)

-- ---- x - (+0)

less_none : (f : Format) (s : Bool) (a c : ℕ) → sum f s a true 0 c ≡ round f s a c
unfolding sum
less_none f true a c = ap (λ (x : ℕ). round f true x c) (add-zero a)
less_none f false a c = rw (le-ltb a 0 zero-le, sub-zero) refl

pub sub_plus_zero : (f : Format) (x : Float) → T (fits f x) → sub f x (fin false 0 (pos 0)) ≡ x
unfolding sub
sub_plus_zero f nan t = refl
sub_plus_zero f (inf s) t = refl
sub_plus_zero f (fin s m e) t = rw (zero-mul (down e), mul-one (m * up e), mul-one (down e)) (less_none f s (m * up e) (down e) ∙ round_own f s m e t)
