-- Finite binary64 values as so many of the smallest value, 2 ^ -1074, by their patterns and by `fin s m e`. Assumes nothing.
use mathlib.Core.Path.{◌≡◌, refl, sym, ap, ◌∙◌, subst}
use Prim.Native.Nat.{ℕ, zero, suc, ◌+◌, ◌-◌, ◌*◌, ◌/◌, ◌%◌, ◌^◌, ◌≤◌, ◌<◌}
use native.Mathlib.Nat.{zero-mul, mul-one, mul-pos, mul-div_cancel, mod-eq_of_lt, eq_of_mul-eq-mul_right}
use native.Mathlib.Omega.{arith}
use mathlib.Core.Bool.{Bool, true, false, cond}
use lib.IntN.{ℤ}
use lib.Dec.{T, leb, eqb, eqb→eq, not_T}
use lib.Pow.{pow_pos}
use lib.Ieee.{Float, nan, inf, fin, binary64, up, down, odd, size, fits, of_fields, of_bits, to_bits}
use lib.Ieee.Digits.{size-le}
use lib.Ieee.Fits.{down_pos, kept-lt}
use lib.Ieee.Bits.{cond_no}
use lib.Ieee.Exact.{HasValue, odd_sign}
use borrow.Author.Tests.{lt-leb}
use Rattle.fields.proofs.OwnRounding.{placed}
use Rattle.root.specs.Digits.{units_at, units_of}

-- x is u of the smallest values, and its sign is s
abbrev pub Counts : Float → Bool → ℕ → Type 0
Counts x s u = HasValue x s u (2 ^ 1074)

-- ---- the pattern of a finite value without its sign

differ : (x : ℕ) → suc x < 2047 → suc x ≡ 2047 → ⊥
differ x h e = omega arith

under_ones : (t x : ℕ) → suc x < 2047 → of_fields binary64 false (suc x) t ≡ odd 53 false (2 ^ 52 + t) x 1074
unfolding of_fields
under_ones t x h = cond_no (eqb (suc x) 2047) (cond (eqb t 0) (inf false) nan) (odd 53 false (2 ^ 52 + t) x 1074) (not_T (eqb (suc x) 2047) (λ (u : T (eqb (suc x) 2047)). differ x h (eqb→eq (suc x) 2047 u)))

at_zero : (t : ℕ) → of_fields binary64 false 0 t ≡ odd 53 false t 0 1074
unfolding of_fields
at_zero t = refl

fields_count : (f t : ℕ) → f < 2047 → Counts (of_fields binary64 false f t) false (units_at f t)
fields_count zero t h =
    subst (λ (v : Float). Counts v false t) (sym (at_zero t)) (subst (λ (u : ℕ). Counts (odd 53 false t 0 1074) false u) (mul-one t) (odd_sign 53 false t 0 1074))
fields_count (suc x) t h = subst (λ (v : Float). Counts v false ((2 ^ 52 + t) * 2 ^ x)) (sym (under_ones t x h)) (odd_sign 53 false (2 ^ 52 + t) x 1074)

of_bits_is : (b : ℕ) → of_bits binary64 b ≡ of_fields binary64 (leb 9223372036854775808 b) (b % 9223372036854775808 / 2 ^ 52) (b % 2 ^ 52)
unfolding of_bits
of_bits_is b = refl

pub pattern_counts : (b : ℕ) → b < 0x7ff0_0000_0000_0000 → Counts (of_bits binary64 b) false (units_of b)
pattern_counts b h =
    let s : b < 9223372036854775808 = omega arith in
    let f : b / 2 ^ 52 < 2047 = omega arith in
    subst (λ (v : Float). Counts v false (units_of b))
    (sym
    (of_bits_is b
    ∙ ap (λ (a : Bool). of_fields binary64 a (b % 9223372036854775808 / 2 ^ 52) (b % 2 ^ 52)) (lt-leb 9223372036854775808 b s)
    ∙ ap (λ (a : ℕ). of_fields binary64 false (a / 2 ^ 52) (b % 2 ^ 52)) (mod-eq_of_lt s)))
    (fields_count (b / 2 ^ 52) (b % 2 ^ 52) f)

pub units_pos : (b : ℕ) → 0 < b → 0 < units_of b
units_pos b h = go (b / 2 ^ 52) (b % 2 ^ 52) (λ e. omega arith)
  where
    go : (f t : ℕ) → (f ≡ 0 → 0 < t) → 0 < units_at f t
    go zero t p = p refl
    go (suc x) t p = let q : 0 < 2 ^ 52 + t = omega arith in mul-pos q (pow_pos x)

-- ---- a finite value that fits

-- the count of a value, as `to_bits` and `root_of` work it out
pub count_is : (m : ℕ) (e : ℤ) (u : ℕ) → m * up e * 2 ^ 1074 ≡ u * down e → m * up e * 2 ^ 1074 / down e ≡ u
count_is m e u h = ap (λ (x : ℕ). x / down e) h ∙ mul-div_cancel u (down_pos e)

pub count_below : (x : Float) (s : Bool) (u : ℕ) → T (fits binary64 x) → Counts x s u → u < 2 ^ 2098
count_below nan s u f c = absurd c
count_below (inf t) s u f c = absurd c
count_below (fin t m e) s u f c =
    let p = placed binary64 t m e f in
    subst (λ (x : ℕ). x < 2 ^ 2098) (eq_of_mul-eq-mul_right (down e) (down_pos e) (m * 2 ^ p.place) u (sym p.value ∙ c.1)) p.below

-- ---- the pattern of a count

to_bits_at : (s : Bool) (m : ℕ) (e : ℤ) (u : ℕ) → m * up e * 2 ^ 1074 ≡ u * down e → to_bits binary64 (fin s m e) ≡ cond s 9223372036854775808 0 + (size u - 53) * 2 ^ 52 + u / 2 ^ (size u - 53)
unfolding to_bits
to_bits_at s m e u h = ap (λ (x : ℕ). cond s 9223372036854775808 0 + (size x - 53) * 2 ^ 52 + x / 2 ^ (size x - 53)) (count_is m e u h)

few : (z k : ℕ) → z ≤ 2098 → z - 53 ≤ 2045
few z k h = omega arith

-- a finite value whose sign is clear has a pattern below the infinity's
pub plus_pattern : (m : ℕ) (e : ℤ) → T (fits binary64 (fin false m e)) → to_bits binary64 (fin false m e) < 0x7ff0_0000_0000_0000
plus_pattern m e t =
    let p = placed binary64 false m e t in
    let u = m * 2 ^ p.place in
    let k : size u - 53 ≤ 2045 = few (size u) 0 (size-le u 2098 p.below) in
    let l : u / 2 ^ (size u - 53) < 2 ^ 53 = kept-lt 53 u in
    subst (λ (b : ℕ). b < 0x7ff0_0000_0000_0000) (sym (to_bits_at false m e u p.value)) (omega arith)

pub minus_zero_pattern : (e : ℤ) → to_bits binary64 (fin true 0 e) ≡ 0x8000_0000_0000_0000
minus_zero_pattern e = to_bits_at true 0 e 0 (ap (λ (x : ℕ). x * 2 ^ 1074) (zero-mul (up e)) ∙ zero-mul (2 ^ 1074) ∙ sym (zero-mul (down e))) ∙ unfold size in refl
