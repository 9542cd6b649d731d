-- The 53 leading binary digits of the root of n, rounded to the nearest, and the value that they make. Nothing here turns on the relation of specs/Root.antt.
-- Assumes nothing.
use mathlib.Core.Path.{◌≡◌, sym, ap, ◌∙◌}
use Prim.Native.Nat.{ℕ, ◌+◌, ◌-◌, ◌*◌, ◌/◌, ◌^◌, ◌≤◌, ◌<◌}
use native.Mathlib.Nat.{le_trans, le_of_eq, le_of_lt, lt_of_lt_of_le, lt_of_le_of_lt, one-mul, mul-le-mul_right, mul_assoc, mul-div_cancel, le-div_iff_mul-le, div-lt_iff_lt-mul}
use native.Mathlib.Omega.{arith}
use mathlib.Core.Bool.{false}
use lib.Dec.{T, ltb, lit≤, lit<}
use lib.Pow.{pow_mono, shl_lt}
use lib.Ieee.{inf, binary64, size, odd, units, fits}
use lib.Ieee.Digits.{size-lt, size-le, size_reaches}
use lib.Ieee.Fits.{odd-fits, cond-fits, inf-fits}
use lib.Ieee.Exact.{units_val}
use Rattle.whole_root.specs.WholeRoot.{IsWholeRoot, whole_root}
use Rattle.whole_root.proofs.WholeLaws.{whole_root_is, at_most_root}
use Rattle.root.specs.Digits.{IsNearestRoot}
use Rattle.root.proofs.NearestWhole.{nearest_is, nearest_from, nearest_below}
use Rattle.root.specs.Root.{cut_places, root_digits, root_units}
use Rattle.root.proofs.Powers.{four_pos, pow_split, pow_lt_back}
use Rattle.root.proofs.Patterns.{Counts}

-- what is left of n without the places that are left out
abbrev pub shortened : ℕ → ℕ
shortened n = n / 4 ^ cut_places n

places : (n : ℕ) → 105 ≤ size n → (104 + (cut_places n + cut_places n) < size n) × (size n ≤ 106 + (cut_places n + cut_places n))
unfolding cut_places
places n h = omega arith

pub shortened_low : (n : ℕ) → 105 ≤ size n → 2 ^ 104 ≤ shortened n
shortened_low n h =
    let k = cut_places n in
    (le-div_iff_mul-le (four_pos k)).1
    (le_trans (le_of_eq (sym (pow_split 104 k))) (size_reaches n (104 + (k + k)) (places n h).0))

shortened_high : (n : ℕ) → 105 ≤ size n → shortened n < 4 ^ 53
shortened_high n h =
    let k = cut_places n in
    (div-lt_iff_lt-mul (four_pos k)).1
    (lt_of_lt_of_le (size-lt n) (le_trans (pow_mono (places n h).1) (le_of_eq (pow_split 106 k))))

-- only zeros are left out of a number of 53 digits and a power of two
pub shortened_whole : (m j : ℕ) → m < 2 ^ 53 → 105 ≤ size (m * 2 ^ j) → shortened (m * 2 ^ j) * 4 ^ cut_places (m * 2 ^ j) ≡ m * 2 ^ j
shortened_whole m j l h = go (cut_places (m * 2 ^ j)) room
  where
    room : cut_places (m * 2 ^ j) + cut_places (m * 2 ^ j) ≤ j
    room = let a : size (m * 2 ^ j) ≤ 53 + j = size-le (m * 2 ^ j) (53 + j) (shl_lt 53 j l) in omega (arith, (places (m * 2 ^ j) h).0)

    go : (k : ℕ) → k + k ≤ j → m * 2 ^ j / 4 ^ k * 4 ^ k ≡ m * 2 ^ j
    go k g =
        let i = j - (k + k) in
        let c : i + (k + k) ≡ j = omega arith in
        let e : m * 2 ^ j ≡ m * 2 ^ i * 4 ^ k = ap (λ (x : ℕ). m * 2 ^ x) (sym c) ∙ ap (λ (x : ℕ). m * x) (pow_split i k) ∙ sym (mul_assoc m (2 ^ i) (4 ^ k)) in
        ap (λ (x : ℕ). x / 4 ^ k * 4 ^ k) e ∙ ap (λ (x : ℕ). x * 4 ^ k) (mul-div_cancel (m * 2 ^ i) (four_pos k)) ∙ sym e

-- ---- the digits

pub digits_nearest : (n : ℕ) → 105 ≤ size n → IsNearestRoot (shortened n) (root_digits n)
unfolding root_digits
digits_nearest n h =
    let i : IsWholeRoot (shortened n) (whole_root 53 (shortened n)) = whole_root_is 53 (shortened n) (shortened_high n h) in
    nearest_is (shortened n) (whole_root 53 (shortened n)) i (lt_of_lt_of_le (lit< tt) (at_most_root (shortened n) (whole_root 53 (shortened n)) (2 ^ 52) i (shortened_low n h)))

pub digits_low : (n : ℕ) → 105 ≤ size n → 2 ^ 52 ≤ root_digits n
digits_low n h = nearest_from (shortened n) (root_digits n) (2 ^ 52) (digits_nearest n h) (shortened_low n h)

pub digits_high : (n : ℕ) → 105 ≤ size n → root_digits n ≤ 2 ^ 53
digits_high n h = nearest_below (shortened n) (root_digits n) (2 ^ 53) (digits_nearest n h) (shortened_high n h)

-- ---- as a value

pub few : (n : ℕ) → size n ≤ 3172 → 54 + cut_places n ≤ 1600
unfolding cut_places
few n h = omega arith

units_fits : (q k : ℕ) → q ≤ 2 ^ 53 → q * 2 ^ k < 2 ^ 2098 → T (fits binary64 (units binary64 false q k))
unfolding units
units_fits q k h l =
    cond-fits binary64 (ltb (q * 2 ^ k) (2 ^ 2098)) (odd 54 false q k 1074) (inf false) (odd-fits binary64 54 false q k (lt_of_le_of_lt h (lit< tt)) h l) (inf-fits binary64 false)

digits_fit : (n : ℕ) → 105 ≤ size n → size n ≤ 3172 → root_digits n * 2 ^ cut_places n < 2 ^ 2098
digits_fit n h g = lt_of_lt_of_le (shl_lt 54 (cut_places n) (lt_of_le_of_lt (digits_high n h) (lit< tt))) (pow_mono {j = 2098} (le_trans (few n g) (lit≤ tt)))

pub units_count : (n : ℕ) → 105 ≤ size n → size n ≤ 3172 → Counts (root_units n) false (root_digits n * 2 ^ cut_places n)
unfolding root_units
units_count n h g = units_val binary64 false (root_digits n) (cut_places n) (digits_fit n h g)

pub units_held : (n : ℕ) → 105 ≤ size n → size n ≤ 3172 → T (fits binary64 (root_units n))
unfolding root_units
units_held n h g = units_fits (root_digits n) (cut_places n) (digits_high n h) (digits_fit n h g)

-- the number of digits of what is not zero
pub enough : (u : ℕ) → 0 < u → 105 ≤ size (u * 2 ^ 1074)
enough u h = pow_lt_back 104 (size (u * 2 ^ 1074)) (lt_of_lt_of_le (lit< tt) (le_trans (le_of_eq (sym (one-mul (2 ^ 1074)))) (le_trans (mul-le-mul_right (2 ^ 1074) h) (le_of_lt (size-lt (u * 2 ^ 1074))))))

pub not_many : (u : ℕ) → u < 2 ^ 2098 → size (u * 2 ^ 1074) ≤ 3172
not_many u h = size-le (u * 2 ^ 1074) 3172 (shl_lt 2098 1074 h)
