-- The digits of a number and how many it has: each step of the definitions is a division by the base. Assumes nothing.
use mathlib.Core.Path.{◌≡◌, refl, sym, ap, ◌∙◌}
use mathlib.Core.List.{List, ◌++◌, [], ◌∷◌}
use Prim.Native.Nat.{ℕ, zero, suc, ◌-◌, ◌*◌, ◌/◌, ◌%◌, ◌^◌, ◌≤◌, ◌<◌, suc-le-suc}
use native.Mathlib.Numerals.{add-one}
use native.Mathlib.Nat.{one-le-pow, pow-suc, div-lt_iff_lt-mul}
use native.Mathlib.Decide.{dec_lt}
use native.Mathlib.Omega.{arith}
use borrow.Author.Tests.{lt-ltb, le-ltb}
use Rattle.std.proofs.Common.{max, lit<}
use Rattle.std.proofs.lemmas.Nat.{le-div}
use lib.ListN.{length, drop, set, length-append}
use Rattle.std.proofs.lemmas.List.{append_assoc, drop-set}
use Rattle.listing_text.specs.Text.{digit, digits, places_within, places}

pub length_digits : (n base count : ℕ) → length (digits n base count) ≡ count
unfolding digits
length_digits n base zero = refl
length_digits n base (suc count) = length-append (digits (n / base) base count) _ ∙ rw (length_digits (n / base) base count) (omega arith)

-- the lowest digit is stored in front of the lower ones, and is the last of the digits before it
pub digit_in_front : (n base i : ℕ) (field : List ℕ) → 0 < i → i ≤ length field
    → digits (n / base) base (i - 1) ++ drop (i - 1) (set field (i - 1) (digit (n % base))) ≡ digits n base i ++ drop i field
unfolding digits
digit_in_front n base zero field h fits = absurd (omega arith)
digit_in_front n base (suc j) field h fits =
    let e : suc j - 1 ≡ j = omega arith in
    rw (e, drop-set field j (digit (n % base)) fits, add-one j) (sym (append_assoc (digits (n / base) base j) (digit (n % base) ∷ []) (drop (suc j) field)))

-- ---- how many decimal digits a number has

within_few : (k n : ℕ) → n < 10 → places_within k n ≡ 1
unfolding places_within
within_few zero n h = refl
within_few (suc k) n h = rw (lt-ltb n 10 h)

within_more : (k n : ℕ) → 10 ≤ n → places_within (suc k) n ≡ suc (places_within k (n / 10))
unfolding places_within
within_more k n h = rw (le-ltb n 10 h)

-- any number from n on ends the recursion alike
within_enough : (k j n : ℕ) → n ≤ k → n ≤ j → places_within k n ≡ places_within j n
within_enough zero j n h g = within_few zero n (omega arith) ∙ sym (within_few j n (omega arith))
within_enough (suc k) zero n h g = within_few (suc k) n (omega arith) ∙ sym (within_few zero n (omega arith))
within_enough (suc k) (suc j) n h g =
    elim (dec_lt n 10) [
      | yes s ↦ within_few (suc k) n s ∙ sym (within_few (suc j) n s)
      | no b ↦ within_more k n (omega arith) ∙ ap suc (within_enough k j (n / 10) (omega arith) (omega arith)) ∙ sym (within_more j n (omega arith))
    ]

pub places_few : (n : ℕ) → n < 10 → places n ≡ 1
places_few n h = within_few n n h

pub places_more : (n : ℕ) → 10 ≤ n → places n ≡ suc (places (n / 10))
places_more zero h = absurd (omega arith)
places_more (suc n) h = within_more n (suc n) h ∙ ap suc (within_enough n (suc n / 10) (suc n / 10) (omega arith) (omega arith))

-- a number below 10 ^ p has at most p digits
pub places_bound : (p n : ℕ) → n < 10 ^ suc p → places n ≤ suc p
places_bound zero n h = rw (places_few n h) (omega arith)
places_bound (suc p) n h =
    elim (dec_lt n 10) [
      | yes s ↦ rw (places_few n s) (omega arith)
      | no b ↦ rw (places_more n (omega arith)) (suc-le-suc (places_bound p (n / 10) ((div-lt_iff_lt-mul (omega arith)).1 (rw pow-suc at h))))
    ]

-- and one that is not below 10 ^ p, more than p
pub places_exactly : (p n : ℕ) → 10 ^ p ≤ n → n < 10 ^ suc p → places n ≡ suc p
places_exactly zero n low high = places_few n high
places_exactly (suc p) n low high =
    let tenth : n / 10 < 10 ^ suc p = (div-lt_iff_lt-mul (lit< tt)).1 (rw pow-suc at high) in
    let tens : 10 ^ p * 10 ≤ n = rw pow-suc at low in
    let one : 1 ≤ 10 ^ p = one-le-pow p 10 (lit< tt) in
    places_more n (omega (arith, one, tens)) ∙ ap suc (places_exactly p (n / 10) (le-div (10 ^ p) n 10 (lit< tt) tens) tenth)

pub places_of_max : (n : ℕ) → places (max n 1) ≡ places n
places_of_max zero = places_few 1 (omega arith) ∙ sym (places_few 0 (omega arith))
places_of_max (suc n) =
    let e : max (suc n) 1 ≡ suc n = omega arith in
    ap places e

-- sections, and numbers of 64 bits
pub three_at_most : (n : ℕ) → n < 512 → places n ≤ 3
three_at_most n h = places_bound 2 n (omega (arith, h))

pub twenty_at_most : (n : ℕ) → n < 2 ^ 64 → places n ≤ 20
twenty_at_most n h = places_bound 19 n (omega (arith, h))
