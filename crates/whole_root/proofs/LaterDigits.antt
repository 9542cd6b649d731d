-- The square of the root in its place and `unit` times what is kept of the rest make the number at every turn. A turn halves `unit`, which doubles what is
-- kept; where the next digit is 1, with place p, the square grows by 2·root·p + p·p, which is p times the trial. Assumes nothing.
use mathlib.Core.Path.{◌≡◌, refl, sym, ap, ◌∙◌}
use Prim.Native.Nat.{ℕ, zero, suc, ◌+◌, ◌-◌, ◌*◌, ◌/◌, ◌^◌, ◌≤◌, ◌<◌}
use native.Mathlib.Nat.{pow-suc}
use native.Mathlib.Omega.{arith}
use lib.Pow.{pow_pos}
use Rattle.whole_root.specs.Digits.{LeavesRest, FirstDigits}

-- half of a power of two above 1
record Halved (unit : ℕ) : Type 0 where
  power : ℕ
  half : unit / 2 ≡ 2 ^ power
  whole : unit ≡ 2 * (unit / 2)

halved : (d unit : ℕ) → unit ≡ 2 ^ d → 1 < unit → Halved unit
halved zero unit e h = absurd (omega arith)
halved (suc d) unit e h =
    let f : unit ≡ 2 ^ d * 2 = e ∙ pow-suc 2 d in
    record { power = d; half = omega (arith, f); whole = omega (arith, f) }

-- The root of n so far, in its place and twice over, and what is kept of n, twice over: the digits to come count less than `unit`.
pub record Kept (n down twice unit : ℕ) : Type 0 where
  root : ℕ
  rest : ℕ
  power : ℕ
  double : twice ≡ 2 * root
  doubled : down ≡ 2 * rest
  place : unit ≡ 2 ^ power
  all : root * root + rest * unit ≡ n
  small : rest < 2 * root + unit
  short : root + unit ≤ 2 ^ 53

one_more : (n q p x y : ℕ) → q * q + x * (2 * p) ≡ n → y + (2 * q + p) ≡ 2 * x → (q + p) * (q + p) + y * p ≡ n
one_more n q p x y e f =
    let g : (y + (2 * q + p)) * p ≡ 2 * x * p = ap (λ (z : ℕ). z * p) f in
    omega (arith, e, g)

module _ {n down twice unit : ℕ} (k : Kept n down twice unit) (more : 1 < unit) where
  abbrev h : Halved unit
  h = halved k.power unit k.place more

  with_halves : k.root * k.root + k.rest * (2 * (unit / 2)) ≡ n
  with_halves = ap (λ (u : ℕ). k.root * k.root + k.rest * u) (sym h.whole) ∙ k.all

  pub one_digit : twice + unit / 2 ≤ down → Kept n (down * 2 - (twice + unit / 2) * 2) (twice + unit / 2 + unit / 2) (unit / 2)
  one_digit l = record {
    root = k.root + unit / 2;
    rest = down - (twice + unit / 2);
    power = h.power;
    double = omega (arith, k.double);
    doubled = omega (arith, l);
    place = h.half;
    all = one_more n k.root (unit / 2) k.rest (down - (twice + unit / 2)) with_halves (omega (arith, k.double, k.doubled, l));
    small = omega (arith, k.small, k.double, k.doubled, h.whole);
    short = omega (arith, k.short, h.whole);
  }

  pub zero_digit : down < twice + unit / 2 → Kept n (down * 2 - 0) twice (unit / 2)
  zero_digit l = record {
    root = k.root;
    rest = down;
    power = h.power;
    double = k.double;
    doubled = omega arith;
    place = h.half;
    all = omega (arith, with_halves, k.doubled, ap (λ (x : ℕ). x * (unit / 2)) k.doubled);
    small = omega (arith, l, k.double);
    short = omega (arith, k.short, h.whole);
  }

-- with no digit to come
pub finished : {n down twice unit : ℕ} → Kept n down twice unit → unit ≤ 1 → LeavesRest n (twice / 2) (down / 2)
finished {n} {down} {twice} {unit} k l = go k.power k.place
  where
    go : (d : ℕ) → unit ≡ 2 ^ d → LeavesRest n (twice / 2) (down / 2)
    go zero e =
        let r : twice / 2 ≡ k.root = omega (arith, k.double) in
        let s : down / 2 ≡ k.rest = omega (arith, k.doubled) in
        let a : k.root * k.root + k.rest * 1 ≡ n = ap (λ (u : ℕ). k.root * k.root + k.rest * u) (sym e) ∙ k.all in
        rw (r, s) (record { all = omega (arith, a); small = omega (arith, k.small, e) })
    go (suc d) e = let f : unit ≡ 2 ^ d * 2 = e ∙ pow-suc 2 d in absurd (omega (arith, f, l, pow_pos d))

-- at entry: no digit after the first twelve is known
pub begun : (root rest low : ℕ) → FirstDigits root rest low
    → Kept (((root * root + rest) * 2 ^ 30 + low) * 2 ^ 52) (rest * 0x400_0000_0000 + low * 0x1000) (root * 0x400_0000_0000) 0x200_0000_0000
begun root rest low f = record {
  root = root * 0x200_0000_0000;
  rest = rest * 0x200_0000_0000 + low * 0x800;
  power = 41;
  double = omega arith;
  doubled = omega arith;
  place = refl;
  all = omega arith;
  small = omega (arith, f.small, f.room);
  short = omega (arith, f.short);
}

-- what is kept, its double and the trial fit
pub kept_fits : {n down twice unit : ℕ} → Kept n down twice unit → down < 2 ^ 56
kept_fits k = omega (arith, k.small, k.short, k.doubled)

pub trial_fits : {n down twice unit : ℕ} → Kept n down twice unit → twice + unit ≤ 2 ^ 54
trial_fits k = omega (arith, k.double, k.short)
