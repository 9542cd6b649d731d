-- `root_of x` is the root of x where x may be rooted (`root_is`), no other f64 is (`one_root_only`), and ties never decide: no f64 is as near as the root
-- (`none_as_near`), and none has a root midway between two neighbours (`no_midway`). Each is read off counts of the smallest f64, where `root_of x` is nearer than
-- any other value. Assumes nothing.
use mathlib.Core.Path.{◌≡◌, refl, sym, ap, ◌∙◌, subst}
use mathlib.Core.Bool.{Bool, true, false, not, cond, true≢false}
use Prim.Native.Nat.{ℕ, ◌+◌, ◌*◌, ◌/◌, ◌^◌, ◌≤◌, ◌<◌}
use native.Mathlib.Nat.{le_of_lt, lt_of_le_of_lt, not-le_of_lt, ne_of_lt, mul-pos, mul-le-mul, mul-le-mul_right, mul-lt-mul_of_pos_right}
use native.Mathlib.Omega.{arith}
use lib.IntN.{ℤ}
use lib.Dec.{T, ltb, ltb→lt, nltb→le}
use lib.Pow.{pow_pos}
use lib.Ieee.{Float, nan, inf, fin, binary64, up, down, fits}
use lib.Ieee.Fits.{down_pos}
use lib.Ieee.Bits.{is_true}
use Rattle.fields.proofs.OwnRounding.{placed, one_value}
use Rattle.fields.proofs.Signs.{minus}
use Rattle.root.specs.Fractions.{exact, sum_of, square_of, Below, AtMost, Equal}
use Rattle.root.specs.Root.{rootable, plus, MayBeRoot, twice_middle_squared, twice_root_squared, AsNear, IsRoot, root_units, root_of, Neighbours}
use Rattle.root.proofs.Patterns.{count_is}
use Rattle.root.proofs.Fractions.{Scaled, sum_scaled, square_scaled, four_scaled, sum_swapped, units_below, below_units, units_at_most, at_most_units, units_equal}
use Rattle.root.proofs.Nearest.{greater_multiple, Nearest, nearest_of}

-- ---- values as so many of the smallest f64

-- a value that a root may be
record InUnits (q : Float) : Type 0 where
  digits : ℕ
  place : ℕ
  short : digits < 2 ^ 53
  scaled : Scaled (exact q) (2 ^ 1074) (digits * 2 ^ place)
  denominator : 0 < (exact q).denominator

in_units : (q : Float) → MayBeRoot q → InUnits q
in_units nan h = absurd h.sign
in_units (inf s) h = absurd h.sign
in_units (fin s m e) h = let p = placed binary64 s m e h.held in record { digits = m; place = p.place; short = p.short; scaled = p.value; denominator = down_pos e }

abbrev counted : (q : Float) → MayBeRoot q → ℕ
counted q h = (in_units q h).digits * 2 ^ (in_units q h).place

middle_scaled : (q r : Float) (u v : ℕ) → Scaled (exact q) (2 ^ 1074) u → Scaled (exact r) (2 ^ 1074) v → Scaled (twice_middle_squared q r) (2 ^ 1074 * 2 ^ 1074) ((u + v) * (u + v))
middle_scaled q r u v p o = square_scaled (sum_of (exact q) (exact r)) (2 ^ 1074) (u + v) (sum_scaled (exact q) (exact r) (2 ^ 1074) u v p o)

middle_denominator : (q r : Float) → 0 < (exact q).denominator → 0 < (exact r).denominator → 0 < (twice_middle_squared q r).denominator
middle_denominator q r a b = mul-pos (mul-pos a b) (mul-pos a b)

-- the argument, and its root
record Rooted (x : Float) : Type 0 where
  count : ℕ
  scaled : Scaled (exact x) (2 ^ 1074) count
  denominator : 0 < (exact x).denominator
  root : Nearest (count * 2 ^ 1074) (root_of x)

pub root_of_is : (s : Bool) (m : ℕ) (e : ℤ) (u : ℕ) → rootable (fin s m e) ≡ true → m * up e * 2 ^ 1074 ≡ u * down e → root_of (fin s m e) ≡ root_units (u * 2 ^ 1074)
unfolding root_of
root_of_is s m e u a v =
    ap (λ (t : Bool). cond t (root_units (m * up e * 2 ^ 1074 / down e * 2 ^ 1074)) nan) a ∙ ap (λ (x : ℕ). root_units (x * 2 ^ 1074)) (count_is m e u v)

rooted : (x : Float) → T (fits binary64 x) → rootable x ≡ true → Rooted x
unfolding rootable
rooted nan f a = absurd (true≢false (sym a))
rooted (inf s) f a = absurd (true≢false (sym a))
rooted (fin s m e) f a =
    let p = placed binary64 s m e f in
    let u = m * 2 ^ p.place in
    record {
      count = u;
      scaled = p.value;
      denominator = down_pos e;
      root = subst (λ (r : Float). Nearest (u * 2 ^ 1074) r) (sym (root_of_is s m e u a p.value)) (nearest_of m p.place p.short p.below);
    }

nearest_scaled : (n : ℕ) (r : Float) (i : Nearest n r) → Scaled (exact r) (2 ^ 1074) i.count
nearest_scaled n nan i = absurd i.counts
nearest_scaled n (inf s) i = absurd i.counts
nearest_scaled n (fin s m e) i = i.counts.1

nearest_may : (n : ℕ) (r : Float) → Nearest n r → MayBeRoot r
nearest_may n nan i = absurd i.counts
nearest_may n (inf s) i = absurd i.counts
nearest_may n (fin true m e) i = absurd (true≢false i.counts.0)
nearest_may n (fin false m e) i = record { held = i.held; sign = tt }

-- ---- the middles of the root and of other values
module _ (x : Float) (A : Rooted x) where
  abbrev r : Float
  r = root_of x

  abbrev w : ℕ
  w = A.root.count

  may : MayBeRoot r
  may = nearest_may (A.count * 2 ^ 1074) r A.root

  r_scaled : Scaled (exact r) (2 ^ 1074) w
  r_scaled = nearest_scaled (A.count * 2 ^ 1074) r A.root

  x_scaled : Scaled (twice_root_squared x) (2 ^ 1074 * 2 ^ 1074) (4 * (A.count * 2 ^ 1074))
  x_scaled = four_scaled (exact x) (2 ^ 1074) A.count A.scaled

  positive : 0 < (exact r).denominator
  positive = (in_units r may).denominator

  module _ (q : Float) (h : MayBeRoot q) where
    abbrev v : InUnits q
    v = in_units q h

    abbrev c : ℕ
    c = counted q h

    nearer_below : Below (exact q) (exact r) → Below (twice_middle_squared q r) (twice_root_squared x)
    nearer_below b =
        below_units (twice_middle_squared q r) (twice_root_squared x) (2 ^ 1074 * 2 ^ 1074) ((c + w) * (c + w)) (4 * (A.count * 2 ^ 1074)) (middle_scaled q r c w v.scaled r_scaled) x_scaled (middle_denominator q r v.denominator positive) A.denominator
        (A.root.less v.digits v.place v.short (units_below (exact q) (exact r) (2 ^ 1074) c w v.scaled r_scaled (pow_pos 1074) b))

    nearer_above : Below (exact r) (exact q) → Below (twice_root_squared x) (twice_middle_squared q r)
    nearer_above b =
        below_units (twice_root_squared x) (twice_middle_squared q r) (2 ^ 1074 * 2 ^ 1074) (4 * (A.count * 2 ^ 1074)) ((c + w) * (c + w)) x_scaled (middle_scaled q r c w v.scaled r_scaled) A.denominator (middle_denominator q r v.denominator positive)
        (A.root.more v.digits v.place v.short (units_below (exact r) (exact q) (2 ^ 1074) w c r_scaled v.scaled (pow_pos 1074) b))

neither : (a b : ℕ) → (a < b → ⊥) → (b < a → ⊥) → a ≡ b
neither a b f g = omega arith

-- ---- the theorems

none_as_near_of : (x : Float) → Rooted x → (q : Float) → MayBeRoot q → AsNear x q (root_of x) → ⊥
none_as_near_of x A q h t = t.other (neither ((exact q).numerator * (exact (root_of x)).denominator) ((exact (root_of x)).numerator * (exact q).denominator) (λ b. ne_of_lt (nearer_below x A q h b) t.midway) (λ b. ne_of_lt (nearer_above x A q h b) (sym t.midway)))

pub root_is : (x : Float) → T (fits binary64 x) → rootable x ≡ true → IsRoot x (root_of x)
root_is x f a =
    let A = rooted x f a in
    record {
      allowed = subst T (sym a) tt;
      value = may x A;
      below = λ q h b. le_of_lt (nearer_below x A q h b);
      above = λ q h b. le_of_lt (nearer_above x A q h b);
      even = λ q h t. absurd (none_as_near_of x A q h t);
    }

same_value : (r q : Float) → MayBeRoot r → MayBeRoot q → Equal (exact r) (exact q) → r ≡ q
same_value nan q i j e = absurd i.sign
same_value (inf s) q i j e = absurd i.sign
same_value (fin true m c) q i j e = absurd i.sign
same_value (fin false m c) nan i j e = absurd j.sign
same_value (fin false m c) (inf s) i j e = absurd j.sign
same_value (fin false m c) (fin true n d) i j e = absurd j.sign
same_value (fin false m c) (fin false n d) i j e =
    one_value binary64 (fin false m c) (fin false n d) false (m * up c) (down c) (down_pos c) i.held j.held (refl, refl) (refl, sym e)

-- where r lay beside `root_of x`, the middle of both would be on either side of the exact root
pub is_root_of : (x r : Float) → T (fits binary64 x) → IsRoot x r → r ≡ root_of x
is_root_of x r f i = same_value r w i.value (may x A) (neither ((exact r).numerator * (exact w).denominator) ((exact w).numerator * (exact r).denominator) less more)
  where
    A : Rooted x
    A = rooted x f (is_true (rootable x) i.allowed)

    w : Float
    w = root_of x

    swap : twice_middle_squared w r ≡ twice_middle_squared r w
    swap = ap square_of (sum_swapped (exact w) (exact r))

    less : Below (exact r) (exact w) → ⊥
    less b = not-le_of_lt (nearer_below x A r i.value b) (subst (λ m. AtMost (twice_root_squared x) m) swap (i.above w (may x A) b))

    more : Below (exact w) (exact r) → ⊥
    more b = not-le_of_lt (nearer_above x A r i.value b) (subst (λ m. AtMost m (twice_root_squared x)) swap (i.below w (may x A) b))

pub one_root_only : (x r q : Float) → T (fits binary64 x) → IsRoot x r → IsRoot x q → r ≡ q
one_root_only x r q f i j = is_root_of x r f i ∙ sym (is_root_of x q f j)

pub none_as_near : (x r q : Float) → T (fits binary64 x) → IsRoot x r → MayBeRoot q → AsNear x q r → ⊥
none_as_near x r q f i h t = none_as_near_of x (rooted x f (is_true (rootable x) i.allowed)) q h (subst (λ (w : Float). AsNear x q w) (is_root_of x r f i) t)

-- `root_of x` would be at most p, and then its middle with q at most the exact root, or at least q, and then its middle with p at least the exact root:
-- neither is so of the nearest.
pub no_midway : (x p q : Float) → T (fits binary64 x) → T (rootable x) → Neighbours p q → Equal (twice_middle_squared p q) (twice_root_squared x) → ⊥
no_midway x p q f a n e = go (ltb P w) (ltb→lt P w) (nltb→le P w)
  where
    A : Rooted x
    A = rooted x f (is_true (rootable x) a)

    w : ℕ
    w = A.root.count

    v : InUnits p
    v = in_units p n.first

    o : InUnits q
    o = in_units q n.second

    P : ℕ
    P = counted p n.first

    Q : ℕ
    Q = counted q n.second

    same : (P + Q) * (P + Q) ≡ 4 * (A.count * 2 ^ 1074)
    same =
        units_equal (twice_middle_squared p q) (twice_root_squared x) (2 ^ 1074 * 2 ^ 1074) ((P + Q) * (P + Q)) (4 * (A.count * 2 ^ 1074)) (middle_scaled p q P Q v.scaled o.scaled) (x_scaled x A) (middle_denominator p q v.denominator o.denominator) A.denominator e

    reaches : P < w → Q ≤ w
    reaches l =
        units_at_most (exact q) (exact (root_of x)) (2 ^ 1074) Q w o.scaled (r_scaled x A) o.denominator (positive x A)
        (n.next (root_of x) (may x A) (below_units (exact p) (exact (root_of x)) (2 ^ 1074) P w v.scaled (r_scaled x A) v.denominator (positive x A) l))

    go : (b : Bool) → (T b → P < w) → (T (not b) → w ≤ P) → ⊥
    go true l g =
        let s : P + Q ≤ P + w = omega (arith, reaches (l tt)) in
        not-le_of_lt (A.root.less v.digits v.place v.short (l tt)) (subst (λ (y : ℕ). y ≤ (P + w) * (P + w)) same (mul-le-mul s s))
    go false l g =
        let r : P < Q = units_below (exact p) (exact q) (2 ^ 1074) P Q v.scaled o.scaled (pow_pos 1074) n.rising in
        let s : Q + w ≤ P + Q = omega (arith, g tt) in
        not-le_of_lt (A.root.more o.digits o.place o.short (lt_of_le_of_lt (g tt) r)) (subst (λ (y : ℕ). (Q + w) * (Q + w) ≤ y) same (mul-le-mul s s))

-- whole numbers of 53 digits that follow one another are neighbours, times any power of two
pub neighbours_of : (k n : ℕ) (p q : Float) → 2 ^ 52 ≤ n → MayBeRoot p → MayBeRoot q → Scaled (exact p) (2 ^ 1074) (n * 2 ^ k) → Scaled (exact q) (2 ^ 1074) ((n + 1) * 2 ^ k) → Neighbours p q
neighbours_of k n p q N i j P Q = record {
  first = i;
  second = j;
  rising =
      below_units (exact p) (exact q) (2 ^ 1074) (n * 2 ^ k) ((n + 1) * 2 ^ k) P Q (in_units p i).denominator (in_units q j).denominator
      (mul-lt-mul_of_pos_right (let l : n < n + 1 = omega arith in l) (pow_pos k));
  next = λ r h b.
      let v = in_units r h in
      let l : n * 2 ^ k < counted r h = units_below (exact p) (exact r) (2 ^ 1074) (n * 2 ^ k) (counted r h) P v.scaled (pow_pos 1074) b in
      at_most_units (exact q) (exact r) (2 ^ 1074) ((n + 1) * 2 ^ k) (counted r h) Q v.scaled (in_units q j).denominator v.denominator (pow_pos 1074) (reaches v.digits v.place v.short l);
}
  where
    reaches : (m i : ℕ) → m < 2 ^ 53 → n * 2 ^ k < m * 2 ^ i → (n + 1) * 2 ^ k ≤ m * 2 ^ i
    reaches m i M l =
        let g = greater_multiple k n m i N M l in
        rw g.2 (mul-le-mul_right (2 ^ k) (let a : n < g.0 = g.1 in omega arith))

-- ---- the root has its sign clear, and at an argument that question 23 refuses it is a NaN

none_refused : (s : Bool) (m : ℕ) (e : ℤ) → rootable (fin s m e) ≡ false → root_of (fin s m e) ≡ nan
unfolding root_of
none_refused s m e a = rw a refl

plus_clear : (r : Float) → T (plus r) → minus r ≡ false
plus_clear nan h = absurd h
plus_clear (inf s) h = absurd h
plus_clear (fin true m e) h = absurd h
plus_clear (fin false m e) h = refl

pub root_clear : (x : Float) → T (fits binary64 x) → minus (root_of x) ≡ false
unfolding root_of
root_clear nan f = refl
root_clear (inf s) f = refl
root_clear (fin s m e) f = go (rootable (fin s m e)) refl
  where
    go : (b : Bool) → rootable (fin s m e) ≡ b → minus (root_of (fin s m e)) ≡ false
    go true a = plus_clear (root_of (fin s m e)) (root_is (fin s m e) f a).value.sign
    go false a = ap minus (none_refused s m e a)
