-- A fraction rounded, against a value that fits: `round` keeps the order, and leaves a value that fits as it is. Either sign. Assumes nothing.
use mathlib.Core.Path.{◌≡◌, refl, sym, ap, ◌∙◌}
use mathlib.Core.Bool.{Bool, true, false, ◌&&◌, ◌||◌, cond, true≢false}
use Prim.Native.Nat.{ℕ, zero, suc, ◌+◌, ◌*◌, ◌^◌, ◌≤◌, ◌<◌}
use native.Mathlib.Nat.{le_of_eq, le_of_lt, lt_of_not-le, add_comm}
use borrow.Author.Tests.{le-ltb}
use lib.IntN.{ℤ}
use lib.Dec.{T, ltb, eqb, ltb→lt, eqb→eq}
use lib.Ieee.{Float, nan, inf, fin, Format, prec, emax, low, up, down, odd, units, round, neg, fits, lt, le}
use lib.Ieee.Fits.{down_pos, round_is}
use lib.Ieee.Order.{round_mono, kept, drop}
use Rattle.fields.proofs.OwnRounding.{round_own}
use Rattle.fields.proofs.Signs.{Signed, round_sign}

-- ---- with the other sign

units_neg : (f : Format) (q k : ℕ) → units f true q k ≡ neg (units f false q k)
unfolding units odd neg
units_neg f q k = go (ltb (q * 2 ^ k) (2 ^ (low f + suc (emax f)))) q
  where
    go : (b : Bool) (q : ℕ) → cond b (odd (suc (prec f)) true q k (low f)) (inf true) ≡ neg (cond b (odd (suc (prec f)) false q k (low f)) (inf false))
    go true zero = refl
    go true (suc q) = refl
    go false q = refl

pub round_neg : (f : Format) (a c : ℕ) → round f true a c ≡ neg (round f false a c)
round_neg f a c =
    round_is f true a c
    ∙ units_neg f (kept (prec f) (a * 2 ^ low f) c) (drop (prec f) (a * 2 ^ low f) c)
    ∙ ap neg (sym (round_is f false a c))

-- the order of two values turns round with their signs
pub lt-neg : (x : Float) (p : ℕ) (g : ℤ) → lt (neg x) (fin true p g) ≡ lt (fin false p g) x
unfolding lt neg
lt-neg nan p g = refl
lt-neg (inf s) p g = refl
lt-neg (fin true a b) p g = refl
lt-neg (fin false a b) p g = refl

pub neg-lt : (x : Float) (p : ℕ) (g : ℤ) → lt (fin true p g) (neg x) ≡ lt x (fin false p g)
unfolding lt neg
neg-lt nan p g = refl
neg-lt (inf true) p g = refl
neg-lt (inf false) p g = refl
neg-lt (fin true a b) p g = ap (ltb 0) (add_comm (p * up g * down b) (a * up b * down g))
neg-lt (fin false a b) p g = refl

-- ---- the order of two values of which one is finite, both with the sign clear

of_le : (a b : ℕ) → T (ltb a b || (eqb a b && true)) → a ≤ b
of_le a b = go (ltb a b) (eqb a b) (ltb→lt a b) (eqb→eq a b)
  where
    go : (x y : Bool) → (T x → a < b) → (T y → a ≡ b) → T (x || (y && true)) → a ≤ b
    go true y f g t = le_of_lt (f tt)
    go false true f g t = le_of_eq (g tt)
    go false false f g t = absurd t

not_below : (m : ℕ) (e : ℤ) (r : Float) → Signed false r → T (le (fin false m e) r) → lt r (fin false m e) ≡ false
unfolding le lt
not_below m e nan s t = refl
not_below m e (inf u) s t = s
not_below m e (fin true k j) s t = absurd (true≢false s)
not_below m e (fin false k j) s t = le-ltb (k * up j * down e) (m * up e * down j) (of_le (m * up e * down j) (k * up j * down e) t)

not_above : (m : ℕ) (e : ℤ) (r : Float) → Signed false r → T (le r (fin false m e)) → lt (fin false m e) r ≡ false
unfolding le lt
not_above m e nan s t = refl
not_above m e (inf true) s t = refl
not_above m e (inf false) s t = absurd t
not_above m e (fin true k j) s t = absurd (true≢false s)
not_above m e (fin false k j) s t = le-ltb (m * up e * down j) (k * up j * down e) (of_le (k * up j * down e) (m * up e * down j) t)

-- ---- a fraction rounded, and a value that fits, both with the sign clear

module _ (f : Format) (m : ℕ) (e : ℤ) (t : T (fits f (fin false m e))) (a c : ℕ) (C : 0 < c) where
  abbrev r : Float
  r = round f false a c

  pub at_least : m * up e * c ≤ a * down e → lt r (fin false m e) ≡ false
  at_least h = not_below m e r (round_sign f false a c) (rw (round_own f false m e t) at (round_mono f (m * up e) (down e) a c (down_pos e) C h))

  pub at_most : a * down e ≤ m * up e * c → lt (fin false m e) r ≡ false
  at_most h = not_above m e r (round_sign f false a c) (rw (round_own f false m e t) at (round_mono f a c (m * up e) (down e) C (down_pos e) h))

  -- the other way round
  pub less : lt r (fin false m e) ≡ true → a * down e < m * up e * c
  less q = lt_of_not-le (λ h. true≢false (sym q ∙ at_least h))

  pub more : lt (fin false m e) r ≡ true → m * up e * c < a * down e
  more q = lt_of_not-le (λ h. true≢false (sym q ∙ at_most h))
