-- What `round` gives has the sign that it was given: neither `odd` nor an infinity changes it. So a product and a quotient of two values of one sign have
-- their sign clear or are a NaN, and so a sum of two whose signs are clear; and no such value is below zero. Assumes nothing.
use mathlib.Core.Path.{◌≡◌, refl, sym, ap, subst, ◌∙◌}
use mathlib.Core.Bool.{Bool, true, false, not, cond, true≢false}
use Prim.Native.Nat.{ℕ, zero, suc, ◌+◌, ◌*◌, ◌^◌, zero-le}
use native.Mathlib.Nat.{zero-mul}
use borrow.Author.Tests.{le-ltb}
use lib.IntN.{pos}
use lib.Dec.{ltb, eqb}
use lib.Ieee.{Float, nan, inf, fin, Format, prec, emax, low, up, down, unlike, odd, units, round, add, mul, div, lt}
use lib.Ieee.Fits.{round_is}
use lib.Ieee.Order.{kept, drop}

-- ---- what is rounded

abbrev pub Signed : Bool → Float → Type 0
Signed s nan = ⊥
Signed s (inf t) = t ≡ s
Signed s (fin t m e) = t ≡ s

units_sign : (f : Format) (s : Bool) (q k : ℕ) → Signed s (units f s q k)
unfolding units odd
units_sign f s q k = go (ltb (q * 2 ^ k) (2 ^ (low f + suc (emax f)))) q
  where
    go : (b : Bool) (q : ℕ) → Signed s (cond b (odd (suc (prec f)) s q k (low f)) (inf s))
    go true zero = refl
    go true (suc q) = refl
    go false q = refl

pub round_sign : (f : Format) (s : Bool) (a c : ℕ) → Signed s (round f s a c)
round_sign f s a c = subst (Signed s) (sym (round_is f s a c)) (units_sign f s (kept (prec f) (a * 2 ^ low f) c) (drop (prec f) (a * 2 ^ low f) c))

-- ---- whether the sign is set; a NaN has none

abbrev pub minus : Float → Bool
minus nan = false
minus (inf s) = s
minus (fin s m e) = s

signed : (s : Bool) (x : Float) → Signed s x → minus x ≡ s
signed s nan h = absurd h
signed s (inf t) h = h
signed s (fin t m e) h = h

alike : (s t : Bool) → s ≡ t → unlike s t ≡ false
alike true true h = refl
alike true false h = h
alike false true h = sym h
alike false false h = refl

either : (b : Bool) (x y : Float) → minus x ≡ false → minus y ≡ false → minus (cond b x y) ≡ false
either true x y p q = p
either false x y p q = q

module _ (f : Format) where
  rounded : (s t : Bool) (a c : ℕ) → s ≡ t → minus (round f (unlike s t) a c) ≡ false
  rounded s t a c h = signed (unlike s t) (round f (unlike s t) a c) (round_sign f (unlike s t) a c) ∙ alike s t h

  pub mul_clear : (x y : Float) → minus x ≡ minus y → minus (mul f x y) ≡ false
  unfolding mul
  mul_clear nan y h = refl
  mul_clear (inf s) nan h = refl
  mul_clear (inf s) (inf t) h = alike s t h
  mul_clear (inf s) (fin t n d) h = either (eqb n 0) nan (inf (unlike s t)) refl (alike s t h)
  mul_clear (fin s m e) nan h = refl
  mul_clear (fin s m e) (inf t) h = either (eqb m 0) nan (inf (unlike s t)) refl (alike s t h)
  mul_clear (fin s m e) (fin t n d) h = rounded s t (m * up e * (n * up d)) (down e * down d) h

  pub div_clear : (x y : Float) → minus x ≡ minus y → minus (div f x y) ≡ false
  unfolding div
  div_clear nan y h = refl
  div_clear (inf s) nan h = refl
  div_clear (inf s) (inf t) h = refl
  div_clear (inf s) (fin t n d) h = alike s t h
  div_clear (fin s m e) nan h = refl
  div_clear (fin s m e) (inf t) h = alike s t h
  div_clear (fin s m e) (fin t n d) h =
      let x = inf (unlike s t) in
      either (eqb n 0) (cond (eqb m 0) nan x) (round f (unlike s t) (m * up e * down d) (n * up d * down e))
      (either (eqb m 0) nan x refl (alike s t h))
      (rounded s t (m * up e * down d) (n * up d * down e) h)

  pub add_clear : (x y : Float) → minus x ≡ false → minus y ≡ false → minus (add f x y) ≡ false
  unfolding add
  add_clear nan y p q = refl
  add_clear (inf s) nan p q = refl
  add_clear (inf true) (inf t) p q = absurd (true≢false p)
  add_clear (inf false) (inf true) p q = refl
  add_clear (inf false) (inf false) p q = refl
  add_clear (inf s) (fin t n d) p q = p
  add_clear (fin s m e) nan p q = refl
  add_clear (fin s m e) (inf t) p q = q
  add_clear (fin true m e) (fin t n d) p q = absurd (true≢false p)
  add_clear (fin false m e) (fin true n d) p q = absurd (true≢false q)
  add_clear (fin false m e) (fin false n d) p q = rounded false false (m * up e * down d + n * up d * down e) (down e * down d) refl

-- ---- against zero

pub above_zero : (x : Float) → lt (fin false 0 (pos 0)) x ≡ true → minus x ≡ false
unfolding lt
above_zero nan h = refl
above_zero (inf true) h = sym h
above_zero (inf false) h = refl
above_zero (fin true m e) h = sym h
above_zero (fin false m e) h = refl

pub not_below_zero_lem : (x : Float) → minus x ≡ false → lt x (fin false 0 (pos 0)) ≡ false
unfolding lt
not_below_zero_lem nan h = refl
not_below_zero_lem (inf s) h = h
not_below_zero_lem (fin true m e) h = absurd (true≢false h)
not_below_zero_lem (fin false m e) h = rw (zero-mul (down e)) (le-ltb (m * up e * 1) 0 zero-le)

-- ---- against the other sign

-- what has its sign clear is not below what has its sign set
pub not_under : (x y : Float) → Signed false x → Signed true y → lt x y ≡ false
unfolding lt
not_under nan y p q = refl
not_under (inf true) y p q = absurd (true≢false p)
not_under (inf false) nan p q = refl
not_under (inf false) (inf t) p q = refl
not_under (inf false) (fin t n d) p q = refl
not_under (fin true m e) y p q = absurd (true≢false p)
not_under (fin false m e) nan p q = refl
not_under (fin false m e) (inf t) p q = ap not q
not_under (fin false m e) (fin true n d) p q = refl
not_under (fin false m e) (fin false n d) p q = absurd (true≢false (sym q))
