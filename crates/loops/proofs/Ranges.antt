-- `(0..n).all(t)` and `(0..n).any(t)`, where t answers `p i` at i and leaves alone what it captures: what the call's clause `ran` says by `all_below`.
-- all_ran   of `all`;  any_ran   of `any`, which has a no exactly where each fails. Assumes nothing.
use mathlib.Core.Path.{◌≡◌, sym, ap, ◌∙◌}
use mathlib.Core.Bool.{Bool, true, false, not}
use mathlib.Core.List.{List}
use Prim.Native.Nat.{ℕ, ◌<◌}
use native.Mathlib.Nat.{zero-add}
use native.Mathlib.Omega.{arith}
use lib.ListN.{length}
use denote.Param.Members.{Mut}
use Rattle.std.specs.Prelude.{Option}
use Rattle.std.specs.declared.ops.Range.{Range}
use Rattle.std.specs.Bool.{MatchBool}
use Rattle.std.specs.Fn.{Called}
use Rattle.std.specs.Iterator.{YieldsThen}
use Rattle.std.specs.List.{FoldsTo, AllWithin, HoldsAt, range_with_len}
use Rattle.std.specs.Option.{MatchOption}
use Rattle.std.proofs.iter.Yields.{nat_range_steps}
use Rattle.std.proofs.lemmas.Iterator.{cases_from_all, cases_from_any, YieldsList-from_range}
use Rattle.std.proofs.lemmas.List.FromFn.{length-range_with_len, get_or-range_with_len}
use Rattle.loops.specs.Loops.{all_below}
use Rattle.loops.proofs.All.{all_of, all_stop}

-- the numbers of the range as the library lists them
module _ (P : ℕ → Type 0) (n : ℕ) where
  abbrev below : List ℕ
  below = range_with_len 0 n

  number_at : (k : ℕ) → k < n → HoldsAt P below k → P k
  number_at k l h = let e = get_or-range_with_len 0 n k 0 l ∙ zero-add k in let h0 = h 0 in rw e at h0

  each_number : AllWithin P below 0 (length below) → (k : ℕ) → k < n → P k
  each_number h k l = number_at k l (λ d. h k d (omega arith) (omega (arith, length-range_with_len 0 n)))

  one_number : (k : ℕ) × (k < length below) × HoldsAt P below k → (k : ℕ) × (k < n) × P k
  one_number (k, l, h) = let m : k < n = omega (arith, length-range_with_len 0 n) in (k, m, number_at k m h)

module _ (p : ℕ → Bool) (n : ℕ) where
  all_told :
      (r : Bool) → MatchBool r ((k : ℕ) → k < n → p k ≡ true) ((k : ℕ) × (k < n) × (p k ≡ false)) → r ≡ all_below p n
  all_told true h = sym (all_of p n h)
  all_told false (k, l, e) = sym (all_stop p k n l e)

  any_told :
      (r : Bool) → MatchBool r ((k : ℕ) × (k < n) × (p k ≡ true)) ((k : ℕ) → k < n → p k ≡ false) → r ≡ not (all_below (λ k. not (p k)) n)
  any_told true (k, l, e) = ap not (sym (all_stop (λ k. not (p k)) k n l (ap not e)))
  any_told false h = ap not (sym (all_of (λ k. not (p k)) n (λ k l. ap not (h k l))))

match_cong : {P P' Q Q' : Type 0} (r : Bool) → (P → P') → (Q → Q') → MatchBool r P Q → MatchBool r P' Q'
match_cong true h k = h
match_cong false h k = k

-- f is what the closure has captured, g what it does, s the range
module _ {F : Type 0} {g : Mut F (ℕ × Unit {0}) Bool} {s u : Range ℕ} {f : F} {r : Bool} (p : ℕ → Bool) (n : ℕ) where
  pub all_ran :
      (xs : List ℕ) × (o : Option ℕ) × (j : F) × YieldsThen nat_range_steps s xs o u × FoldsTo (λ h x q. Called g h (x, tt) true q) f xs j
      × MatchOption o (r ≡ true) (λ x. (r ≡ false) × ((h : F) × Called g j (x, tt) false h))
      → s ≡ record { start = 0; end = n } → ((x : ℕ) (b : Bool) (q : F) → Called g f (x, tt) b q → (q ≡ f) × (b ≡ p x)) → r ≡ all_below p n
  all_ran ran e answers =
      all_told p n r (
      match_cong r (each_number (λ k. p k ≡ true) n) (one_number (λ k. p k ≡ false) n) (
      cases_from_all u f r (λ k. p k ≡ true) (λ k. p k ≡ false) ran (YieldsList-from_range 0 n n e (omega arith))
      (λ x q k. let a = answers x true q k in (a.0, sym a.1)) (λ x q k. sym (answers x false q k).1)
      )
      )

  pub any_ran :
      (xs : List ℕ) × (o : Option ℕ) × (j : F) × YieldsThen nat_range_steps s xs o u × FoldsTo (λ h x q. Called g h (x, tt) false q) f xs j
      × MatchOption o (r ≡ false) (λ x. (r ≡ true) × ((h : F) × Called g j (x, tt) true h))
      → s ≡ record { start = 0; end = n } → ((x : ℕ) (b : Bool) (q : F) → Called g f (x, tt) b q → (q ≡ f) × (b ≡ p x))
      → r ≡ not (all_below (λ k. not (p k)) n)
  any_ran ran e answers =
      any_told p n r (
      match_cong r (one_number (λ k. p k ≡ true) n) (each_number (λ k. p k ≡ false) n) (
      cases_from_any u f r (λ k. p k ≡ true) (λ k. p k ≡ false) ran (YieldsList-from_range 0 n n e (omega arith))
      (λ x q k. sym (answers x true q k).1) (λ x q k. let a = answers x false q k in (a.0, sym a.1))
      )
      )
