-- What the code reads at a place of a row is the row's entry there; so a number stored by a rule from what was read there is the row's by that rule, and the
-- next one too, where it was read before the stores. Assumes nothing.
use mathlib.Core.Path.{◌≡◌, refl, ap, ◌∙◌}
use mathlib.Core.List.{List}
use Prim.Native.Nat.{ℕ, ◌+◌, ◌<◌}
use native.Mathlib.Omega.{arith}
use lib.ListN.{length, get_or, set}
use lib.Ieee.{Float, nan}
use Rattle.fields.specs.Real.{zero64}
use Rattle.loops.proofs.Within.{get_or_within}
use Rattle.loops.proofs.Fill.{fill_none, fill_step}
use Rattle.section.specs.SectionRows.{entry, enveloped, ruled}

pub read : (row : List Float) (s : ℕ) → s < length row → get_or row s nan ≡ entry row s
read row s h = get_or_within row s nan zero64 h

module _ (rule : Float → Float → Float) (f : ℕ → Float) (row : List Float) (at : ℕ) where
  pub stored_one : {u : Float} → at < length row → u ≡ rule (get_or row at nan) (f 0) → set row at u ≡ ruled rule f row at 1
  stored_one b e =
      let g : ℕ → Float = enveloped rule f row at in
      let p : at ≡ at + 0 = omega arith in
      fill_step g row at (fill_none g row at) p (e ∙ ap (λ (x : Float). rule x (f 0)) (read row at b ∙ ap (entry row) p))

  pub stored_two : {u v : Float} → at + 1 < length row → u ≡ rule (get_or row at nan) (f 0) → v ≡ rule (get_or row (at + 1) nan) (f 1)
      → set (set row at u) (at + 1) v ≡ ruled rule f row at 2
  stored_two b e d = fill_step (enveloped rule f row at) row at (stored_one (omega arith) e) refl (d ∙ ap (λ (x : Float). rule x (f 1)) (read row (at + 1) b))
