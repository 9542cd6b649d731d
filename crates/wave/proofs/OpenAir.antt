-- A valve into open air. Where y is not above zero the definition's test gives q = +0, and B - (+0) is B, since a sum fits. Where y is above zero, y, w and
-- the root have their signs clear or are NaNs, so q too, made of them by sums, products and a quotient. Assumes nothing.
use mathlib.Core.Path.{◌≡◌, refl, sym, ap, ◌∙◌}
use mathlib.Core.Bool.{Bool, true, false, not, ◌||◌, cond}
use mathlib.Core.List.{List, [], ◌∷◌}
use Rattle.std.specs.Prelude.{Some, None}
use lib.Dec.{T}
use lib.Ieee.{Float, binary64, fits, lt, eq, of_bits}
use lib.Ieee.Fits.{add-fits}
use lib.Ieee.Bits.{of_bits-fits}
use lib.Ieee.Scale.{finite}
use Rattle.fields.specs.Real.{◌⊞◌, ◌⊟◌, ◌⊠◌, zero64, four64}
use Rattle.fields.proofs.OwnRounding.{sub_plus_zero}
use Rattle.fields.proofs.Signs.{minus, mul_clear, div_clear, add_clear, above_zero, not_below_zero_lem}
use Rattle.root.specs.Root.{root_of}
use Rattle.root.proofs.Relation.{root_clear}
use Rattle.wave.specs.declared.Sums.{Sums}
use Rattle.wave.specs.Wave.{sum_from, sums_of}
use Rattle.wave.specs.Nodes.{rooted, valve_w, valve_y, orifice_argument, orifice_rate, orifice_flow, valve_flow, head_less, node_head}
use Rattle.wave.specs.OpenAir.{NotAbove, EachAbove, OpenAir}

-- ---- q and H where y is not above zero

sum_fits : (x : Float) (ys : List Float) → T (fits binary64 x) → T (fits binary64 (sum_from x ys))
unfolding sum_from
sum_fits x [] t = t
sum_fits x (y ∷ ys) t = sum_fits (x ⊞ y) ys (add-fits binary64 x y)

less_zero : (x : Float) → T (fits binary64 x) → x ⊟ zero64 ≡ x
unfolding of_bits
less_zero x t = sub_plus_zero binary64 x t

nothing : (v a b : Float) (s : Sums) → NotAbove b s → valve_flow v a b s ≡ Some zero64
unfolding valve_flow orifice_flow
nothing v a b s h = rw h

-- ---- q is not below zero

t_clear : (x : Float) (Ss : List Float) → minus x ≡ false → EachAbove Ss → minus (sum_from x Ss) ≡ false
unfolding sum_from of_bits
t_clear x [] X h = X
t_clear x (S ∷ Ss) X h = t_clear (x ⊞ S) Ss (add_clear binary64 x S X (above_zero S h.0)) h.1

w_clear : (v a T : Float) → minus T ≡ false → minus (valve_w v a T) ≡ false
unfolding valve_w
w_clear v a T h = div_clear binary64 ((v ⊠ a) ⊠ (v ⊠ a)) T (mul_clear binary64 (v ⊠ a) (v ⊠ a) refl ∙ sym h)

rate_clear : (w y : Float) → minus w ≡ false → minus y ≡ false → minus (orifice_rate w y) ≡ false
unfolding orifice_rate orifice_argument
rate_clear w y W Y =
    let g = orifice_argument w y in
    let r = root_of g in
    div_clear binary64 ((y ⊞ y) ⊠ w) (w ⊞ r)
    (mul_clear binary64 (y ⊞ y) w (add_clear binary64 y y Y Y ∙ sym W) ∙ sym (add_clear binary64 w r W (root_clear g (add-fits binary64 (w ⊠ w) (four64 ⊠ (w ⊠ y))))))

not_back : (w y q : Float) → minus w ≡ false → orifice_flow w y ≡ Some q → lt q zero64 ≡ false
unfolding orifice_flow rooted of_bits
not_back w y q W = go (lt zero64 y) refl (eq w zero64) (finite (orifice_argument w y))
  where
    flows : (x : Float) → minus x ≡ false → Some x ≡ Some q → lt q zero64 ≡ false
    flows x X e = let same : x ≡ q = cc in not_below_zero_lem q (ap minus (sym same) ∙ X)

    go : (above : Bool) → lt zero64 y ≡ above → (shut fine : Bool)
        → cond (not above || shut) (Some zero64) (cond fine (Some (orifice_rate w y)) None) ≡ Some q → lt q zero64 ≡ false
    go false p shut fine e = flows zero64 refl e
    go true p true fine e = flows zero64 refl e
    go true p false true e = flows (orifice_rate w y) (rate_clear w y W (above_zero y p)) e
    go true p false false e = cc

-- ---- the theorem

pub open_air : OpenAir
unfolding node_head head_less sums_of valve_flow of_bits
open_air = record {
  q_zero = nothing;
  h_quotient = λ v a b Ks Ss h. rw (nothing v a b (sums_of Ks Ss) h, less_zero (sum_from zero64 Ks) (sum_fits zero64 Ks (of_bits-fits binary64 0)));
  never_back = λ v a b q Ks Ss h e.
      let s = sums_of Ks Ss in
      not_back (valve_w v a s.t) (valve_y b s.b s.t) q (w_clear v a s.t (t_clear zero64 Ss refl h)) e;
}
