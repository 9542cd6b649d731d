-- A number of 53 digits and an even power has a root of 53 digits and half the power: an odd power gives one factor of two to the digits first, and half
-- of what is left of it is the exponent's field. Assumes nothing.
use mathlib.Core.Path.{◌≡◌, sym, ap, ◌∙◌}
use Prim.Native.Nat.{ℕ, ◌+◌, ◌-◌, ◌*◌, ◌/◌, ◌%◌, ◌^◌, ◌≤◌, ◌<◌}
use native.Mathlib.Nat.{mul-le-mul_left}
use native.Mathlib.Omega.{arith}
use Rattle.whole_root.specs.WholeRoot.{whole_root}
use Rattle.whole_root.specs.Digits.{LeavesRest}
use Rattle.whole_root.proofs.WholeLaws.{whole_root_is, one_root, root_by_rest, root_below}
use Rattle.root.specs.Nearest.{to_nearest}
use Rattle.root.specs.Root.{cut_places}
use Rattle.root.proofs.Powers.{wide_places, wide_cut}
use Rattle.root.specs.Digits.{IsWidened, units_of, root_pattern}
use Rattle.root.proofs.root_bits.Goals as goal

evened : (b d p : ℕ) → IsWidened b d p → d * (1 + p % 2) < 2 ^ 54
evened b d p w =
    let one : 1 + p % 2 ≤ 2 = omega arith in
    omega (arith, mul-le-mul_left d one, w.bound)

still_full : (b d p : ℕ) → IsWidened b d p → 2 ^ 52 ≤ d * (1 + p % 2)
still_full b d p w =
    let one : 1 ≤ 1 + p % 2 = omega arith in
    omega (arith, mul-le-mul_left d one, w.full)

is_root : (m root rest : ℕ) → m < 2 ^ 54 → LeavesRest (m * 2 ^ 52) root rest → root ≡ whole_root 53 (m * 2 ^ 52)
is_root m root rest h l =
    let n : m * 2 ^ 52 < 4 ^ 53 = omega arith in
    one_root (m * 2 ^ 52) root (whole_root 53 (m * 2 ^ 52)) (root_by_rest (m * 2 ^ 52) root rest l.all l.small) (whole_root_is 53 (m * 2 ^ 52) n)

root_lt : (m root rest : ℕ) → m < 2 ^ 54 → LeavesRest (m * 2 ^ 52) root rest → root < 2 ^ 53
root_lt m root rest h l =
    let n : m * 2 ^ 52 < 2 ^ 53 * 2 ^ 53 = omega arith in
    let r : root * root ≤ m * 2 ^ 52 = omega (arith, l.all) in
    root_below (m * 2 ^ 52) root (2 ^ 53) r n

pattern_is : (n k c q : ℕ) → cut_places n ≡ k → n / 4 ^ k ≡ c → whole_root 53 c ≡ q → root_pattern n ≡ k * 2 ^ 52 + to_nearest c q
unfolding root_pattern
pattern_is n k c q e f g =
    ap (λ (x : ℕ). x * 2 ^ 52 + to_nearest (n / 4 ^ x) (whole_root 53 (n / 4 ^ x))) e
    ∙ ap (λ (x : ℕ). k * 2 ^ 52 + to_nearest x (whole_root 53 x)) f
    ∙ ap (λ (x : ℕ). k * 2 ^ 52 + to_nearest c x) g

is_pattern : (b d p root rest : ℕ) → IsWidened b d p → LeavesRest (d * (1 + p % 2) * 2 ^ 52) root rest → (p - 52) / 2 * 2 ^ 52 + to_nearest (root * root + rest) root ≡ root_pattern (units_of b * 2 ^ 1074)
is_pattern b d p root rest w l =
    ap (λ (x : ℕ). (p - 52) / 2 * 2 ^ 52 + to_nearest x root) l.all
    ∙ sym
    (ap root_pattern w.value
    ∙ pattern_is (d * 2 ^ p) ((p - 52) / 2) (d * (1 + p % 2) * 2 ^ 52) root (wide_places d p w.full w.bound w.least) (wide_cut d p w.full w.bound w.least)
    (sym (is_root (d * (1 + p % 2)) root rest (evened b d p w) l)))

pub returns : goal.returns
returns c =
    let w = c.widened-digits in
    let r = c.whole_root-cut in
    rw c.rounded.ensures (is_pattern c.args.b w.result.digits w.result.power r.result.root r.result.rest w.ensures r.ensures)
