-- A row that has a number for each node of the job: filled by a loop over the nodes, and with one entry stored, which replaces that node's alone. Assumes
-- nothing.
use mathlib.Core.Path.{◌≡◌, refl, sym, ◌∙◌}
use mathlib.Core.Bool.{Bool, true, false, cond}
use mathlib.Core.List.{List}
use Prim.Native.Nat.{ℕ, ◌<◌, ◌≤◌}
use native.Mathlib.Nat.{zero-add}
use native.Mathlib.Omega.{arith}
use lib.Dec.{eqb}
use lib.ListN.{length, get_or, set, length-set}
use lib.Seq.{get_or-set_same, get_or-set_other}
use lib.Ieee.{Float, nan}
use borrow.Author.Tests.{eqb-true, eqb-false}
use Rattle.loops.specs.Fill.{fill}
use Rattle.loops.proofs.Fill.{length-fill, fill_in}
use Rattle.job.specs.Format.{node_table, node_count}
use Rattle.node_sums.specs.FromRows.{OverNodes}

module _ (job : List ℕ) (f : ℕ → Float) where
  pub over_filled : (old : List Float) {row : List Float} {i : ℕ} → row ≡ fill f old 0 i → i ≡ node_count (node_table job) → i ≤ length old → OverNodes job f row
  over_filled old {row} {i} stored count long = record {
    long = rw stored (omega (arith, length-fill f old 0 i));
    at = λ node h. rw stored (rw (zero-add node) at (fill_in f old 0 nan i node (omega arith) (omega arith)));
  }

  pub over_cong : (g : ℕ → Float) {row : List Float} → OverNodes job f row → ((y : ℕ) → y < node_count (node_table job) → f y ≡ g y) → OverNodes job g row
  over_cong g o same = record { long = o.long; at = λ node h. o.at node h ∙ same node h }

  pub over_set : {row : List Float} → OverNodes job f row → (k : ℕ) (v : Float) → k < node_count (node_table job) → OverNodes job (λ y. cond (eqb k y) v (f y)) (set row k v)
  over_set {row} o k v h = record {
    long = omega (arith, o.long, length-set row k v);
    at = λ node b. go node b (eqb k node) refl;
  }
    where
      go : (node : ℕ) → node < node_count (node_table job) → (same : Bool) → eqb k node ≡ same → get_or (set row k v) node nan ≡ cond same v (f node)
      go node b true e = rw (← eqb-true k node e) (get_or-set_same row k v nan (omega (arith, o.long)))
      go node b false e = get_or-set_other row k node v nan (λ q. eqb-false k node e (sym q)) ∙ o.at node b
