-- `job::pairs::part` meets its contract: where questions 1 to 4 have a yes, the pairs stand in the file and each table lies within it. Assumes nothing.
use Prim.Native.Nat.{◌+◌, ◌<◌, ◌≤◌}
use native.Mathlib.Nat.{add-sub_cancel_left}
use native.Mathlib.Omega.{arith}
use lib.ListN.{length}
use Rattle.job.specs.Format.{pairs_end}
use Rattle.job.proofs.TableBounds.{pairs_right, pairs_within, count_short, table_ends, table_is}
use borrow.Author.Rules.{rules}
use Rattle.job.proofs.pairs.part.Statement.{statement}
use Rattle.job.proofs.pairs.part.Tie as tie

pair_within : (c : tie.Start) → (c.args.k < 65536) × (pairs_end c.args.k + 8 ≤ length c.args.job.now)
pair_within c = let right = pairs_right _ c.requires.0 in omega (arith, c.requires.1, pairs_within _ right.pairs, count_short _ right)

part-result-end : tie.Need-slice_bounds-result-end
part-result-end c =
    let start : tie.Start = c.before.before.before in
    let ends : c.before.offset_of-a.result + c.length_of.result ≤ length start.args.job.now =
    rw (c.before.offset_of-a.ensures.0, c.length_of.ensures.0) (table_ends _ (pairs_right _ start.requires.0) _ start.requires.1) in
    search rules

returns : tie.Need-returns
returns c =
    let start : tie.Start = c.before.before.before.before in
    rw (add-sub_cancel_left, c.before.before.offset_of-a.ensures.0, c.before.length_of.ensures.0, table_is _ _ start.requires.1)

pub part_spec : {M : Type 1} → statement M
part_spec =
    tie.close
    (tie.spec
    (λ c κs. pair_within c.before)
    (λ c κs. pair_within c.before.before)
    (λ c. search rules)
    (λ c. search rules)
    (λ c. search rules)
    part-result-end
    returns)
