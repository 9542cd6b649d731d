-- The rule of the table: one test, which antt computes over the 768 numbers as they stand in the code, and a law that carries it to each entry. A whole
-- number has one root, so that the rule leaves one table. Assumes nothing.
use mathlib.Core.Path.{◌≡◌, refl, sym, ◌∙◌, subst}
use mathlib.Core.Bool.{true}
use mathlib.Core.List.{List, [], ◌∷◌}
use Prim.Native.Nat.{ℕ, zero, suc, ◌+◌, ◌-◌, ◌*◌, ◌≤◌, ◌<◌}
use native.Mathlib.Nat.{add-zero, add-suc, suc-add, le_of_suc-le-suc, not-suc-le-zero}
use native.Mathlib.Omega.{arith}
use borrow.Author.Tests.{leb-true, ltb-true}
use lib.Dec.{leb, ltb}
use lib.ListN.{length, get_or}
use Rattle.loops.proofs.Tests.{both}
use Rattle.whole_root.specs.WholeRoot.{IsWholeRoot}
use Rattle.whole_root.specs.Table.{is_entry, are_entries, IsTable, entry_of, OneTable}
use Rattle.whole_root.specs.declared.table.TheConstants.{TABLE}
use Rattle.whole_root.proofs.WholeLaws.{whole_root_is, one_root}

is_entry_lem : (i t : ℕ) → is_entry i t ≡ true → IsWholeRoot (16384 * i) t
is_entry_lem i t h =
    let b = both (leb (t * t) (16384 * i)) (ltb (16384 * i) ((t + 1) * (t + 1))) h in
    record { low = leb-true _ _ b.0; high = ltb-true _ _ b.1 }

entry_at : (ts : List ℕ) (i : ℕ) → are_entries i ts ≡ true → (k : ℕ) → k < length ts → IsWholeRoot (16384 * (i + k)) (get_or ts k 0)
unfolding are_entries
entry_at [] i h k l = absurd (not-suc-le-zero l)
entry_at (t ∷ ts) i h zero l = subst (λ (j : ℕ). IsWholeRoot (16384 * j) t) (sym (add-zero i)) (is_entry_lem i t (both (is_entry i t) (are_entries (suc i) ts) h).0)
entry_at (t ∷ ts) i h (suc k) l =
    subst (λ (j : ℕ). IsWholeRoot (16384 * j) (get_or ts k 0)) (suc-add i k ∙ sym (add-suc i k))
    (entry_at ts (suc i) (both (is_entry i t) (are_entries (suc i) ts) h).1 k (le_of_suc-le-suc l))

pub is_table : (ts : List ℕ) → length ts ≡ 768 → are_entries 256 ts ≡ true → IsTable ts
is_table ts many h = record { many = many; entry = λ (k : ℕ) (l : k < 768). entry_at ts 256 h k (subst (λ (n : ℕ). k < n) (sym many) l) }

-- the table of the code keeps the rule
pub code_table : IsTable TABLE
unfolding are_entries
code_table = is_table TABLE refl refl

-- entry i stands at place i - 256
pub entry_is : (i : ℕ) → 256 ≤ i → i < 1024 → IsWholeRoot (16384 * i) (get_or TABLE (i - 256) 0)
entry_is i low high =
    let place : 256 + (i - 256) ≡ i = omega arith in
    subst (λ (j : ℕ). IsWholeRoot (16384 * j) (get_or TABLE (i - 256) 0)) place (code_table.entry (i - 256) (omega arith))

-- what keeps the rule of an entry is the entry worked out
pub the_entry : (k t : ℕ) → k < 768 → IsWholeRoot (16384 * (256 + k)) t → t ≡ entry_of (256 + k)
the_entry k t l i = let n = 16384 * (256 + k) in one_root n t (entry_of (256 + k)) i (whole_root_is 12 n (omega arith))

pub one_table : OneTable
one_table ts t k l = the_entry k (get_or ts k 0) l (t.entry k l)
