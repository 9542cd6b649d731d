-- A part of a list, `&s[a..a + k]`: its length and its entries. Assumes nothing.
use mathlib.Core.Path.{◌≡◌, ◌∙◌}
use mathlib.Core.List.{List}
use Prim.Native.Nat.{ℕ, ◌+◌, ◌≤◌, ◌<◌}
use native.Mathlib.Omega.{arith}
use lib.ListN.{length, get_or, take, drop, length-drop}
use lib.Seq.{length-take-le, get_or-take, get_or-drop}

module _ {A : Type 0} (l : List A) (a k : ℕ) where
  pub part_length : a + k ≤ length l → length (take k (drop a l)) ≡ k
  part_length h = length-take-le k (drop a l) (rw (length-drop a l) (omega arith))

  pub part_at : (i : ℕ) (d : A) → i < k → get_or (take k (drop a l)) i d ≡ get_or l (a + i) d
  part_at i d h = get_or-take k (drop a l) i d h ∙ get_or-drop a l i d
