-- The table that starts a root (document 02, 9/12): its rule, as a test that computes and as what the test stands for. Definitions only.
use Rattle.std.specs.Prelude.{◌≡◌, ℕ, suc, ◌+◌, ◌*◌, ◌<◌, Bool, true, ◌&&◌, List, [], ◌∷◌, leb, ltb, length, get_or}
use Rattle.whole_root.specs.WholeRoot.{IsWholeRoot, whole_root}

-- "for i from 256 to 1,023 its entry is the greatest whole t with t·t at most 16,384·i": t as entry i
abbrev pub is_entry : ℕ → ℕ → Bool
is_entry i t = leb (t * t) (16384 * i) && ltb (16384 * i) ((t + 1) * (t + 1))

-- the test at every entry of a list, whose first is entry i
unfoldable pub are_entries : ℕ → List ℕ → Bool
are_entries i [] = true
are_entries i (t ∷ ts) = is_entry i t && are_entries (suc i) ts

-- the table: 768 entries, the first of them entry 256, each the greatest whole t with t·t at most 16,384·i
pub record IsTable (ts : List ℕ) : Type 0 where
  pub many : length ts ≡ 768
  pub entry : (k : ℕ) → k < 768 → IsWholeRoot (16384 * (256 + k)) (get_or ts k 0)

-- entry i worked out, for an i below 1,024: its root has twelve binary digits at most
abbrev pub entry_of : ℕ → ℕ
entry_of i = whole_root 12 (16384 * i)

-- there is one table: a list that keeps the rule has the entries worked out
abbrev pub OneTable : Type 0
OneTable = (ts : List ℕ) → IsTable ts → (k : ℕ) → k < 768 → get_or ts k 0 ≡ entry_of (256 + k)
