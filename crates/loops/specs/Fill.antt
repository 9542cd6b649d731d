-- What a loop that stores leaves in a list. Inner definitions: no public call cites them.
use Rattle.std.specs.Prelude.{List, ℕ, zero, suc, ◌+◌, set}

-- the list l with f 0, f 1, .., f (n - 1) stored at `at`, at + 1, ..
unfoldable pub fill : {A : Type 0} → (ℕ → A) → List A → ℕ → ℕ → List A
fill f l at zero = l
fill f l at (suc n) = set (fill f l at n) (at + n) (f n)
