-- Lists given by a function, and what a loop computes, for any element type and any function. Definitions only; their laws are in proofs/, a file for each.
use Rattle.std.specs.Prelude.{Bool, true, ◌&&◌, List, [], ◌∷◌, ℕ, zero, suc}

-- f 0, f 1, .., f (n - 1)
unfoldable pub listed : {A : Type 0} → ℕ → (ℕ → A) → List A
listed zero f = []
listed (suc n) f = f zero ∷ listed n (λ k. f (suc k))

-- whether p holds of every number below n
unfoldable pub all_below : (ℕ → Bool) → ℕ → Bool
all_below p zero = true
all_below p (suc n) = all_below p n && p n

-- the first of v 0, v 1, .., v (n - 1) that is not `none`, else `none`: `pick a b` is a where a is an answer, and b where a is `none`
unfoldable pub first_below : {R : Type 0} → (R → R → R) → R → (ℕ → R) → ℕ → R
first_below pick none v zero = none
first_below pick none v (suc n) = pick (first_below pick none v n) (v n)
