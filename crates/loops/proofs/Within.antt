-- What is read at a place within a list is what stands there: no default is read. Assumes nothing.
use mathlib.Core.Path.{◌≡◌, refl}
use mathlib.Core.List.{List, [], ◌∷◌}
use Prim.Native.Nat.{ℕ, zero, suc, ◌<◌}
use native.Mathlib.Nat.{le_of_suc-le-suc, not-suc-le-zero}
use lib.ListN.{length, get_or}

pub get_or_within : {A : Type 0} (l : List A) (k : ℕ) (d e : A) → k < length l → get_or l k d ≡ get_or l k e
get_or_within [] k d e h = absurd (not-suc-le-zero h)
get_or_within (a ∷ l) zero d e h = refl
get_or_within (a ∷ l) (suc k) d e h = get_or_within l k d e (le_of_suc-le-suc h)
