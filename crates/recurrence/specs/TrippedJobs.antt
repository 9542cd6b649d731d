-- A pump that fails, as jobs of bytes: seven pairs, table 6 empty, a record in table 7. Definitions only.
use mathlib.Core.List.{List, [], ◌∷◌, ◌++◌, foldr}
use Rattle.std.specs.Prelude.{ℕ, ◌+◌, ◌*◌, length, replicate}

-- an f64 of which only the two highest bytes are not 0
abbrev pub f64_of : ℕ → ℕ → List ℕ
f64_of low high = replicate 6 0 ++ low ∷ high ∷ []

abbrev pub at0 : List ℕ
at0 = f64_of 0 0

abbrev pub eighth : List ℕ
eighth = f64_of 192 63

abbrev pub quarter : List ℕ
quarter = f64_of 208 63

abbrev pub half : List ℕ
half = f64_of 224 63

abbrev pub at1 : List ℕ
at1 = f64_of 240 63

abbrev pub at8 : List ℕ
at8 = f64_of 32 64

abbrev pub at10 : List ℕ
at10 = f64_of 36 64

abbrev pub joined : List (List ℕ) → List ℕ
joined xs = foldr (λ x rest. x ++ rest) [] xs

-- One pipe of two reaches, S = 1, no friction, from a pump (node 0: h = v·v·8, b is 0) to a reservoir (node 1); heads and flows 8, floors 0. The trip step,
-- with G = 1/4, t0 = 1, t1 = 1/8; the pump's entries and the reservoir's.
unfoldable pub tripping : ℕ → List (List ℕ) → List (List ℕ) → List ℕ
tripping step entries levels =
    let schedules = 8 * (length entries + length levels) in
    7 ∷ 0 ∷ 1 ∷ 0 ∷ 0 ∷ 0
    ∷ 62 ∷ 0 ∷ 0 ∷ 0 ∷ 12 ∷ 0 ∷ 0 ∷ 0
    ∷ 74 ∷ 0 ∷ 0 ∷ 0 ∷ 52 ∷ 0 ∷ 0 ∷ 0
    ∷ 126 ∷ 0 ∷ 0 ∷ 0 ∷ 16 ∷ 0 ∷ 0 ∷ 0
    ∷ 142 ∷ 0 ∷ 0 ∷ 0 ∷ 72 ∷ 0 ∷ 0 ∷ 0
    ∷ 214 ∷ 0 ∷ 0 ∷ 0 ∷ schedules ∷ 0 ∷ 0 ∷ 0
    ∷ (214 + schedules) ∷ 0 ∷ 0 ∷ 0 ∷ 0 ∷ 0 ∷ 0 ∷ 0
    ∷ (214 + schedules) ∷ 0 ∷ 0 ∷ 0 ∷ 30 ∷ 0 ∷ 0 ∷ 0
    ∷ 0 ∷ 1 ∷ 2 ∷ 0 ∷ at1
    ++ 3 ∷ length entries ∷ at8 ++ at0 ++ at0
    ++ 1 ∷ length levels ∷ replicate 24 0
    ++ replicate 16 0
    ++ joined (replicate 3 (at8 ++ at8 ++ at0))
    ++ joined entries ++ joined levels
    ++ 0 ∷ 0 ∷ step ∷ 0 ∷ 0 ∷ 0 ∷ quarter ++ at1 ++ eighth

-- the pump at 1, tripped at step 2; with the reservoir at 10 from step 2 on
abbrev pub tripped : List ℕ
tripped = tripping 2 (at1 ∷ []) (at8 ∷ [])

abbrev pub tripped_rising : List ℕ
tripped_rising = tripping 2 (at1 ∷ []) (at8 ∷ at10 ∷ [])
