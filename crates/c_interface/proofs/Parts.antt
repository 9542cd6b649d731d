-- The parts of a packed answer are those it was packed from, where they are in range, by division with rest; and a call whose answer is packed gives the
-- packed answer and the rows of the call that it equals. Assumes nothing.
use mathlib.Core.Path.{◌≡◌, refl, ◌∙◌, ap}
use mathlib.Core.List.{List}
use Prim.Native.Nat.{ℕ, ◌<◌, ◌≤◌}
use native.Mathlib.Omega.{arith}
use Rattle.recurrence.specs.Calls.{Called}
use lib.Ieee.{Float}
use Rattle.setting.specs.Setting as Set
use Rattle.setting.proofs.Laws.{Tells, tells}
use Rattle.c_interface.specs.Packed.{packed, number_in, section_in, steps_in, packed_answer, packed_setting}

pub record Parts (number section steps : ℕ) : Type 0 where
  pub number_back : number_in (packed number section steps) ≡ number
  pub section_back : section_in (packed number section steps) ≡ section
  pub steps_back : steps_in (packed number section steps) ≡ steps

pub parts_back : (number section steps : ℕ) → number < 256 → section < 4096 → steps < 4294967296 → Parts number section steps
unfolding packed number_in section_in steps_in
parts_back number section steps n s m = record { number_back = omega (arith, n, s, m); section_back = omega (arith, n, s, m); steps_back = omega (arith, n, s, m) }

pub packed_call : {done given : Called} {n : ℕ} → n ≡ packed_answer done.answer → done ≡ given → (n ≡ packed_answer given.answer) × (done.rows ≡ given.rows)
packed_call e f = (e ∙ ap (λ (x : Called). packed_answer x.answer) f, ap (λ (x : Called). x.rows) f)

-- The three kinds of answer of the call that sets a valve are told apart by its number: a refusal has its own, from 1 to 53, 'none' 255, a coefficient 0.
abbrev Told : Set.Answer → ℕ → Type 0
Told (Set.refused q) n = (n ≡ q) × (1 ≤ n) × (n ≤ 53)
Told Set.none n = n ≡ 255
Told (Set.coefficient a) n = n ≡ 0

pub told_apart :
    (bytes : List ℕ) (L Q : Float) (heads flows : List Float)
    → let answer = (Set.set_valve bytes L Q heads flows).answer in Told answer (number_in (packed_setting answer))
unfolding packed_setting packed number_in
told_apart bytes L Q heads flows = go (Set.set_valve bytes L Q heads flows).answer (tells bytes L Q heads flows)
  where
    go : (x : Set.Answer) → Tells bytes L Q heads flows x → Told x (number_in (packed_setting x))
    go (Set.refused q) t = (omega (arith, t), omega (arith, t), omega (arith, t))
    go Set.none t = refl
    go (Set.coefficient a) t = refl
