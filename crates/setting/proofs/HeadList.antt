-- The list of a chain's heads has an entry for each section: a pipe of n reaches gives n + 1. Assumes nothing.
use mathlib.Core.Path.{◌≡◌, refl, sym, ap₂, subst, ◌∙◌}
use mathlib.Core.List.{List, [], ◌∷◌}
use Prim.Native.Nat.{ℕ, suc, ◌+◌}
use native.Mathlib.Omega.{arith}
use lib.ListN.{length, take, length-append}
use lib.Seq.{take-length}
use lib.Ieee.{Float}
use Rattle.fields.specs.Real.{zero64}
use Rattle.loops.specs.Loops.{listed}
use Rattle.loops.proofs.Listed.{length-listed, take-listed}
use Rattle.job.specs.Job.{Pipe, Job, Laid, laid_from, laid, sections_of, sections}
use Rattle.setting.specs.Setting.{head_in, heads_from, heads_of, head_at}

from_length : (j : Job) (Q H : Float) (s r : ℕ) (ps : List Pipe) → length (heads_from j Q H (laid_from s r ps)) ≡ sections_of ps
unfolding heads_from laid_from sections_of
from_length j Q H s r [] = refl
from_length j Q H s r (p ∷ ps) =
    let l : Laid = record { pipe = p; first_section = s; first_reach = r } in
    length-append (listed (suc p.reaches) (head_in j Q l H)) _
    ∙ ap₂ ◌+◌ (length-listed (suc p.reaches) (head_in j Q l H)) (from_length j Q (head_in j Q l H p.reaches) (s + suc p.reaches) (r + p.reaches) ps)

module _ (j : Job) (L Q : Float) where
  pub heads_length : length (heads_of j L Q) ≡ sections j
  unfolding heads_of laid sections
  heads_length = from_length j Q L 0 0 j.pipes

  -- every section has its head in the list
  pub heads_listed : listed (sections j) (head_at j L Q) ≡ heads_of j L Q
  unfolding head_at
  heads_listed =
      let long = heads_length in
      sym (take-listed zero64 (sections j) (heads_of j L Q) (omega (arith, long)))
      ∙ subst (λ n. take n (heads_of j L Q) ≡ heads_of j L Q) long (take-length (heads_of j L Q))
