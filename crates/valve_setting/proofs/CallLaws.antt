-- What the call leaves and answers: the rows are written only where a coefficient is given; and what the yes to 51 and to 52 tells. Assumes nothing.
use mathlib.Core.Path.{◌≡◌, ap, ◌∙◌}
use mathlib.Core.Bool.{Bool, true, false, ◌&&◌}
use mathlib.Core.List.{List, ◌++◌}
use Prim.Native.Nat.{ℕ, ◌≤◌}
use lib.Dec.{leb}
use lib.ListN.{length, drop}
use lib.Ieee.{Float, lt}
use lib.Ieee.Scale.{finite}
use Rattle.fields.specs.Real.{◌⊟◌, zero64}
use Rattle.loops.specs.Loops.{all_below}
use borrow.Author.Tests.{leb-true}
use Rattle.loops.specs.Fill.{fill}
use Rattle.loops.proofs.Fill.{filled_whole}
use Rattle.loops.proofs.Tests.{both}
use Rattle.loops.proofs.Listed.{listed_same}
use Rattle.job.specs.Job.{Job, sections, floor_at}
use Rattle.reader.proofs.AnswerLaws.{refused_is, accepted_is}
use Rattle.chain.specs.Chain.{is_chain}
use Rattle.setting.specs.Setting.{head_at, last_head, outlet_head, coefficient_for, head_fits, is_given, none}
use Rattle.setting.specs.Setting.{coefficient, Answer, written, kept, set_or_none, is_chain_with, rows_hold}
use Rattle.setting.proofs.HeadList.{heads_listed}

-- ---- the verdict

-- as the code has it, from what it has worked out
pub verdict_is :
    (j : Job) (L Q : Float) {h b a : Float} {fits x y : Bool}
    → (h ≡ last_head j L Q) × (fits ≡ all_below (λ s. head_fits (floor_at j s) (head_at j L Q s)) (sections j))
    → b ≡ outlet_head j → a ≡ coefficient_for Q h b → x ≡ finite (h ⊟ b) → y ≡ finite a
    → lt zero64 Q && fits && lt b h && x && y ≡ is_given j L Q
unfolding is_given
verdict_is j L Q told eb ea ex ey = rw (ey, ex, ea, eb, told.1, told.0)

module _ (j : Job) (L Q : Float) (heads flows : List Float) where
  pub none_left :
      {answer : Answer} → is_given j L Q ≡ false → answer ≡ none
      → record { heads = heads; flows = flows; answer = answer } ≡ set_or_none j L Q heads flows
  unfolding set_or_none kept
  none_left h e = rw (h, e)

  module _ (h : sections j ≤ length heads) (f : sections j ≤ length flows) where
    pub set_left :
        {answer : Answer} {newHeads newFlows : List Float} → is_given j L Q ≡ true → newHeads ≡ fill (head_at j L Q) heads 0 (sections j)
        → newFlows ≡ fill (λ (s : ℕ). Q) flows 0 (sections j) → answer ≡ coefficient (coefficient_for Q (last_head j L Q) (outlet_head j))
        → record { heads = newHeads; flows = newFlows; answer = answer } ≡ set_or_none j L Q heads flows
    unfolding set_or_none written
    set_left g e d a =
        rw (g, a)
        (λ i. record {
          heads = (e ∙ filled_whole zero64 (head_at j L Q) heads (sections j) h ∙ ap (λ (x : List Float). x ++ drop (sections j) heads) (heads_listed j L Q)) i;
          flows =
              (d ∙ filled_whole zero64 (λ (s : ℕ). Q) flows (sections j) f
              ∙ ap (λ (x : List Float). x ++ drop (sections j) flows) (listed_same (sections j) Q)) i;
          answer = coefficient (coefficient_for Q (last_head j L Q) (outlet_head j));
        })

-- ---- the questions

-- a yes to question 52
pub rows_long : (j : Job) (heads flows : List Float) → rows_hold j heads flows ≡ true → (sections j ≤ length heads) × (sections j ≤ length flows)
unfolding rows_hold
rows_long j heads flows h =
    let parts = both (leb (sections j) (length heads)) (leb (sections j) (length flows)) h in
    (leb-true _ _ parts.0, leb-true _ _ parts.1)

-- a yes to question 51 says that the layout is a chain
pub chain_first : (j : Job) (L Q : Float) → is_chain_with j L Q ≡ true → is_chain j ≡ true
unfolding is_chain_with
chain_first j L Q h = (both (is_chain j) (finite L) (both (is_chain j && finite L) (finite Q) h).0).0

-- what the questions tell, for a tactic
pub ruleset asked = (refused_is, accepted_is, rows_long, chain_first)
