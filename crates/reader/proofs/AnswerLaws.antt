-- What a caller of `read` learns from each case of its answer. Assumes nothing.
use mathlib.Core.Path.{◌≡◌, refl}
use mathlib.Core.Bool.{Bool, true, false, cond}
use mathlib.Core.List.{List}
use Prim.Native.Nat.{ℕ}
use native.Mathlib.Omega.{arith}
use lib.Dec.{eqb}
use borrow.Author.Tests.{eqb-true, eqb-false}
use Rattle.job.specs.Job.{sections}
use Rattle.job.specs.Format.{listing_steps, job_of}
use Rattle.job.specs.Questions.{refusal, Accepted}
use Rattle.reader.specs.Answer.{ReadAnswer, refused, accepted, read_answer}

module _ (job : List ℕ) where
  abbrev held : ReadAnswer
  held = accepted (sections (job_of job)) (listing_steps job)

  pub refused_is : (n : ℕ) → refused n ≡ read_answer job → (n ≡ refusal job) × (Accepted job → ⊥)
  unfolding read_answer
  refused_is n = go (eqb (refusal job) 0) refl
    where
      go : (z : Bool) → eqb (refusal job) 0 ≡ z → refused n ≡ cond z held (refused (refusal job)) → (n ≡ refusal job) × (Accepted job → ⊥)
      go true e a = let z : ◌≡◌ {A = ℕ} 0 1 = cc in absurd (omega arith)
      go false e a = (cc, eqb-false _ _ e)

  pub accepted_is : (s m : ℕ) → accepted s m ≡ read_answer job → (Accepted job) × (s ≡ sections (job_of job)) × (m ≡ listing_steps job)
  unfolding read_answer
  accepted_is s m = go (eqb (refusal job) 0) refl
    where
      go :
          (z : Bool) → eqb (refusal job) 0 ≡ z → accepted s m ≡ cond z held (refused (refusal job))
          → (Accepted job) × (s ≡ sections (job_of job)) × (m ≡ listing_steps job)
      go true e a = (eqb-true _ _ e, cc, cc)
      go false e a = let z : ◌≡◌ {A = ℕ} 0 1 = cc in absurd (omega arith)

-- both, for a tactic
pub ruleset answer_is = (refused_is, accepted_is)
