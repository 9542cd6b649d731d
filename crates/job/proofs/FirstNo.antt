-- The first no of a row of questions after another, and the yes to each question where there is no first no. Assumes nothing.
use mathlib.Core.Path.{◌≡◌, refl, sym, ◌∙◌}
use mathlib.Core.Bool.{Bool, true, false, cond, not, ◌&&◌}
use mathlib.Core.List.{List, [], ◌∷◌, ◌++◌}
use Prim.Native.Nat.{ℕ, suc, ◌≤◌}
use native.Mathlib.Omega.{arith}
use lib.Dec.{eqb, leb}
use borrow.Author.Tests.{eqb-true, eqb-false, leb-true}
use Rattle.loops.proofs.Tests.{both, cond_all}
use Rattle.job.specs.declared.questions.Question.{Question as Asked}
use Rattle.job.specs.declared.questions.Question.TheVariants.{Size, PairCount, TablesInOrder, ListingSteps, PipesWhole, NodesWhole, PipesJoin, SectionCount, PipeConstants, NodeKinds, NodeFigures, NodesMet, Friction, InitialState, Schedules, LentLengths, StepsInAll, LentState, ScheduleCounts, Chain, SettingRows, Trips}
use Rattle.job.specs.Refusals.{number}
use Rattle.job.specs.Questions.{Question, first_no, pair_questions, pipe_questions, node_questions, value_questions, questions, refusal, Accepted}

-- m, and n where m is 0
abbrev pub or_else : ℕ → ℕ → ℕ
or_else m n = cond (eqb m 0) n m

-- whether every number of a table passes a test; and that none of them is 0
abbrev each_number : (ℕ → Bool) → List Question → Bool
each_number p [] = true
each_number p (q ∷ qs) = p q.0 && each_number p qs

abbrev numbered : List Question → Bool
numbered qs = each_number (λ n. not (eqb n 0)) qs

first_join : (xs ys : List Question) (job : List ℕ) → numbered xs ≡ true → first_no (xs ++ ys) job ≡ or_else (first_no xs job) (first_no ys job)
unfolding first_no
first_join [] ys job h = refl
first_join (q ∷ qs) ys job h = go (eqb q.0 0) (numbered qs) (q.1 job) h refl (first_join qs ys job)
  where
    go :
        (z m : Bool) (t : Bool) → not z && m ≡ true → eqb q.0 0 ≡ z → (m ≡ true → first_no (qs ++ ys) job ≡ or_else (first_no qs job) (first_no ys job))
        → cond t (first_no (qs ++ ys) job) q.0 ≡ or_else (cond t (first_no qs job) q.0) (first_no ys job)
    go true m t h e ih = cc
    go false m true h e ih = ih h
    go false m false h e ih = rw e

pub refusal_is :
    (job : List ℕ)
    → refusal job ≡ or_else (first_no pair_questions job) (or_else (first_no pipe_questions job) (or_else (first_no node_questions job) (first_no value_questions job)))
unfolding refusal questions pair_questions pipe_questions node_questions
refusal_is job =
    first_join pair_questions (pipe_questions ++ (node_questions ++ value_questions)) job refl
    ∙ rw (first_join pipe_questions (node_questions ++ value_questions) job refl, first_join node_questions value_questions job refl)

-- no question has the number 0
pub number_some : (q : Asked) → eqb (number q) 0 ≡ false
number_some q = elim q as (λ a. eqb (number a) 0 ≡ false) [ Size ↦ refl | PairCount ↦ refl | TablesInOrder ↦ refl | ListingSteps ↦ refl | PipesWhole ↦ refl | NodesWhole ↦ refl | PipesJoin ↦ refl | SectionCount ↦ refl | PipeConstants ↦ refl | NodeKinds ↦ refl | NodeFigures ↦ refl | NodesMet ↦ refl | Friction ↦ refl | InitialState ↦ refl | Schedules ↦ refl | LentLengths ↦ refl | StepsInAll ↦ refl | LentState ↦ refl | ScheduleCounts ↦ refl | Chain ↦ refl | SettingRows ↦ refl | Trips ↦ refl ]

none_of_both : (m n : ℕ) → or_else m n ≡ 0 → (m ≡ 0) × (n ≡ 0)
none_of_both m n = go (eqb m 0) refl
  where
    go : (z : Bool) → eqb m 0 ≡ z → cond z n m ≡ 0 → (m ≡ 0) × (n ≡ 0)
    go true e h = (eqb-true m 0 e, h)
    go false e h = absurd (eqb-false m 0 e h)

-- an accepted job has no first no in any part of the table
pub record NoneRefused (job : List ℕ) : Type 0 where
  pub pairs : first_no pair_questions job ≡ 0
  pub pipes : first_no pipe_questions job ≡ 0
  pub nodes : first_no node_questions job ≡ 0
  pub values : first_no value_questions job ≡ 0

pub none_refused : (job : List ℕ) → Accepted job → NoneRefused job
none_refused job h =
    let p = none_of_both _ _ (sym (refusal_is job) ∙ h) in
    let q = none_of_both _ _ p.1 in
    let n = none_of_both _ _ q.1 in
    record { pairs = p.0; pipes = q.0; nodes = n.0; values = n.1 }

-- a row that is passed: its test is true, and the rows after it have no first no either
pub yes : (t : Bool) (n m : ℕ) → cond t m (suc n) ≡ 0 → (t ≡ true) × (m ≡ 0)
yes true n m h = (refl, h)
yes false n m h = absurd (omega arith)

-- what holds of 0 and of every number of a table holds of the number of its first no
number_all : (p : ℕ → Bool) → p 0 ≡ true → (qs : List Question) (job : List ℕ) → each_number p qs ≡ true → p (first_no qs job) ≡ true
unfolding first_no
number_all p z [] job h = z
number_all p z (q ∷ qs) job h =
    let parts = both (p q.0) (each_number p qs) h in cond_all (λ (n : ℕ). p n ≡ true) (q.1 job) (number_all p z qs job parts.1) parts.0

pub refusal_most : (job : List ℕ) → refusal job ≤ 53
unfolding refusal questions pair_questions pipe_questions node_questions value_questions
refusal_most job = leb-true _ _ (number_all (λ n. leb n 53) refl questions job refl)
