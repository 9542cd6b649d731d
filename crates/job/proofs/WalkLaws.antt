-- A walk over the pipes, from the first on: it begins at section 0 and reach 0, a pipe of n reaches takes it on by n + 1 sections and n reaches, and
-- past the last pipe it has come to the counts of all. Where it stands, the pipe there is laid. Assumes nothing.
use mathlib.Core.Path.{◌≡◌, refl, sym, ap, ◌∙◌}
use mathlib.Core.List.{List, [], ◌∷◌}
use mathlib.Core.Option.{some}
use Prim.Native.Nat.{ℕ, zero, suc, ◌+◌, ◌<◌, ◌≤◌}
use native.Mathlib.Nat.{le_refl}
use native.Mathlib.Numerals.{add-one}
use native.Mathlib.Omega.{arith}
use lib.ListN.{length, get_elem?, drop, length-drop, drop_of_length-le}
use lib.Seq.{drop-drop}
use Rattle.loops.proofs.Listed.{at_listed}
use Rattle.job.specs.Job.{Pipe, laid_from, sections_of}
use Rattle.job.specs.Format.{pipe_count, pipe_in, pipes_in, reaches_of}
use Rattle.job.specs.Walk.{WalkedTo}

-- ---- the entry of a list at a place is the first of what is left there

module _ {A : Type 0} where
  pub left_from : (l : List A) (k : ℕ) {a : A} → get_elem? l k ≡ some a → drop k l ≡ a ∷ drop (k + 1) l
  left_from [] k e = cc
  left_from (b ∷ l) zero e = cc
  left_from (b ∷ l) (suc k) e = rw (add-one (suc k)) (rw (add-one k) at (left_from l k e))

  entry_of_left : {a : A} {rest : List A} (l : List A) (k : ℕ) → drop k l ≡ a ∷ rest → get_elem? l k ≡ some a
  entry_of_left [] zero e = cc
  entry_of_left [] (suc k) e = cc
  entry_of_left (b ∷ l) zero e = cc
  entry_of_left (b ∷ l) (suc k) e = entry_of_left l k e

-- a pipe has one section more than reaches
pub sections_reaches : (ps : List Pipe) → sections_of ps ≡ reaches_of ps + length ps
unfolding sections_of reaches_of
sections_reaches [] = refl
sections_reaches (q ∷ ps) = omega (arith, sections_reaches ps)

-- ---- the walk

pub walk_none : {ps : List Pipe} → WalkedTo ps 0 0 0
walk_none = record { to_lay = refl; sections_left = omega arith; reaches_left = omega arith }

module _ {ps : List Pipe} {p s r : ℕ} where
  -- past the last pipe
  pub walk_done : length ps ≡ p → WalkedTo ps p s r → (sections_of ps ≡ s) × (reaches_of ps ≡ r)
  unfolding sections_of reaches_of
  walk_done e w =
      let none : drop p ps ≡ [] = rw (← e) (drop_of_length-le ps (le_refl (length ps))) in
      (omega (arith, w.sections_left, ap sections_of none), omega (arith, w.reaches_left, ap reaches_of none))

  pub walk_reach : WalkedTo ps p s r → r ≤ s
  walk_reach w =
      omega (arith, w.sections_left, w.reaches_left, sections_reaches ps, sections_reaches (drop p ps), length-drop p ps)

  module _ {q : Pipe} (e : get_elem? ps p ≡ some q) (w : WalkedTo ps p s r) where
    sections_on : s + suc q.reaches + sections_of (drop (p + 1) ps) ≡ sections_of ps
    unfolding sections_of
    sections_on = omega (arith, w.sections_left, ap sections_of (left_from ps p e))

    reaches_on : r + q.reaches + reaches_of (drop (p + 1) ps) ≡ reaches_of ps
    unfolding reaches_of
    reaches_on = omega (arith, w.reaches_left, ap reaches_of (left_from ps p e))

    pub walk_more : WalkedTo ps (p + 1) (s + q.reaches + 1) (r + q.reaches)
    unfolding laid_from
    walk_more =
        let next : s + q.reaches + 1 ≡ s + suc q.reaches = omega arith in
        record {
          to_lay = rw next (sym (drop-drop 1 p (laid_from 0 0 ps)) ∙ ap (drop 1) (w.to_lay ∙ ap (laid_from s r) (left_from ps p e)));
          sections_left = rw next sections_on;
          reaches_left = reaches_on;
        }

    pub walk_here : get_elem? (laid_from 0 0 ps) p ≡ some record { pipe = q; first_section = s; first_reach = r }
    unfolding laid_from
    walk_here = entry_of_left (laid_from 0 0 ps) p (w.to_lay ∙ ap (laid_from s r) (left_from ps p e))

-- pipe p of a table
pub pipe_at_lem : (pipes : List ℕ) (p : ℕ) → p < pipe_count pipes → get_elem? (pipes_in pipes) p ≡ some (pipe_in pipes p)
unfolding pipes_in
pipe_at_lem pipes p l = at_listed (pipe_count pipes) (pipe_in pipes) p l
