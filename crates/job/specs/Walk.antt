-- A walk over the pipes: where it begins, how it goes on, and how far it has come. Inner definitions: no public call cites them.
use Rattle.std.specs.Prelude.{◌≡◌, List, ℕ, ◌+◌, drop}
use Rattle.job.specs.Job.{Pipe, laid_from, sections_of}
use Rattle.job.specs.Format.{reaches_of}
use Rattle.job.specs.declared.walk.Walk.{Walk}

-- A walk over the pipes that has come to pipe p: what is still to be laid begins at this section and this reach, and what has been passed and what is left are all.
pub record WalkedTo (pipes : List Pipe) (p section reach : ℕ) : Type 0 where
  pub to_lay : drop p (laid_from 0 0 pipes) ≡ laid_from section reach (drop p pipes)
  pub sections_left : section + sections_of (drop p pipes) ≡ sections_of pipes
  pub reaches_left : reach + reaches_of (drop p pipes) ≡ reaches_of pipes

-- at the first pipe, and past a pipe of so many reaches
abbrev pub begun : Walk
begun = record { pipe = 0; section = 0; reach = 0 }

abbrev pub past : Walk → ℕ → Walk
past at reaches = record { pipe = at.pipe + 1; section = at.section + reaches + 1; reach = at.reach + reaches }
