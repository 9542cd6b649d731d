-- `step_check::end_faults` meets its contract: each end is held to the floor of its own section. Assumes nothing.
use mathlib.Core.Path.{ap₂, ◌∙◌}
use Prim.Native.Nat.{◌+◌}
use native.Mathlib.Omega.{arith}
use borrow.Author.Rules.{rules}
use Rattle.section.specs.Faults.{counted}
use Rattle.pipe_layout.specs.Layout.{laid_of}
use Rattle.pipe_layout.proofs.Acceptance.{Within, within}
use Rattle.step_check.proofs.end_faults.Statement.{statement}
use Rattle.step_check.proofs.end_faults.Tie as tie

-- the function's entry
abbrev start : tie.After-struct_known-1 → tie.Start
start c = c.before.before.before

-- where the pipe lies
here : (c : tie.After-struct_known-1) → Within (start c).args.job.now (start c).requires.0 (start c).requires.1.number (laid_of (start c).args.l)
here c = within _ (start c).requires.0 _ _ (start c).requires.1.is

floor-of-requires : tie.Need-floor_of-requires
floor-of-requires c κs = let known = c.before.before in ((start known).requires.0, omega (arith, here known))

floor-of-requires-2 : tie.Need-floor_of-requires-2
floor-of-requires-2 c κs = let known = c.before.before.before.before in ((start known).requires.0, omega (arith, here known))

returns : tie.Need-returns
returns c =
    let first : tie.After-unsound-at_start = c.before.before in
    let ends : tie.After-end_at-finish = first.before.before in (
      omega (arith, first.unsound-at_start.ensures.0, c.unsound-at_finish.ensures.0),
      ap₂ ◌+◌
          (first.unsound-at_start.ensures.1 ∙ ap₂ counted first.before.floor_of.ensures ends.before.end_at-start.ensures)
          (c.unsound-at_finish.ensures.1 ∙ ap₂ counted c.before.floor_of-2.ensures ends.end_at-finish.ensures),
    )

pub end_faults_spec : {M : Type 1} → statement M
end_faults_spec =
    tie.close
    (tie.spec
    (λ c. omega (arith, here c))
    (λ c κs. omega (arith, (start c).requires.2))
    (λ c. search rules)
    (λ c κs. omega (arith, (start c.before).requires.2))
    floor-of-requires
    (λ c κs. search rules)
    floor-of-requires-2
    (λ c κs. search rules)
    (λ c. search rules)
    returns)
