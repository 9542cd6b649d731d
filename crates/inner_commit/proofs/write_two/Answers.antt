-- Both sections are worked out from the rows as they are lent, before any store, and the next CP from what was read there. Assumes nothing.
use Rattle.std.proofs.Common.{ap₂, ◌+◌}
use Rattle.std.specs.Prelude.{Float}
use native.Mathlib.Omega.{arith}
use Rattle.section.specs.SectionRows.{two_of}
use Rattle.section.proofs.RowLaws.{stepped_as}
use Rattle.inner_sections.specs.InnerSections.{one_pipe}
use Rattle.inner_sections.proofs.CutRows.{in_reach, cp_from}
use Rattle.inner_commit.proofs.write_two.Goals as goal

pub cp_along-requires : goal.cp_along-requires
cp_along-requires c = in_reach c.requires.cut_to_pipe.0 _ (omega (arith, c.requires.cut_to_pipe.1))

pub cp_along-requires-2 : goal.cp_along-requires-2
cp_along-requires-2 c = in_reach c.requires.cut_to_pipe.0 _ (omega (arith, c.requires.cut_to_pipe.1))

pub returns : goal.returns
returns c =
    let a = c.args in
    let w = one_pipe a.friction.now a.heads.now a.flows.now in
    let cut = c.new-pipe.ensures in
    let x = rw (cut.along, cut.s) at c.by_cp-x.ensures in
    let y = rw (cut.along, cut.s) at c.by_cp-y.ensures in (
      ap₂ (λ (p q : Float). record { first = p; second = q })
          (cp_from w a.s (a.i + 2) c.read-above.ensures c.cp_along.ensures)
          (cp_from w a.s (a.i + 2 + 1) c.read-below.ensures c.cp_along-2.ensures),
      stepped_as (a.i + 1) 2 a.heads.now a.flows.now a.highest.now a.lowest.now (ap₂ two_of x y) c.store_two.ensures,
    )
