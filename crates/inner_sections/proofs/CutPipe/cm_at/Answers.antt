-- CM of section i + 1 goes along reach i + 1, from what the section below it holds. Assumes nothing.
use Rattle.std.proofs.Common.{ap₂, ◌∙◌}
use Rattle.std.specs.Prelude.{Float}
use native.Mathlib.Omega.{arith}
use Rattle.wave.specs.declared.HeadFlow.{HeadFlow}
use Rattle.wave.specs.Wave.{from_below}
use Rattle.inner_sections.specs.InnerSections.{cm_at}
use Rattle.inner_sections.proofs.CutRows.{in_reach}
use Rattle.inner_sections.proofs.CutPipe.cm_at.Goals as goal

pub friction_at-requires : goal.friction_at-requires
friction_at-requires c = in_reach c.args.self.now.cut _ (omega (arith, c.requires))

pub returns : goal.returns
unfolding cm_at
returns c = c.from_below.ensures ∙ ap₂ (λ (R : Float) (x : HeadFlow). from_below c.args.self.now.s R x.head x.flow) c.friction_at.ensures c.read-below.ensures
