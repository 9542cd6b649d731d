-- CP of section i + 1 goes along reach i, from what the section above it holds. Assumes nothing.
use Rattle.inner_sections.specs.CutPipes.{along}
use Rattle.inner_sections.proofs.CutRows.{in_reach, cp_from}
use Rattle.inner_sections.proofs.CutPipe.cp_at.Goals as goal

pub cp_along-requires : goal.cp_along-requires
cp_along-requires c = in_reach c.args.self.now.cut _ c.requires

pub returns : goal.returns
returns c = cp_from (along c.args.self.now) c.args.self.now.s c.args.i c.read.ensures c.cp_along.ensures
