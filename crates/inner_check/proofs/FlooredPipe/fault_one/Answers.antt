-- The section is worked out from its CP, and held to its own floor. Assumes nothing.
use native.Mathlib.Omega.{arith}
use Rattle.inner_sections.proofs.CutRows.{in_floors}
use Rattle.inner_check.proofs.FlooredPipe.fault_one.Goals as goal

pub floor_at-requires : goal.floor_at-requires
floor_at-requires c = in_floors c.args.self.now.floored _ (omega (arith, c.requires))
