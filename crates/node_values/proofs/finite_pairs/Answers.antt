-- The closure answers, at each node, whether both numbers of its pair are finite.
use mathlib.Core.Path.{refl, ap₂, ◌∙◌}
use mathlib.Core.Bool.{◌&&◌}
use native.Mathlib.Omega.{arith}
use lib.ListN.{get_or}
use lib.Ieee.{nan}
use lib.Ieee.Scale.{finite}
use borrow.Author.Rules.{rules}
use Rattle.loops.proofs.All.{all_cong}
use Rattle.loops.proofs.Ranges.{all_ran}
use Rattle.recurrence.specs.Scan.{finite_drive}
use Rattle.section.proofs.Entries.{read}
use Rattle.node_values.proofs.finite_pairs.Goals as goal

pub returns : goal.returns
unfolding finite_drive
returns c =
    all_ran (λ y. finite (get_or c.args.speeds.now y nan) && finite (get_or c.args.inflows.now y nan)) _ c.all.ensures.ran refl (λ x b q k. search rules)
    ∙ all_cong _ _ _ (λ y h. ap₂ (λ v q. finite v && finite q) (read c.args.speeds.now y (omega arith)) (read c.args.inflows.now y (omega arith)))
