-- `chain::all_zero` meets its contract: each entry is asked, and may be compared, since it is finite. Assumes nothing.
use Rattle.std.proofs.Common.{refl, rules, ◌+◌, ◌∙◌}
use Rattle.std.proofs.lemmas.Iterator.{serves_from_Range}
use lib.Ieee.{eq}
use Rattle.fields.specs.Real.{zero64}
use Rattle.fields.specs.Finite.{finite_at}
use Rattle.loops.proofs.All.{all_at}
use Rattle.loops.proofs.Ranges.{all_ran}
use Rattle.job.specs.Format.{entry_in}
use Rattle.chain.proofs.ChainLaws.{zero_each}
use Rattle.chain.proofs.all_zero.Goals as goal

-- It stands before what the call requires, so that of an entry not asked the prover tells this first.
pub returns : goal.returns
returns c = all_ran (λ i. eq (entry_in c.args.schedules.now (c.args.place + i)) zero64) _ c.all.ensures.ran refl (λ x b q k. search rules) ∙ zero_each _ _

pub all-requires-clause-callable : goal.all-requires-clause-callable
unfolding finite_at
all-requires-clause-callable c =
    serves_from_Range (λ x q k. search rules) (λ x low high. let finite = all_at _ x c.args.count c.requires.1 high in search rules)
