-- `c_interface::vintuqay_run_on` meets its contract: `surge::run_on` answers and leaves what the definition says, and its answer is packed. Assumes nothing.
use mathlib.Core.Path.{◌≡◌}
use borrow.Author.Rules.{rules}
use Rattle.recurrence.specs.Calls.{gathered, run_on_call}
use Rattle.recurrence.specs.Slices.{lent}
use Rattle.surge.specs.Answers.{call_leaves}
use Rattle.c_interface.proofs.Parts.{packed_call}
use Rattle.c_interface.proofs.vintuqay_run_on.Statement.{statement}
use Rattle.c_interface.proofs.vintuqay_run_on.Tie as tie

-- what the call leaves and answers is the definition's, for these m and N: said by itself, so that of another number the prover tells both
abbrev entry : tie.After-run_on → tie.Start
entry c = let lent : tie.After-slice_known-7-1 = c.before.before.before.before.before.before.before.before in lent.before.before.before.before.before.before.before.before

ran : (c : tie.After-run_on)
    → let a = (entry c).args in
    let l = c.run_on.new in
    call_leaves (gathered l.heads l.flows l.highest l.lowest l.speeds l.inflows l.spare) c.run_on.result
    ≡ run_on_call a.job.now a.done a.count (lent a.heads a.flows a.highest a.lowest a.speeds a.inflows a.spare)
ran c = c.run_on.ensures

returns : tie.Need-returns
returns c =
    let known : tie.After-slice_known-12-1 = c.before.before.before.before.before in
    let called : tie.After-run_on = known.before.before.before.before.before.before.before.before.before.before in
    packed_call c.pack_answer.ensures (ran called)

pub vintuqay_run_on_spec : {M : Type 1} → statement M
vintuqay_run_on_spec =
    tie.close
    (tie.spec
    (λ c κs. search rules)
    (λ c κs. search rules)
    (λ c. search rules)
    (λ c. search rules)
    (λ c. search rules)
    (λ c. search rules)
    (λ c. search rules)
    (λ c. search rules)
    (λ c. search rules)
    returns)
