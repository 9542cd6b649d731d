-- `c_interface::vintuqay_start` meets its contract: `surge::start` answers and leaves what the definition says, and its answer is packed. Assumes nothing.
use borrow.Author.Rules.{rules}
use Rattle.c_interface.proofs.Parts.{packed_call}
use Rattle.c_interface.proofs.vintuqay_start.Statement.{statement}
use Rattle.c_interface.proofs.vintuqay_start.Tie as tie

returns : tie.Need-returns
returns c =
    let known : tie.After-slice_known-12-1 = c.before.before.before.before.before in
    let called : tie.After-start = known.before.before.before.before.before.before.before.before.before.before in
    packed_call c.pack_answer.ensures called.start.ensures

pub vintuqay_start_spec : {M : Type 1} → statement M
vintuqay_start_spec =
    tie.close
    (tie.spec
    (λ c κs. search rules)
    (λ c κs. search rules)
    (λ c. search rules)
    (λ c. search rules)
    (λ c. search rules)
    (λ c. search rules)
    (λ c. search rules)
    (λ c. search rules)
    (λ c. search rules)
    returns)
