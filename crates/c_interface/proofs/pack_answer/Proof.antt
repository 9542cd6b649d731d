-- `c_interface::pack_answer` meets its contract: what is packed are the number, the section and the steps of the answer in document 01's terms.
-- Assumes nothing.
use mathlib.Core.Path.{◌∙◌}
use borrow.Author.Rules.{rules}
use Rattle.c_interface.specs.Packed.{packed_answer}
use Rattle.c_interface.proofs.pack_answer.Statement.{statement}
use Rattle.c_interface.proofs.pack_answer.Tie as tie

returns : tie.Need-returns
unfolding packed_answer
returns c = let n = c.before.from-n.ensures in c.pack.ensures ∙ rw (n.0, n.1, n.2)

pub pack_answer_spec : {M : Type 1} → statement M
pack_answer_spec = tie.close (tie.spec (λ c κs. search rules) (λ c κs. search rules) returns)
