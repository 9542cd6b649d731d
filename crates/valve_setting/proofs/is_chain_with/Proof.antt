-- `valve_setting::is_chain_with` meets its contract: the three parts of question 51. Assumes nothing.
use borrow.Author.Rules.{rules}
use Rattle.setting.specs.Setting.{is_chain_with}
use Rattle.valve_setting.proofs.is_chain_with.Statement.{statement}
use Rattle.valve_setting.proofs.is_chain_with.Tie as tie

returns : tie.Need-returns
unfolding is_chain_with
returns c = rw (c.before.before.is_chain.ensures, c.before.is_finite.ensures, c.is_finite-2.ensures)

pub is_chain_with_spec : {M : Type 1} → statement M
is_chain_with_spec = tie.close (tie.spec (λ c κs. search rules) (λ c κs. search rules) (λ c κs. search rules) returns)
