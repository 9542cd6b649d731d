-- `chain_heads::head_past` meets its contract: R is that of reach i of the pipe. Assumes nothing.
use mathlib.Core.Path.{ap, ◌∙◌}
use lib.Ieee.{Float}
use borrow.Author.Rules.{rules}
use Rattle.setting.specs.Setting.{head_after}
use Rattle.chain_heads.proofs.head_past.Statement.{statement}
use Rattle.chain_heads.proofs.head_past.Tie as tie

-- It stands before the needs of the calls, so that of another reach the prover tells this first.
returns : tie.Need-returns
returns c =
    let a = c.before.before.before.before.args in
    c.head_after.ensures ∙ ap (λ (r : Float). head_after a.l.s r a.q a.h) c.before.r_at.ensures

r-at-requires : tie.Need-r_at-requires
r-at-requires c κs = c.before.before.requires

pub head_past_spec : {M : Type 1} → statement M
head_past_spec = tie.close (tie.spec (λ c. search rules) r-at-requires (λ c κs. search rules) returns)
