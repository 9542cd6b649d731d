-- What the code reads within a row is the row's entry: no read falls past its end, where the entry is +0. Assumes nothing.
use borrow.Author.Rules.{rules}
use Rattle.section.proofs.Entries.{read}
use Rattle.section.proofs.read.Statement.{statement}
use Rattle.section.proofs.read.Tie as tie

returns : tie.Need-returns
returns c =
    let start : tie.Start = c.before.before in
    let a = start.args in
    rw (read a.heads.now a.at start.requires.0, read a.flows.now a.at start.requires.1)

pub read_spec : {M : Type 1} → statement M
read_spec = tie.close (tie.spec (λ c. search rules) (λ c. search rules) (λ c. search rules) (λ c. search rules) returns)
