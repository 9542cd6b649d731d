-- `section::store_two` meets its contract: each row takes two numbers, an envelope by its own entries, all read before the stores. Assumes nothing.
use mathlib.Core.Path.{refl}
use borrow.Author.Rules.{rules}
use Rattle.recurrence.specs.Step.{raised, lowered}
use Rattle.section.specs.SectionRows.{keep_new, two_of}
use Rattle.section.proofs.Entries.{stored_two}
use Rattle.section.proofs.store_two.Statement.{statement}
use Rattle.section.proofs.store_two.Tie as tie

returns : tie.Need-returns
unfolding two_of
returns c =
    let high : tie.After-greater-2 = c.before.before in
    let lent : tie.After-slice_known-4-1 = high.before.before.before.before.before.before in
    let start : tie.Start = lent.before.before.before.before in
    let a = start.args in
    let pre = start.requires in (
      stored_two keep_new (λ k. (two_of a.x a.y k).head) a.heads.now a.at pre.0 refl refl,
      stored_two keep_new (λ k. (two_of a.x a.y k).flow) a.flows.now a.at pre.1 refl refl,
      stored_two raised (λ k. (two_of a.x a.y k).head) a.highest.now a.at pre.2 high.before.greater.ensures high.greater-2.ensures,
      stored_two lowered (λ k. (two_of a.x a.y k).head) a.lowest.now a.at pre.3 c.before.lesser.ensures c.lesser-2.ensures,
    )

pub store_two_spec : {M : Type 1} → statement M
store_two_spec =
    tie.close
    (tie.spec
    (λ c. search rules)
    (λ c. search rules)
    (λ c. search rules)
    (λ c. search rules)
    (λ c. search rules)
    (λ c. search rules)
    (λ c. search rules)
    (λ c. search rules)
    (λ c. search rules)
    (λ c. search rules)
    (λ c. search rules)
    (λ c. search rules)
    (λ c. search rules)
    (λ c. search rules)
    (λ c. search rules)
    (λ c. search rules)
    (λ c. search rules)
    (λ c κs. search rules)
    (λ c. search rules)
    (λ c. search rules)
    (λ c κs. search rules)
    (λ c. search rules)
    (λ c. search rules)
    (λ c κs. search rules)
    (λ c. search rules)
    (λ c. search rules)
    (λ c κs. search rules)
    (λ c. search rules)
    (λ c. search rules)
    (λ c. search rules)
    (λ c. search rules)
    (λ c. search rules)
    (λ c. search rules)
    returns)
