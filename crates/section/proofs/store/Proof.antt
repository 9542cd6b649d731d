-- Each row takes one number at the section's entry, and an envelope the greater or the lesser of its own entry, read before the store, and the new head.
-- Assumes nothing.
use mathlib.Core.Path.{refl}
use borrow.Author.Rules.{rules}
use Rattle.recurrence.specs.Step.{raised, lowered}
use Rattle.section.specs.SectionRows.{keep_new}
use Rattle.section.proofs.Entries.{stored_one}
use Rattle.section.proofs.store.Statement.{statement}
use Rattle.section.proofs.store.Tie as tie

returns : tie.Need-returns
returns c =
    let high : tie.After-greater = c.before.before in
    let start : tie.Start = high.before.before.before.before.before.before in
    let a = start.args in
    let pre = start.requires in (
      stored_one keep_new (λ k. a.x.head) a.heads.now a.at pre.0 refl,
      stored_one keep_new (λ k. a.x.flow) a.flows.now a.at pre.1 refl,
      stored_one raised (λ k. a.x.head) a.highest.now a.at pre.2 high.greater.ensures,
      stored_one lowered (λ k. a.x.head) a.lowest.now a.at pre.3 c.lesser.ensures,
    )

pub store_spec : {M : Type 1} → statement M
store_spec =
    tie.close
    (tie.spec
    (λ c. search rules)
    (λ c. search rules)
    (λ c. search rules)
    (λ c. search rules)
    (λ c. search rules)
    (λ c. search rules)
    (λ c κs. search rules)
    (λ c. search rules)
    (λ c. search rules)
    (λ c. search rules)
    (λ c. search rules)
    (λ c κs. search rules)
    (λ c. search rules)
    (λ c. search rules)
    (λ c. search rules)
    (λ c. search rules)
    (λ c. search rules)
    (λ c. search rules)
    returns)
