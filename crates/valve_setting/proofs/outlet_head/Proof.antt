-- `valve_setting::outlet_head` meets its contract: the last node of a chain is a valve, and b stands at byte 10 of its record. Assumes nothing.
use mathlib.Core.Path.{◌≡◌, refl, sym, ap, ◌∙◌}
use mathlib.Core.Bool.{Bool, true, false, cond, true≢false}
use mathlib.Core.List.{List}
use Prim.Native.Nat.{ℕ}
use native.Mathlib.Omega.{arith}
use lib.Dec.{eqb}
use borrow.Author.Rules.{rules}
use Rattle.job.specs.Job.{Kind, junction, reservoir, valve, pump, ScheduledNode}
use Rattle.job.specs.Format.{pipe_table, node_table, pipe_count, kind_number, a_of, b_of, c_of, kind_in, node_in, job_of}
use Rattle.job.specs.Questions.{Accepted}
use Rattle.job.proofs.NodeLaws.{figures_finite}
use Rattle.job.proofs.Accepted.{tables_right, pipes_length}
use Rattle.chain.specs.Chain.{is_valve}
use Rattle.chain.proofs.ChainLaws.{EndsWithValve, ends_with_valve}
use Rattle.pipe_layout.proofs.Acceptance.{pairs_accepted}
use Rattle.setting.specs.Setting.{head_behind, outlet_head}
use Rattle.valve_setting.proofs.outlet_head.Statement.{statement}
use Rattle.valve_setting.proofs.outlet_head.Tie as tie

module _ (nodes : List ℕ) (node : ℕ) where
  abbrev kind_by : Bool → Bool → Bool → Kind
  kind_by x y z =
      cond x junction
      (cond y reservoir
      (cond z (valve (a_of nodes node) (b_of nodes node))
      (pump (a_of nodes node) (b_of nodes node) (c_of nodes node))))

  b_of_valve : is_valve (kind_in nodes node) ≡ true → head_behind (kind_in nodes node) ≡ b_of nodes node
  unfolding is_valve head_behind kind_in
  b_of_valve h = go (eqb (kind_number nodes node) 0) (eqb (kind_number nodes node) 1) (eqb (kind_number nodes node) 2) h
    where
      go : (x y z : Bool) → is_valve (kind_by x y z) ≡ true → head_behind (kind_by x y z) ≡ b_of nodes node
      go true y z e = absurd (true≢false (sym e))
      go false true z e = absurd (true≢false (sym e))
      go false false true e = refl
      go false false false e = absurd (true≢false (sym e))

outlet_is : (job : List ℕ) (ok : Accepted job) → EndsWithValve job ok → outlet_head (job_of job) ≡ b_of (node_table job) (pipe_count (pipe_table job))
unfolding outlet_head node_in
outlet_is job ok v = rw (pipes_length job ok) (ap (λ (n : ScheduledNode). head_behind n.kind) v.is ∙ b_of_valve _ _ v.valve)

-- the function's entry
abbrev start : tie.After-nodes-nodes → tie.Start
start c = c.before.before

last_valve : (c : tie.After-pipe_count-last) → let s = start c.before in EndsWithValve s.args.job.now s.requires.0
last_valve c = let s = start c.before in ends_with_valve _ s.requires.0 s.requires.1

-- It stands before the needs of the call, so that of another field the prover tells this first.
returns : tie.Need-returns
returns c =
    let count : tie.After-pipe_count-last = c.before in
    (rw (count.before.nodes-nodes.ensures, count.pipe_count-last.ensures.0) at c.f64_at.ensures) ∙ sym (outlet_is _ _ (last_valve count))

f64-at-requires : tie.Need-f64_at-requires
f64-at-requires c κs =
    let t = c.before.nodes-nodes.ensures in
    let v = last_valve c in
    rw (t, c.pipe_count-last.ensures.0) (
      omega (arith, v.present),
      (figures_finite _ (tables_right _ (start c.before).requires.0).nodes.figures _ v.present).b,
    )

pub outlet_head_spec : {M : Type 1} → statement M
outlet_head_spec =
    tie.close
    (tie.spec
    (λ c κs. pairs_accepted _ c.before.requires.0)
    (λ c κs. search rules)
    (λ c. search rules)
    (λ c. search rules)
    f64-at-requires
    returns)
