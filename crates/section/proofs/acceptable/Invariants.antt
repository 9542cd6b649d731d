-- After s sections the count is 0 exactly where all of them are acceptable: a turn adds 1 for a section that is not.
use Rattle.loops.proofs.Counting.{Counting}
use Rattle.section.specs.Faults.{acceptable_in}
use Rattle.section.proofs.acceptable.Given as goal

abbrev pub invariant-loop-s : goal.invariant-loop-s
invariant-loop-s l = Counting (acceptable_in l.fn.initial l.heads l.flows l.highest l.lowest) l.s l.bad
