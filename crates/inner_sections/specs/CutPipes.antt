-- A pipe of rows that are cut to it. Definitions only.
use Rattle.std.specs.Prelude.{ℕ, length}
use Rattle.recurrence.specs.Step.{AlongPipes}
use Rattle.inner_sections.specs.InnerSections.{one_pipe}
use Rattle.inner_sections.specs.declared.CutPipe.{CutPipe}

-- what its rows and its friction hold, and how many sections it has
abbrev pub along : CutPipe → AlongPipes
along p = one_pipe p.friction.now p.heads.now p.flows.now

abbrev pub section_count : CutPipe → ℕ
section_count p = length p.heads.now
