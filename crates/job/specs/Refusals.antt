-- The numbers that the papers give to the questions, and of what a call answers the number of its first no. Definitions only.
use Rattle.std.specs.Prelude.{ℕ, Result, Ok, Err}
use Rattle.job.specs.declared.questions.Question.{Question}
use Rattle.job.specs.declared.questions.Question.TheVariants.{Size, PairCount, TablesInOrder, ListingSteps, PipesWhole, NodesWhole, PipesJoin, SectionCount, PipeConstants, NodeKinds, NodeFigures, NodesMet, Friction, InitialState, Schedules, LentLengths, StepsInAll, LentState, ScheduleCounts, Chain, SettingRows, Trips}

-- each question's number, as the papers have it beside their sentence
abbrev pub number : Question → ℕ
-- "Has the job 46 to 32,768 bytes?"
number Size = 1
-- "an admitted number of pairs, all inside the file"
number PairCount = 2
-- "has the first table begin straight after the pairs and the last end with the file", "each next where the last ended"
number TablesInOrder = 3
-- "Are the steps at most 1,000,000?"
number ListingSteps = 4
-- "Is table 1 whole, 1 to 32 pipes?"
number PipesWhole = 5
-- "Is table 2 whole, 2 to 32 nodes?"
number NodesWhole = 6
-- "Has each pipe two different nodes, both present, and 1 to 511 reaches?"
number PipesJoin = 7
-- "Are there at most 512 sections?"
number SectionCount = 8
-- "Is each S finite and above zero?"
number PipeConstants = 9
-- "Is each kind 0 to 3 and each schedule count at least 1?"
number NodeKinds = 10
-- "Are a, b, c finite, valve a and pump a, b not below zero, fields the kind doesn't name all zero bits?"
number NodeFigures = 11
-- "Has each node a pipe end?"
number NodesMet = 12
-- "Has table 3 the right length, each R finite and not below zero?"
number Friction = 13
-- "Has table 4 the right length, all finite, no head below its floor?"
number InitialState = 14
-- "Has table 5 the right length, all finite and in its kind's range?"
number Schedules = 15
-- "Start and run-on: does each lent slice hold the section count?"
number LentLengths = 20
-- "Run-on: is m at most 1,000,000 and N at most 1,000,000 - m?"
number StepsInAll = 21
-- "Run-on: are heads, flows and envelopes finite up to the section count, no head below its floor?"
number LentState = 22
-- "if table 6 is neither empty nor two bytes per node, a count in it is zero, or a byte it replaces is not"
number ScheduleCounts = 50
-- "if the layout is no such chain or L or Q is not finite"
number Chain = 51
-- "if the lent rows are shorter than the section count"
number SettingRows = 52
-- "if table 7 is not whole, a node isn't a pump or stands in two records, or a constant isn't finite or is below zero"
number Trips = 53

-- "The first no decides": its number, and 0 where every answer is yes
abbrev pub no_of : Result (Unit {0}) Question → ℕ
no_of (Ok _) = 0
no_of (Err question) = number question
