-- A node's kind as the code names it, by its number in table 2. Definitions only.
use Rattle.std.specs.Prelude.{◌≡◌, ℕ, ◌<◌, Result, MatchResult}
use Rattle.job.specs.declared.nodes.NodeKind.{NodeKind}
use Rattle.job.specs.declared.nodes.NodeKind.TheVariants.{Junction, Reservoir, Valve, Pump}
use Rattle.job.specs.declared.nodes.UnknownKind.{UnknownKind}

-- "0, junction", "1, reservoir", "2, valve", "3, pump"
abbrev pub number_of : NodeKind → ℕ
number_of Junction = 0
number_of Reservoir = 1
number_of Valve = 2
number_of Pump = 3

-- the kind that has this number, or an error where the number is above those of the kinds
abbrev pub Names : ℕ → Result NodeKind UnknownKind → Type 0
Names number r = MatchResult r (λ kind. number_of kind ≡ number) (λ _. 3 < number)
