-- All cases at the border. Definitions only.
use Rattle.border_cases.specs.Cases.{AsRead, StopCases, NearCases, AcrossCases, ApartCases}
use Rattle.border_cases.specs.NodeCases.{NodeCases, NodeApartCases}
use Rattle.border_cases.specs.RowCases.{Met, RowCases, TiedCases, ContinuedCases}

-- Each clause of what demand 3 claims (`Carried`), of what a list of calls has to meet (`Chained`), of paths (`Paths`) and of the laws of continued runs
-- (`Continued`) is used here where it ends.
pub record BorderCases : Type 0 where
  pub as_read : AsRead
  pub stops : StopCases
  pub near : NearCases
  pub through : AcrossCases
  pub apart : ApartCases
  pub nodes : NodeCases
  pub nodes_apart : NodeApartCases
  pub met : Met
  pub rows : RowCases
  pub tied : TiedCases
  pub continued : ContinuedCases
