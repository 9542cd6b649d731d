-- The cases at the border hold: the theorems of `recurrence` are what the cases take. Assumes nothing.
use Rattle.recurrence.proofs.Theorem.{demand_3}
use Rattle.recurrence.proofs.TiedCalls.{calls_tied}
use Rattle.recurrence.proofs.InRows.{demand_3_in_rows}
use Rattle.recurrence.proofs.GoesOn.{can_go_on, all_finite_lem}
use Rattle.border_cases.specs.Cases.{Claim}
use Rattle.border_cases.specs.Border.{BorderCases}
use Rattle.border_cases.proofs.AsRead.{as_read}
use Rattle.border_cases.proofs.Stops.{stop_cases}
use Rattle.border_cases.proofs.Near.{near_cases}
use Rattle.border_cases.proofs.Through.{across_cases}
use Rattle.border_cases.proofs.Apart.{apart_cases}
use Rattle.border_cases.proofs.Nodes.{node_cases, node_apart_cases}
use Rattle.border_cases.proofs.Rows.{met, row_cases, tied_cases, continued_cases}

claim : Claim
claim a b x k e calls = demand_3 a b e.accepted.0 e.accepted.1 x k e.from_1 e.alike e.before calls

pub border_cases : BorderCases
border_cases = record {
  as_read = as_read;
  stops = stop_cases claim;
  near = near_cases claim;
  through = across_cases claim;
  apart = apart_cases claim;
  nodes = node_cases claim;
  nodes_apart = node_apart_cases claim;
  met = met;
  rows = row_cases demand_3_in_rows calls_tied;
  tied = tied_cases calls_tied;
  continued = continued_cases all_finite_lem can_go_on;
}
