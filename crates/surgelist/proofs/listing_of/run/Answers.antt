-- `surgelist::listing_of::run` meets its contract: the start and the run_on keep the rows long enough for every job, and the run_on goes from the rows
-- that the start left, so that its rows and its answer are those of the job's own run. Assumes nothing.
use Rattle.std.proofs.Common.{arith}
use Rattle.recurrence.specs.Calls.{Rows, gathered}
use Rattle.surgelist.specs.LentRows.{Long}
use Rattle.surgelist.proofs.ListingLaws.{written_listing}
use Rattle.surgelist.proofs.listing_of.run.Goals as goal

-- the rows after the start and after the run_on
abbrev started : goal.After-slice_known-21-1 → Rows
started c = let n = c.start.new in gathered n.heads n.flows n.highest n.lowest n.speeds n.inflows n.spare

abbrev left : goal.After-slice_known-21-1 → Rows
left c = let n = c.run_on.new in gathered n.heads n.flows n.highest n.lowest n.speeds n.inflows n.spare

long_started : (c : goal.After-slice_known-21-1) → Long (started c)
long_started c = let l = c.requires.long in let k = c.start.auto in omega arith

long_left : (c : goal.After-slice_known-21-1) → Long (left c)
long_left c = let l = long_started c in let k = c.run_on.auto in omega arith

pub returns : goal.returns
returns c =
    written_listing c.args.job.now c.requires.accepted.0 c.requires.long (long_started c) (long_left c) c.start.ensures c.run_on.ensures c.requires.accepted.1
