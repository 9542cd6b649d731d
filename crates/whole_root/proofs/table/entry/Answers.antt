-- Entry i stands at place i - 256 of the table. Assumes nothing.
use Rattle.whole_root.proofs.TableRule.{entry_is}
use Rattle.whole_root.proofs.table.entry.Goals as goal

pub returns : goal.returns
returns c = rw c.from.ensures (entry_is c.args.i c.requires.0 c.requires.1)
