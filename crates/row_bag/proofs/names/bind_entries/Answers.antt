use Rattle.row_bag.proofs.Bound.{none_bound, entry_bound}
use Rattle.row_bag.proofs.names.bind_entries.Goals as goal

pub loop-entry-init : goal.loop-entry-init
loop-entry-init c = none_bound c.args.bound.now

pub loop-entry-preserved : goal.loop-entry-preserved
loop-entry-preserved c =
    entry_bound c.args.entries.now c.loop-entry.entry-index c.entry-item.result c.args.bound.now c.loop-entry.bound c.bind_entry.new.bound
    c.loop-entry-test.true c.entry-item.is c.loop-entry.invariant c.in_ok-bind_entry.ensures
