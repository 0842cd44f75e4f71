use Rattle.std.proofs.Common.{arith}
use Rattle.btree_scan.proofs.Edges.{entry_block}
use Rattle.btree_scan.proofs.scan.entry.Goals as goal

pub overflow_add-tree : goal.overflow_add-tree
overflow_add-tree g c = omega (arith, c.requires.lies.within 0 tt, entry_block c.args.tree.now.payload c.args.tree.now.entries c.args.place c.requires.lies.payload c.requires.within)

pub entry_in_room-requires-clause-block : goal.entry_in_room-requires-clause-block
entry_in_room-requires-clause-block g c = omega (arith, c.requires.lies.within 0 tt, entry_block c.args.tree.now.payload c.args.tree.now.entries c.args.place c.requires.lies.payload c.requires.within)
