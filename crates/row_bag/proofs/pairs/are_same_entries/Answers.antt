use Rattle.std.proofs.Common.{sym}
use Rattle.row_bag.proofs.Equal.{unlike}
use Rattle.row_bag.proofs.pairs.are_same_entries.Goals as goal

pub returns-then-a-b : goal.returns-then-a-b
returns-then-a-b c = sym (unlike c.args.a.now c.args.b.now c.if-a-b.true)
