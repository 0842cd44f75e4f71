use Rattle.std.proofs.Common.{◌≡◌}
use Rattle.store_image.proofs.Padding.{payload_short, gap_whole, gap_short}
use Rattle.store_image.proofs.blocks.gap.Goals as goal

pub returns-then-payload-eq4096-clause-is : goal.returns-then-payload-eq4096-clause-is
returns-then-payload-eq4096-clause-is c = rw c.if-payload-eq4096.true (gap_whole c.args.size)

pub returns-else-payload-eq4096-clause-is : goal.returns-else-payload-eq4096-clause-is
returns-else-payload-eq4096-clause-is c = let e = payload_short c.args.payload c.requires.payload c.if-payload-eq4096.false in rw e (gap_short c.args.size)
