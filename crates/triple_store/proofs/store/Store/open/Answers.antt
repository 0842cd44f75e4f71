use Rattle.std.proofs.Common.{◌∙◌}
use Rattle.triple_store.proofs.Opened.{store_of, outside, told_after, made_of}
use Rattle.triple_store.proofs.store.Store.open.Goals as goal

pub returns-in-Ok-clause-holds : goal.returns-in-Ok-clause-holds
returns-in-Ok-clause-holds g c = λ L format image told holds.
    made_of L _ _ c.with_cache.result c.with_cache.ensures.made c.with_cache.ensures.memory
    (store_of L format image (g.B.Blocks.device c.args.blocks).count _ holds (told_after _ _ image c.header_of.ensures.read.image told) (c.in-Ok.ensures.header image told))

pub returns-in-Err-clause-holds : goal.returns-in-Err-clause-holds
returns-in-Err-clause-holds g c = λ L format image told holds.
    outside L format image (g.B.Blocks.device c.args.blocks).count c.in-Err.fault holds (g.met.B.Blocks.whole c.args.blocks image told) (c.in-Err.ensures.cause image told)
