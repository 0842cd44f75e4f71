use Rattle.store_image.specs.Keys.{index_numbered}
use Rattle.store_image.proofs.Keys.{keys_are}
use Rattle.store_image.proofs.orders.keys_by.Goals as goal

pub returns : goal.returns
returns c = keys_are (index_numbered c.args.order) c.args.triples.now c.order_ids.new.triples.items c.in_ok-keys.keys.items c.in_ok-keys.ensures c.order_ids.ensures.sorted c.order_ids.ensures.same
