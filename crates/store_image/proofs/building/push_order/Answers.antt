use Rattle.std.proofs.Common.{length, ap, ◌∙◌, arith}
use Rattle.store_image.specs.Keys.{index_numbered}
use Rattle.store_image.proofs.Keys.{length-keys_by}
use Rattle.store_image.proofs.building.push_order.Goals as goal

pub push_keys-requires-clause-few : goal.push_keys-requires-clause-few
push_keys-requires-clause-few c =
    omega (arith, ap length (c.as_slice.ensures.value ∙ c.in_ok-keys.ensures), length-keys_by (index_numbered c.args.order) c.args.triples.now c.requires.ordered, c.requires.few)
