use Rattle.std.proofs.Common.{◌≡◌, map, take}
use Rattle.store_image.specs.Keys.{index_numbered, key_in}
use Rattle.store_image.proofs.orders.keys_of.Given as goal

abbrev pub invariant-loop-ids : goal.invariant-loop-ids
invariant-loop-ids l = record {
  done : l.keys.items ≡ map (key_in (index_numbered l.order)) (take l.ids-index l.triples);
}
