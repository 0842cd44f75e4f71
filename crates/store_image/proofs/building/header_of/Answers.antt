use Rattle.std.proofs.Common.{◌≡◌, ◌+◌, ◌*◌, ◌/◌, ◌≤◌, length, ap, sym, ◌∙◌, subst, arith}
use Rattle.store_image.specs.Table.{terms_in}
use Rattle.store_image.proofs.Padding.{blocks_few}
use Rattle.store_image.proofs.Sizes.{extent_small}
use Rattle.store_image.proofs.building.header_of.Goals as goal

pub blocks_for-records-requires-clause-fits : goal.blocks_for-records-requires-clause-fits
blocks_for-records-requires-clause-fits c =
    omega (arith, extent_small _ (terms_in c.args.table.now) c.extent_of-extent.result.bytes c.terms.ensures c.requires.short c.requires.few_terms c.extent_of-extent.ensures.bytes)

pub overflow_add-result : goal.overflow_add-result
overflow_add-result c =
    omega (arith, c.blocks_for-places.ensures, blocks_few c.payload_of-payload.result (8 * (c.term_count.result + 1)) c.payload_of-payload.ensures.whole, c.requires.few_terms, c.term_count.ensures)

pub overflow_add-result-2 : goal.overflow_add-result-2
overflow_add-result-2 c =
    omega (
      arith,
      c.blocks_for-places.ensures,
      blocks_few c.payload_of-payload.result (8 * (c.term_count.result + 1)) c.payload_of-payload.ensures.whole,
      c.requires.few_terms,
      c.term_count.ensures,
      c.tree_blocks-trees.ensures.few,
      c.requires.few_triples,
      c.len.ensures,
    )

pub overflow_add-result-3 : goal.overflow_add-result-3
overflow_add-result-3 c =
    omega (
      arith,
      c.blocks_for-places.ensures,
      blocks_few c.payload_of-payload.result (8 * (c.term_count.result + 1)) c.payload_of-payload.ensures.whole,
      c.requires.few_terms,
      c.term_count.ensures,
      c.tree_blocks-trees.ensures.few,
      c.requires.few_triples,
      c.len.ensures,
      c.blocks_for-records.ensures,
      blocks_few c.payload_of-payload.result c.extent_of-extent.result.bytes c.payload_of-payload.ensures.whole,
      extent_small _ (terms_in c.args.table.now) c.extent_of-extent.result.bytes c.terms.ensures c.requires.short c.requires.few_terms c.extent_of-extent.ensures.bytes,
    )

pub overflow_cast-result : goal.overflow_cast-result
overflow_cast-result c =
    omega (
      arith,
      c.blocks_for-places.ensures,
      blocks_few c.payload_of-payload.result (8 * (c.term_count.result + 1)) c.payload_of-payload.ensures.whole,
      c.requires.few_terms,
      c.term_count.ensures,
      c.tree_blocks-trees.ensures.few,
      c.requires.few_triples,
      c.len.ensures,
      c.blocks_for-records.ensures,
      blocks_few c.payload_of-payload.result c.extent_of-extent.result.bytes c.payload_of-payload.ensures.whole,
      extent_small _ (terms_in c.args.table.now) c.extent_of-extent.result.bytes c.terms.ensures c.requires.short c.requires.few_terms c.extent_of-extent.ensures.bytes,
    )
