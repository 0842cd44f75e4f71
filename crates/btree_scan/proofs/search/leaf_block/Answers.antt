use Rattle.std.proofs.Common.{◌/◌, arith}
use Rattle.btree_scan.specs.Cuts.{stands_before}
use Rattle.sage_outside.proofs.Answered.{still}
use Rattle.btree_scan.specs.Levels.{size_at, IsLevel, place_of}
use Rattle.btree_scan.proofs.Edges.{some_blocks, block_starts, leads, leads_alone, leads_if, edge_at, Test, some_within, leads_some}
use Rattle.btree_scan.proofs.search.leaf_block.Goals as goal

pub returns-then-middle-le1-clause-within : goal.returns-then-middle-le1-clause-within
returns-then-middle-le1-clause-within g c = some_blocks c.args.tree.now.payload c.args.tree.now.entries c.requires.lies.payload c.requires.some

pub returns-then-middle-le1-clause-leads : goal.returns-then-middle-le1-clause-leads
returns-then-middle-le1-clause-leads g c = λ image tells levels.
    leads_alone c.args.tree.now (stands_before c.args.through c.args.prefix.now) image c.requires.lies.payload 0 (omega (arith, c.blocks_for-middle.ensures.is, c.if-middle-le1.true))

pub overflow_add-level : goal.overflow_add-level
overflow_add-level g c = omega (arith, c.requires.lies.within 0 tt, c.blocks_for-middle.ensures.is)

pub block_in_level-requires-clause-there : goal.block_in_level-requires-clause-there
block_in_level-requires-clause-there g c =
    let tree = c.args.tree.now in
    let level : IsLevel tree 1 = omega (arith, c.blocks_for-middle.ensures.is, c.if-middle-le1.false) in
    let inside = some_within c.top_block.result c.in_ok-top_block.field-0 c.in-Some.block (size_at tree 2) c.in_ok-top_block.was c.in-Some.is c.top_block.ensures.within in
    omega (arith, c.requires.lies.within 1 level, c.blocks_for-middle.ensures.is, inside)

pub block_in_level-requires-clause-some : goal.block_in_level-requires-clause-some
block_in_level-requires-clause-some g c =
    let tree = c.args.tree.now in
    let inside = some_within c.top_block.result c.in_ok-top_block.field-0 c.in-Some.block (size_at tree 2) c.in_ok-top_block.was c.in-Some.is c.top_block.ensures.within in
    omega (arith, block_starts tree.payload (size_at tree 1) c.in-Some.block c.requires.lies.payload inside, c.blocks_for-middle.ensures.is)

pub returns-in-Some-clause-leads : goal.returns-in-Some-clause-leads
returns-in-Some-clause-leads g c = λ image tells levels.
    let tree = c.args.tree.now in
    let payload = c.requires.lies.payload in
    let test = stands_before c.args.through c.args.prefix.now in
    let level : IsLevel tree 1 = omega (arith, c.blocks_for-middle.ensures.is, c.if-middle-le1.false) in
    let inside = some_within c.top_block.result c.in_ok-top_block.field-0 c.in-Some.block (size_at tree 2) c.in_ok-top_block.was c.in-Some.is c.top_block.ensures.within in
    let block = leads_some _ _ _ c.top_block.result c.in_ok-top_block.field-0 c.in-Some.block c.in_ok-top_block.was c.in-Some.is (c.top_block.ensures.leads image tells levels) in
    leads_if (Test tree test image payload 0) (tree.payload / 12) (size_at tree 0) c.block_in_level.result _
    (λ o edge. leads tree test image payload levels 0 level o (edge_at tree test image payload 1 c.in-Some.block _ _ (place_of o) (omega (arith, c.blocks_for-middle.ensures.is)) c.blocks_for-middle.ensures.is block inside edge))
    (c.block_in_level.ensures.edge image (still _ _ image c.top_block.ensures.read.image tells))
