use Rattle.std.proofs.Common.{◌/◌, ◌∙◌, ap, arith}
use Rattle.btree_scan.specs.Cuts.{stands_before}
use Rattle.btree_build.specs.Trees.{blocks_for}
use Rattle.btree_scan.specs.Levels.{size_at, key_at, IsLevel, place_of}
use Rattle.btree_scan.proofs.Edges.{some_blocks, top_fits, leads, leads_alone, leads_if, edge_top, Test}
use Rattle.btree_scan.proofs.search.top_block.Goals as goal

pub overflow_add-level : goal.overflow_add-level
overflow_add-level g c = omega (arith, c.requires.lies.within 1 c.requires.some)

pub overflow_add-level-2 : goal.overflow_add-level-2
overflow_add-level-2 g c =
    let tree = c.args.tree.now in
    let two = c.blocks_for-top.ensures.is ∙ ap (blocks_for (tree.payload / 12)) c.blocks_for-middle.ensures.is in
    omega (arith, c.requires.lies.within 1 c.requires.some, two)

pub block_in_level-requires-clause-there : goal.block_in_level-requires-clause-there
block_in_level-requires-clause-there g c =
    let tree = c.args.tree.now in
    let two = c.blocks_for-top.ensures.is ∙ ap (blocks_for (tree.payload / 12)) c.blocks_for-middle.ensures.is in
    let level : IsLevel tree 2 = omega (arith, two) in
    let some = some_blocks tree.payload (size_at tree 2) c.requires.lies.payload (omega (arith, level)) in
    omega (arith, c.requires.lies.within 2 level, two, some)

pub returns-clause-leads : goal.returns-clause-leads
unfolding key_at
returns-clause-leads g c = λ image tells levels.
    let tree = c.args.tree.now in
    let payload = c.requires.lies.payload in
    let test = stands_before c.args.through c.args.prefix.now in
    let two = c.blocks_for-top.ensures.is ∙ ap (blocks_for (tree.payload / 12)) c.blocks_for-middle.ensures.is in
    let level : IsLevel tree 2 = omega (arith, two) in
    let few = top_fits tree.payload tree.entries payload c.requires.lies.few in
    leads_if (Test tree test image payload 1) (tree.payload / 12) (size_at tree 1) c.block_in_level.result _
    (λ o edge. leads tree test image payload levels 1 level o (edge_top tree test image payload 2 _ _ (place_of o) (omega (arith, two, c.blocks_for-middle.ensures.is)) two few edge))
    (c.block_in_level.ensures.edge image tells)

pub returns-then-top-le1-clause-within : goal.returns-then-top-le1-clause-within
returns-then-top-le1-clause-within g c =
    let tree = c.args.tree.now in
    some_blocks tree.payload (size_at tree 1) c.requires.lies.payload (omega (arith, c.requires.some))

pub returns-then-top-le1-clause-leads : goal.returns-then-top-le1-clause-leads
returns-then-top-le1-clause-leads g c = λ image tells levels.
    let tree = c.args.tree.now in
    let two = c.blocks_for-top.ensures.is ∙ ap (blocks_for (tree.payload / 12)) c.blocks_for-middle.ensures.is in
    leads_alone tree (stands_before c.args.through c.args.prefix.now) image c.requires.lies.payload 1 (omega (arith, two, c.if-top-le1.true))
