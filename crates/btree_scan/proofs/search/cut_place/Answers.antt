use Rattle.std.proofs.Common.{arith, refl}
use Rattle.btree_scan.specs.Cuts.{stands_before}
use Rattle.sage_outside.proofs.Answered.{still}
use Rattle.btree_scan.specs.Levels.{size_at}
use Rattle.btree_scan.proofs.Edges.{block_starts, edge_at, some_within, leads_some, if_ok_then}
use Rattle.btree_scan.proofs.search.cut_place.Goals as goal

pub cut_in_level-requires-clause-there : goal.cut_in_level-requires-clause-there
cut_in_level-requires-clause-there g c =
    let tree = c.args.tree.now in
    let inside = some_within c.leaf_block.result c.in_ok-leaf_block.field-0 c.in-Some.block (size_at tree 1) c.in_ok-leaf_block.was c.in-Some.is c.leaf_block.ensures.within in
    omega (arith, c.requires.lies.within 0 tt, inside)

pub cut_in_level-requires-clause-some : goal.cut_in_level-requires-clause-some
cut_in_level-requires-clause-some g c =
    let tree = c.args.tree.now in
    let inside = some_within c.leaf_block.result c.in_ok-leaf_block.field-0 c.in-Some.block (size_at tree 1) c.in_ok-leaf_block.was c.in-Some.is c.leaf_block.ensures.within in
    block_starts tree.payload tree.entries c.in-Some.block c.requires.lies.payload inside

pub returns-in-Some-clause-edge : goal.returns-in-Some-clause-edge
returns-in-Some-clause-edge g c = λ image tells levels.
    let tree = c.args.tree.now in
    let payload = c.requires.lies.payload in
    let test = stands_before c.args.through c.args.prefix.now in
    let inside = some_within c.leaf_block.result c.in_ok-leaf_block.field-0 c.in-Some.block (size_at tree 1) c.in_ok-leaf_block.was c.in-Some.is c.leaf_block.ensures.within in
    let block = leads_some _ _ _ c.leaf_block.result c.in_ok-leaf_block.field-0 c.in-Some.block c.in_ok-leaf_block.was c.in-Some.is (c.leaf_block.ensures.leads image tells levels) in
    if_ok_then c.cut_in_level.result _ _ (λ n edge. edge_at tree test image payload 0 c.in-Some.block _ _ n refl refl block inside edge) (c.cut_in_level.ensures.edge image (still _ _ image c.leaf_block.ensures.read.image tells))
