use Rattle.std.proofs.Common.{◌≡◌, ◌*◌, ◌/◌, ◌+◌, min, arith}
use Rattle.btree_scan.specs.Cuts.{stands_before}
use Rattle.btree_scan.proofs.Edges.{searched_ok, edge_in_level, edge_to, more_min}
use Rattle.btree_scan.proofs.level.cut_in_level.Goals as goal

pub returns-clause-edge : goal.returns-clause-edge
returns-clause-edge g c = λ image tells.
    let level = c.args.level in
    let per = level.payload / 12 in
    let count = c.min-count.result in
    let test = stands_before c.args.through c.args.prefix.now in
    let found = searched_ok level.payload (level.first + c.args.block) count test image c.cut_in_block.result c.in_ok-place.place c.in_ok-place.was (c.cut_in_block.ensures.found image tells) in
    edge_to _ _ _ _ _ (let e : c.args.block * per + count ≡ min ((c.args.block + 1) * per) level.size = more_min c.args.block per count level.size (grind (arith, c.min-count.ensures)) (omega arith) in e)
    (edge_in_level level.payload level.first c.args.block count image test c.requires.payload (omega arith) found.0 c.in_ok-place.place found.1)
