use Rattle.std.proofs.Common.{◌≡◌, true, false, arith}
use Rattle.sage_outside.proofs.Answered.{still, if_ok}
use Rattle.btree_scan.specs.Cuts.{stands_before}
use Rattle.btree_scan.specs.Levels.{IsEdgeAt}
use Rattle.btree_scan.proofs.Keys.{edges_range, edges_ordered}
use Rattle.btree_scan.proofs.scan.range.Goals as goal

pub returns-clause-found : goal.returns-clause-found
returns-clause-found g c = λ es image tells lists.
    let tree = c.args.tree.now in
    let low = if_ok c.cut_place.result c.in_ok-first.first (IsEdgeAt tree 0 (stands_before false c.args.prefix.now) image) c.in_ok-first.was (c.cut_place.ensures.edge image tells lists.levels) in
    let high = if_ok c.cut_place-2.result c.in_ok-end.end (IsEdgeAt tree 0 (stands_before true c.args.prefix.now) image) c.in_ok-end.was (c.cut_place-2.ensures.edge image (still _ _ image c.cut_place.ensures.read.image tells) lists.levels) in
    let ordered = edges_ordered tree es image c.args.prefix.now c.in_ok-first.first c.in_ok-end.end lists low high in
    let is : c.max.result ≡ c.in_ok-end.end = grind (arith, c.max.ensures, ordered) in
    rw is (edges_range tree es image c.args.prefix.now c.in_ok-first.first c.in_ok-end.end lists low high)
