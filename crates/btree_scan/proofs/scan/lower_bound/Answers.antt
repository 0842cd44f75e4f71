use Rattle.std.proofs.Common.{◌≡◌, count_by, false}
use Rattle.btree_scan.specs.declared.prefix.Prefix.{Prefix}
use Rattle.btree_scan.specs.Levels.{IsEdgeAt}
use Rattle.btree_scan.specs.Cuts.{stands_before, front_cmp}
use Rattle.btree_scan.proofs.Keys.{edge_counts}
use Rattle.btree_scan.proofs.Edges.{if_ok_then}
use Rattle.btree_scan.proofs.scan.lower_bound.Goals as goal

pub returns-clause-edge : goal.returns-clause-edge
unfolding front_cmp
returns-clause-edge g c = λ image tells levels. c.cut_place.ensures.edge image tells levels

pub returns-clause-found : goal.returns-clause-found
unfolding front_cmp
returns-clause-found g c = λ es image tells lists.
    let key = c.args.key.now in
    let prefix : Prefix = record { len = 3; a = key.s; b = key.p; c = key.o } in
    if_ok_then c.cut_place.result (IsEdgeAt c.args.tree.now 0 (stands_before false prefix) image) (λ n. n ≡ count_by (stands_before false prefix) es)
    (λ n edge. edge_counts c.args.tree.now es image false prefix n lists edge) (c.cut_place.ensures.edge image tells lists.levels)
