use Rattle.std.proofs.Common.{◌≡◌, ◌++◌, drop, map}
use Rattle.sparql_tree.specs.Groups as tree
use Rattle.sparql_tree.specs.GroupTrees.{item_of}
use Rattle.sparql_algebra.proofs.preparing.selected.Given as goal

-- what was found and what is left are the whole
abbrev pub invariant-loop-item : goal.invariant-loop-item
invariant-loop-item l =
    l.names ++ map (λ (item : tree.SelectItem). item.variable) (map item_of (drop l.item-index l.items)) ≡ map (λ (item : tree.SelectItem). item.variable) (map item_of l.items)
