use Rattle.std.proofs.Common.{◌≡◌, ◌++◌, map, drop}
use Rattle.sparql_tree.specs.GroupTrees.{key_of}
use Rattle.sparql_tree.specs.Breaches as spec
use Rattle.sparql_scope.proofs.grouping.key_names.Given as goal

-- behind what was found, what is left adds what all add
abbrev pub invariant-loop-key : goal.invariant-loop-key
invariant-loop-key l = l.found ++ spec.key_names (map key_of (drop l.key-index l.keys)) ≡ spec.key_names (map key_of l.keys)
