use Rattle.std.proofs.Common.{◌≡◌, ◌≤◌, ◌++◌, drop, length}
use Rattle.sparql_tree.specs.Groups as tree
use Rattle.sparql_tree.specs.GroupTrees.{elements_of, groups_of}
use Rattle.sparql_tree.specs.Breaches as spec
use Rattle.sparql_scope.specs.Places.{AreLast}
use Rattle.sparql_tree.specs.Scopes.{scope_of, scope_of_groups}
use Rattle.sparql_scope.proofs.walks.+walks.Given as goal

-- behind what was added, what is left adds what all add
abbrev pub invariant-walk_elements-loop-element : goal.invariant-walk_elements-loop-element
invariant-walk_elements-loop-element l = record {
  names : l.places.names ++ scope_of (tree.elements (elements_of (drop l.element-index l.elements))) ≡ l.fn.places.names ++ scope_of (tree.elements (elements_of l.elements));
  last : AreLast l.places.last l.places.names;
  start : l.start ≤ length l.places.names;
  marks : l.marks.items ++ spec.marks_of (drop l.start l.places.names) (tree.elements (elements_of (drop l.element-index l.elements)))
      ≡ l.fn.marks.items ++ spec.marks_of (drop l.start l.fn.places.names) (tree.elements (elements_of l.elements));
}

abbrev pub invariant-walk_groups-loop-group : goal.invariant-walk_groups-loop-group
invariant-walk_groups-loop-group l = record {
  names : l.places.names ++ scope_of_groups (tree.groups (groups_of (drop l.group-index l.groups))) ≡ l.fn.places.names ++ scope_of_groups (tree.groups (groups_of l.groups));
  last : AreLast l.places.last l.places.names;
  marks : l.marks.items ++ spec.marks_of_groups (tree.groups (groups_of (drop l.group-index l.groups)))
      ≡ l.fn.marks.items ++ spec.behind_edge (spec.marks_of_groups (tree.groups (groups_of l.groups)));
}
