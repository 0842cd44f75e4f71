use Rattle.std.proofs.Common.{◌≡◌, ◌++◌, drop}
use Rattle.std.specs.Prelude.{map, flat_map}
use Rattle.sparql_tree.specs.Breaches as spec
use Rattle.sparql_tree.specs.Scopes.{labels_in}
use Rattle.sparql_scope.proofs.marks.mark_labels.Given as goal

-- behind what was added, what is left adds what all add
abbrev pub invariant-loop-pattern : goal.invariant-loop-pattern
invariant-loop-pattern l = l.marks.items ++ map spec.label (flat_map labels_in (drop l.pattern-index l.patterns)) ≡ l.fn.marks.items ++ map spec.label (flat_map labels_in l.patterns)
