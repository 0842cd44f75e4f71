use Rattle.std.proofs.Common.{◌≡◌, ◌++◌, drop}
use Rattle.std.specs.Prelude.{flat_map}
use Rattle.sparql_scope.specs.Places.{AreLast}
use Rattle.sparql_tree.specs.Scopes.{variables_in}
use Rattle.sparql_scope.proofs.marks.add_variables.Given as goal

-- behind what was added, what is left adds what all add
abbrev pub invariant-loop-pattern : goal.invariant-loop-pattern
invariant-loop-pattern l = record {
  names : l.places.names ++ flat_map variables_in (drop l.pattern-index l.patterns) ≡ l.fn.places.names ++ flat_map variables_in l.patterns;
  last : AreLast l.places.last l.places.names;
}
