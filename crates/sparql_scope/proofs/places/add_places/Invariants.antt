use Rattle.std.proofs.Common.{◌≡◌, ◌++◌, drop}
use Rattle.sparql_scope.specs.Places.{AreLast}
use Rattle.sparql_scope.proofs.places.add_places.Given as goal

-- behind what was added, what is left adds what all add
abbrev pub invariant-loop-name : goal.invariant-loop-name
invariant-loop-name l = record {
  names : l.places.names ++ drop l.name-index l.names ≡ l.fn.places.names ++ l.names;
  last : AreLast l.places.last l.places.names;
}
