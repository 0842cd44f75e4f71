use Rattle.std.proofs.Common.{◌≡◌, ◌++◌, [], take, drop}
use Rattle.sparql_tree.specs.NameSets.{HasNames}
use Rattle.sparql_tree.specs.Breaches.{repeated}
use Rattle.sparql_scope.proofs.names.repeated_names.Given as goal

-- behind what was found, what is left adds what all add
abbrev pub invariant-loop-name : goal.invariant-loop-name
invariant-loop-name l = record {
  found : l.found ++ repeated (take l.name-index l.names) (drop l.name-index l.names) ≡ repeated [] l.names;
  seen : HasNames l.seen (take l.name-index l.names);
}
