use Rattle.std.proofs.Common.{◌≡◌, drop}
use Rattle.std.specs.Prelude.{map, filter}
use Rattle.std.specs.BTreeSet.{contains_text}
use Rattle.sparql_tree.specs.Breaches.{first_name, variable_name}
use Rattle.sparql_scope.proofs.names.first_inside.Given as goal

-- what is left decides
abbrev pub invariant-loop-name : goal.invariant-loop-name
invariant-loop-name l = first_name (map variable_name (filter (contains_text l.taken) (drop l.name-index l.names)))
    ≡ first_name (map variable_name (filter (contains_text l.taken) l.names))
