use Rattle.std.proofs.Common.{◌≡◌, drop}
use Rattle.std.specs.Prelude.{map, filter, not}
use Rattle.std.specs.BTreeSet.{contains_text}
use Rattle.sparql_tree.specs.Breaches.{first_name, variable_name}
use Rattle.sparql_scope.proofs.names.first_outside.Given as goal

-- what is left decides
abbrev pub invariant-loop-name : goal.invariant-loop-name
invariant-loop-name l = first_name (map variable_name (filter (λ name. not (contains_text l.allowed name)) (drop l.name-index l.names)))
    ≡ first_name (map variable_name (filter (λ name. not (contains_text l.allowed name)) l.names))
