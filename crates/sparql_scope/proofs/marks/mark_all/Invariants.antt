use Rattle.std.proofs.Common.{◌≡◌, ◌++◌, drop}
use Rattle.sparql_tree.specs.Breaches as spec
use Rattle.sparql_scope.proofs.marks.mark_all.Given as goal

-- behind what was added, what is left adds what all add
abbrev pub invariant-loop-name : goal.invariant-loop-name
invariant-loop-name l = l.marks.items ++ spec.declared_again (drop l.name-index l.names) ≡ l.fn.marks.items ++ spec.declared_again l.names
