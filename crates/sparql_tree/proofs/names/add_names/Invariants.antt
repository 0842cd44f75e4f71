use Rattle.std.proofs.Common.{◌≡◌, ◌++◌, drop}
use Rattle.sparql_tree.proofs.names.add_names.Given as goal

-- what was added and what is left are the whole
abbrev pub invariant-loop-name : goal.invariant-loop-name
invariant-loop-name l = l.found ++ drop l.name-index l.names ≡ l.fn.found ++ l.names
