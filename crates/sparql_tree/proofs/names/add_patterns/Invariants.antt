use Rattle.std.proofs.Common.{◌≡◌, ◌++◌, drop, flat_map}
use Rattle.sparql_tree.specs.Scopes.{variables_in}
use Rattle.sparql_tree.proofs.names.add_patterns.Given as goal

-- what was added and what is left are the whole
abbrev pub invariant-loop-pattern : goal.invariant-loop-pattern
invariant-loop-pattern l = l.found ++ flat_map variables_in (drop l.pattern-index l.patterns) ≡ l.fn.found ++ flat_map variables_in l.patterns
