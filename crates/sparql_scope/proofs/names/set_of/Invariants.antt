use Rattle.std.proofs.Common.{take}
use Rattle.sparql_tree.specs.NameSets.{HasNames}
use Rattle.sparql_scope.proofs.names.set_of.Given as goal

-- the set has those that were added
abbrev pub invariant-loop-name : goal.invariant-loop-name
invariant-loop-name l = HasNames l.seen (take l.name-index l.names)
