use Rattle.std.proofs.Common.{take, map}
use Rattle.sparql_tree.specs.ExprTrees.{trees_of}
use Rattle.sparql_translation.specs.Measures.{AreSums}
use Rattle.sparql_translation.proofs.measuring.sums_of_all.Given as goal

abbrev pub invariant-loop-value : goal.invariant-loop-value
invariant-loop-value l = AreSums l.sums (trees_of (take l.value-index l.values))
