use Rattle.std.proofs.Common.{take}
use Rattle.sparql_tree.specs.Groups as tree
use Rattle.sparql_tree.specs.GroupTrees.{elements_of}
use Rattle.sparql_tree.specs.Translation.{filters_in}
use Rattle.sparql_translation.specs.Measures.{AreSums}
use Rattle.sparql_translation.proofs.measuring.sums_of_filters.Given as goal

abbrev pub invariant-loop-element : goal.invariant-loop-element
invariant-loop-element l = AreSums l.sums (filters_in (tree.elements (elements_of (take l.element-index l.elements))))
