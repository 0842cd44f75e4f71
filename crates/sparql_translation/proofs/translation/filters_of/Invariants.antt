use Rattle.std.proofs.Common.{◌≡◌, take}
use Rattle.sparql_tree.specs.ExprTrees.{trees_of}
use Rattle.sparql_tree.specs.Groups as tree
use Rattle.sparql_tree.specs.GroupTrees.{elements_of}
use Rattle.sparql_tree.specs.Translation.{filters_in}
use Rattle.sparql_translation.proofs.translation.filters_of.Given as goal

abbrev pub invariant-loop-part : goal.invariant-loop-part
invariant-loop-part l = trees_of l.found.items ≡ filters_in (tree.elements (elements_of (take l.part-index l.parts)))
