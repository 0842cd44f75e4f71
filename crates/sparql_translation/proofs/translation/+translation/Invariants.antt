use Rattle.std.proofs.Common.{◌≡◌, [], drop}
use Rattle.sparql_tree.specs.AlgebraTrees.{algebra_of}
use Rattle.sparql_tree.specs.Groups as tree
use Rattle.sparql_tree.specs.GroupTrees.{elements_of, groups_of}
use Rattle.sparql_tree.specs.Translation.{unit, of_elements, of_groups}
use Rattle.sparql_translation.specs.Measures.{united}
use Rattle.sparql_translation.specs.Within.{algebra_within}
use Rattle.sparql_translation.proofs.translation.+translation.Given as goal

-- the operator so far with the parts left gives the whole
abbrev pub invariant-of_elements-loop-part : goal.invariant-of_elements-loop-part
invariant-of_elements-loop-part l =
    of_elements (algebra_of l.front.operator) l.front.patterns (tree.elements (elements_of (drop l.part-index l.parts))) ≡ of_elements unit [] (tree.elements (elements_of l.parts))

-- the union so far with the groups left gives the whole
abbrev pub invariant-of_groups-loop-group : goal.invariant-of_groups-loop-group
invariant-of_groups-loop-group l =
    united (algebra_within l.so_far) (tree.groups (groups_of (drop l.group-index l.groups))) ≡ of_groups (tree.groups (groups_of l.groups))
