use Rattle.std.proofs.Common.{◌≡◌, [], drop, List, Option}
use Rattle.term_core.specs.declared.pattern.Pattern.{Pattern}
use Rattle.sparql_tree.specs.Algebra.{Algebra}
use Rattle.sparql_tree.specs.Groups as tree
use Rattle.sparql_tree.specs.GroupTrees.{elements_of, groups_of}
use Rattle.sparql_tree.specs.Translation.{unit, of_elements, of_groups}
use Rattle.sparql_translation.specs.Measures.{IsFront, IsUnited, united}
use Rattle.sparql_translation.specs.declared.measure.Front.{Front}
use Rattle.sparql_translation.specs.declared.measure.Measure.{Measure}
use Rattle.sparql_translation.proofs.measuring.+measuring.Given as goal

-- the measure is of an operator and patterns that with the parts left give the whole
pub record IsFrontOf (front : Front) (left all : tree.Elements) : Type 0 where
  pub operator : Algebra
  pub patterns : List Pattern
  pub is : IsFront front operator patterns
  pub whole : of_elements operator patterns left ≡ of_elements unit [] all

-- the measure is of a union that with the groups left gives the whole
pub record IsUnionOf (so_far : Option Measure) (left all : tree.Groups) : Type 0 where
  pub before : Option Algebra
  pub is : IsUnited so_far before
  pub whole : united before left ≡ of_groups all

abbrev pub invariant-measure_elements-loop-element : goal.invariant-measure_elements-loop-element
invariant-measure_elements-loop-element l = IsFrontOf l.front (tree.elements (elements_of (drop l.element-index l.elements))) (tree.elements (elements_of l.elements))

abbrev pub invariant-measure_groups-loop-group : goal.invariant-measure_groups-loop-group
invariant-measure_groups-loop-group l = IsUnionOf l.so_far (tree.groups (groups_of (drop l.group-index l.groups))) (tree.groups (groups_of l.groups))
