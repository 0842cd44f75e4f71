-- The operator so far and the triple patterns behind it, one part further.
use Rattle.std.proofs.Common.{◌≡◌, refl, List, Some, None, Option}
use Rattle.term_core.specs.declared.pattern.Pattern.{Pattern}
use Rattle.sparql_tree.specs.Algebra.{Algebra}
use Rattle.sparql_tree.specs.Groups.{Element, Elements, Group, Groups, GroupOf, ThenElement, ThenGroup, Triples, Union, Optional, Minus, Filter, Bind, Values}
use Rattle.sparql_tree.specs.Translation.{of_elements, of_group}
use Rattle.sparql_translation.specs.Measures.{behind_part, open_patterns, union_with, united}

pub part_further : (a : Algebra) (ps : List Pattern) (first : Element) (rest : Elements) → of_elements a ps (ThenElement first rest) ≡ of_elements (behind_part a ps first) (open_patterns ps first) rest
part_further a ps (Triples more) rest = refl
part_further a ps (Filter value) rest = refl
part_further a ps (Union groups) rest = refl
part_further a ps (Optional (GroupOf elements)) rest = refl
part_further a ps (Minus group) rest = refl
part_further a ps (Bind value variable) rest = refl
part_further a ps (Values variables rows) rest = refl

pub group_further : (before : Option Algebra) (first : Group) (rest : Groups) → united before (ThenGroup first rest) ≡ united (Some (union_with before (of_group first))) rest
group_further None first rest = refl
group_further (Some a) first rest = refl
