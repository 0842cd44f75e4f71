-- The parts of a group that are there, if any.
use Rattle.std.specs.Prelude.{List, [], ◌∷◌, Option, Some, None}
use Rattle.sparql_tree.specs.Groups as tree
use Rattle.sparql_tree.specs.GroupTrees.{element_of}
use Rattle.sparql_tree.specs.declared.group.Element.{Element}

abbrev pub elements_there : Option Element → List tree.Element
elements_there None = []
elements_there (Some element) = element_of element ∷ []
