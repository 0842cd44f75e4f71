-- The tree that is there, if any.
use Rattle.std.specs.Prelude.{Option, Some, None}
use Rattle.sparql_tree.specs.Algebra as tree
use Rattle.sparql_tree.specs.AlgebraTrees.{algebra_of}
use Rattle.sparql_tree.specs.declared.algebra.Algebra.{Algebra}

abbrev pub algebra_within : Option Algebra → Option tree.Algebra
algebra_within None = None
algebra_within (Some a) = Some (algebra_of a)
