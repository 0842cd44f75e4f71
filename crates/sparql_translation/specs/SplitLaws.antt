-- What is proved of splits.
use Rattle.std.specs.Prelude.{◌≡◌, List, map}
use Rattle.term_core.specs.declared.term.Triple.{Triple}
use Rattle.sparql_tree.specs.Algebra.{Algebra}
use Rattle.sparql_value.specs.Solutions.{eval}
use Rattle.sparql_translation.specs.Splits.{parts_of, tree_from, tree_solutions}

-- on all data the solutions of the parts, put into the tree, are those of the whole, as equal lists
abbrev pub SplitsKeepSolutions : Type 0
SplitsKeepSolutions = (D : List Triple) (a : Algebra) → tree_solutions (map (eval D) (parts_of a)) (tree_from 0 a) ≡ eval D a
