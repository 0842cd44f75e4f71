-- The trees of the code's operators.
use Rattle.sparql_tree.specs.ExprTrees.{tree_of, tree_within}
use Rattle.sparql_tree.specs.Algebra as tree
use Rattle.sparql_tree.specs.declared.algebra.Algebra.{Algebra}
use Rattle.sparql_tree.specs.declared.algebra.Algebra.TheVariants as code

-- the tree that the code holds
unfoldable pub algebra_of : Algebra → tree.Algebra
algebra_of (code.Bgp patterns) = tree.Bgp patterns
algebra_of (code.Join' p left q right) = tree.Join (algebra_of left) (algebra_of right)
algebra_of (code.LeftJoin' p left q right condition) = tree.LeftJoin (algebra_of left) (algebra_of right) (tree_within condition)
algebra_of (code.Minus' p left q right) = tree.Minus (algebra_of left) (algebra_of right)
algebra_of (code.Union' p left q right) = tree.Union (algebra_of left) (algebra_of right)
algebra_of (code.Filter' condition p inner) = tree.Filter (tree_of condition) (algebra_of inner)
algebra_of (code.Extend' p inner variable value) = tree.Extend (algebra_of inner) variable (tree_of value)
algebra_of (code.Table variables rows) = tree.Table variables rows
