-- The trees, parts and splits of the code, apart from where they lie in memory.
use Rattle.std.specs.Prelude.{map}
use Rattle.sparql_tree.specs.AlgebraTrees.{algebra_of}
use Rattle.sparql_tree.specs.ExprTrees.{tree_of, tree_within}
use Rattle.sparql_tree.specs.GroupTrees.{query_of}
use Rattle.sparql_translation.specs.Splits as pure
use Rattle.sparql_algebra.specs.Cuts.{PartOf}
use Rattle.sparql_algebra.specs.Cuts as cuts
use Rattle.sparql_algebra.specs.declared.tree.Tree.{Tree}
use Rattle.sparql_algebra.specs.declared.tree.Tree.TheVariants as code
use Rattle.sparql_algebra.specs.declared.splitting.Part.{Part}
use Rattle.sparql_algebra.specs.declared.splitting.Split.{Split}

-- the tree that the code holds
unfoldable pub pure_tree : Tree → pure.Tree
pure_tree (code.Part number) = pure.Part number
pure_tree (code.Join' p left q right) = pure.Join (pure_tree left) (pure_tree right)
pure_tree (code.LeftJoin' p left q right condition) = pure.LeftJoin (pure_tree left) (pure_tree right) (tree_within condition)
pure_tree (code.Minus' p left q right) = pure.Minus (pure_tree left) (pure_tree right)
pure_tree (code.Union' p left q right) = pure.Union (pure_tree left) (pure_tree right)
pure_tree (code.Filter' condition p inner) = pure.Filter (tree_of condition) (pure_tree inner)
pure_tree (code.Extend' p inner variable value) = pure.Extend (pure_tree inner) variable (tree_of value)

-- a part
abbrev pub pure_part : Part → PartOf
pure_part part = record { operators = algebra_of part.algebra; text = part.text; names = part.variables }

-- a split
abbrev pub pure_split : Split → cuts.Split
pure_split split = record {
  query = query_of split.query;
  parts = map pure_part split.parts;
  tree = pure_tree split.tree;
  answer = split.variables;
}
