-- The trees of the code's expressions.
use Rattle.std.specs.Prelude.{Bool, List, map, Option, Some, None}
use Rattle.sparql_tree.specs.Exprs as tree
use Rattle.sparql_tree.specs.declared.expr.Expr.{Expr, Row_of-Expr, end_of-Expr, more_of-Expr, Row_of-Signed, end_of-Signed, more_of-Signed, Row_of-Factor, end_of-Factor, more_of-Factor, Held-Expr-Aggregate-2, None', Some'}
use Rattle.sparql_tree.specs.declared.expr.Expr.TheVariants as code
use Rattle.sparql_tree.specs.declared.expr.Signed.{Signed}
use Rattle.sparql_tree.specs.declared.expr.Factor.{Factor}
use Rattle.sparql_tree.specs.declared.words.AggregateKind.{AggregateKind}

unfoldable mutual
  -- the tree that the code holds
  pub tree_of : Expr → tree.Expr
  tree_of (code.Var name) = tree.Var name
  tree_of (code.Const term) = tree.Const term
  tree_of (code.Or' shape parts) = tree.Or (row_of parts)
  tree_of (code.And' shape parts) = tree.And (row_of parts)
  tree_of (code.Not' p value) = tree.Not (tree_of value)
  tree_of (code.Plus' p value) = tree.Plus (tree_of value)
  tree_of (code.Minus' p value) = tree.Minus (tree_of value)
  tree_of (code.Compare' op p left q right) = tree.Compare op (tree_of left) (tree_of right)
  tree_of (code.OneOf' p left shape items negated) = tree.OneOf (tree_of left) (row_of items) negated
  tree_of (code.Sum' p first shape rest) = tree.Sum (tree_of first) (signed_of rest)
  tree_of (code.Product' p first shape rest) = tree.Product (tree_of first) (factored_of rest)
  tree_of (code.Call' function shape arguments) = tree.Call function (row_of arguments)
  tree_of (code.Aggregate' kind distinct argument) = aggregate_of kind distinct argument

  pub row_of : {n : _} → Row_of-Expr n → tree.Exprs
  row_of end_of-Expr = tree.EndOfExprs
  row_of (more_of-Expr first rest) = tree.ThenExpr (tree_of first) (row_of rest)

  pub signed_of : {n : _} → Row_of-Signed n → tree.Operands
  signed_of end_of-Signed = tree.EndOfOperands
  signed_of (more_of-Signed minus value rest) = tree.ThenOperand minus (tree_of value) (signed_of rest)

  pub factored_of : {n : _} → Row_of-Factor n → tree.Operands
  factored_of end_of-Factor = tree.EndOfOperands
  factored_of (more_of-Factor divide value rest) = tree.ThenOperand divide (tree_of value) (factored_of rest)

  pub aggregate_of : AggregateKind → Bool → Held-Expr-Aggregate-2 → tree.Expr
  aggregate_of kind distinct None' = tree.AggregateAll kind distinct
  aggregate_of kind distinct (Some' p argument) = tree.Aggregate kind distinct (tree_of argument)

-- the trees of a list
abbrev pub trees_of : List Expr → List tree.Expr
trees_of values = map tree_of values

-- an operand of a sum
abbrev pub sign_of : Signed → Bool × tree.Expr
sign_of signed = (signed.minus, tree_of signed.value)

-- the operands of a sum
abbrev pub signs_of : List Signed → List (Bool × tree.Expr)
signs_of values = map sign_of values

-- an operand of a product
abbrev pub factor_of : Factor → Bool × tree.Expr
factor_of factor = (factor.divide, tree_of factor.value)

-- the operands of a product
abbrev pub factors_of : List Factor → List (Bool × tree.Expr)
factors_of values = map factor_of values

-- the tree that is there, if any
abbrev pub tree_within : Option Expr → Option tree.Expr
tree_within None = None
tree_within (Some value) = Some (tree_of value)
