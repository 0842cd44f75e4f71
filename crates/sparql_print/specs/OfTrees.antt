-- Which expressions are those of trees (SPARQL 1.1, 19.8).
use Rattle.std.specs.Prelude.{Bool, List}
use Rattle.sparql_tree.specs.Exprs.{Expr}
use Rattle.sparql_tree.specs.declared.symbol.Symbol.{Symbol}
use Rattle.sparql_tree.specs.Expressions.{IsExpr}

-- some symbols are of this expression, where aggregates may stand or may not: it is of a tree
pub record IsOfTree (aggregates : Bool) (a : Expr) : Type 0 where
  pub tokens : List Symbol
  pub rest : List Symbol
  pub spelled : IsExpr aggregates tokens a rest
