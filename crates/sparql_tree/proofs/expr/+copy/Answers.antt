use Rattle.std.proofs.Common.{arith}
use Rattle.sparql_tree.proofs.ExprViews.{one_of_view}
use Rattle.sparql_tree.proofs.expr.+copy.Goals as goal

pub Expr::copy-returns-in_ok-items-in-OneOf : goal.Expr::copy-returns-in_ok-items-in-OneOf
Expr::copy-returns-in_ok-items-in-OneOf t c = grind (arith, one_of_view, c.in-OneOf.is, c.one_of.ensures)
